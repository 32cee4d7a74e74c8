use Rattle.std.proofs.Common.{sym, ap, ◌∙◌, subst, length, rules}
use Rattle.jdf_lex.specs.Codes.{TooManyFlows}
use Rattle.ptg_base.specs.Returns.{ReturnsRefusal}
use Rattle.grammar_core.specs.declared.code.Code.{Code}
use Rattle.grammar_core.specs.Reading.{reading}
use Rattle.grammar_core.specs.Refusing.{ReadRefusal, fault_with}
use Rattle.jdf_tree.specs.ClassGrammar.{flow, flows}
use Rattle.jdf_tree.specs.Grammar.{productions}
use Rattle.jdf_tree.proofs.CallerLemmas.{list_moves}
use Rattle.jdf_read.proofs.ListSteps.{counted_goes_on, counted_fails, counted_is_full, counted_ends}
use Rattle.jdf_read.proofs.Counts.{room_left, still_within, none_within}
use Rattle.jdf_read.proofs.Listed.{flows_listed, flows_begin}
use Rattle.jdf_read.proofs.flow.flows.Goals as goal
use Rattle.list_lemmas.proofs.Joins.{length_longer}

pub more-smaller : goal.more-smaller
more-smaller c = list_moves {g = flow} _ _ _ flows_listed c.in_ok-next.ensures

pub more-init : goal.more-init
more-init c = rw c.new-list.ensures record { reads = flows_begin c.args.tokens.now; at_most = none_within 8 }

pub more-preserved : goal.more-preserved
more-preserved c =
    let room = room_left 8 (length c.more.list) c.len.result c.len.ensures c.if-len-eq-MOST_FLOWS.false c.more.invariant.at_most in
    let up = length_longer c.more.list c.push.new.self c.in_ok-next.next c.in_ok-push.ensures.ok in
    record {
      reads = counted_goes_on 8 TooManyFlows (length c.more.list) (length c.push.new.self) c.more.list
          c.more.rest.now c.in_ok-next.next c.in_ok-next.after.now _ c.push.new.self flows_listed
          c.in_ok-push.ensures.ok room up (sym c.is_kind_next.ensures ∙ c.more-test.true) c.in_ok-next.ensures
          c.more.invariant.reads;
      at_most = still_within 8 (length c.more.list) (length c.push.new.self) room up;
    }

pub returns : goal.returns
returns c = counted_ends 8 TooManyFlows (length c.more.list) c.more.list c.more.rest.now _ flows_listed
    (sym c.is_kind_next.ensures ∙ c.more-test.false) c.more.invariant.reads

pub returns-in_err-next : goal.returns-in_err-next
returns-in_err-next c =
    let room = room_left 8 (length c.more.list) c.len.result c.len.ensures c.if-len-eq-MOST_FLOWS.false c.more.invariant.at_most in
    let fails = counted_fails 8 TooManyFlows c.in_err-next.field-0.0 (length c.more.list) c.more.list
    c.more.rest.now _ flows_listed room (sym c.is_kind_next.ensures ∙ c.more-test.true) c.in_err-next.ensures
    c.more.invariant.reads in
    search rules

pub returns-then-len-eq-MOST_FLOWS : goal.returns-then-len-eq-MOST_FLOWS
returns-then-len-eq-MOST_FLOWS c =
    subst (λ (e : ReadRefusal). ReturnsRefusal e (reading productions flows c.args.tokens.now))
    (sym (c.refusal_at.ensures ∙ ap (λ (d : Code). fault_with (length c.more.rest.now) d) c.code.ensures))
    (counted_is_full 8 TooManyFlows (length c.more.list) c.more.list c.more.rest.now _ flows_listed
    (sym c.len.ensures ∙ c.if-len-eq-MOST_FLOWS.true) (sym c.is_kind_next.ensures ∙ c.more-test.true)
    c.more.invariant.reads)
