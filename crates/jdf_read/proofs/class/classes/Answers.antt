use Rattle.std.proofs.Common.{◌≡◌, ◌-◌, length, true, sym, ap, ◌∙◌, subst, arith, rules}
use Rattle.jdf_lex.specs.Codes.{TooManyClasses}
use Rattle.jdf_lex.specs.Sets.{starts}
use Rattle.jdf_tree.specs.declared.part.Part.TheVariants.{Class}
use Rattle.jdf_tree.specs.GrammarParts.{names}
use Rattle.ptg_base.specs.Returns.{ReturnsRefusal}
use Rattle.grammar_core.specs.declared.code.Code.{Code}
use Rattle.grammar_core.specs.Reading.{reading}
use Rattle.grammar_core.specs.Refusing.{ReadRefusal, fault_with}
use Rattle.jdf_tree.specs.Grammar.{productions, class_and_skips, classes}
use Rattle.jdf_tree.proofs.CallerLemmas.{list_moves}
use Rattle.jdf_read.proofs.ListSteps.{counted_goes_on, counted_fails, counted_is_full, counted_ends}
use Rattle.jdf_read.proofs.Listed.{classes_listed, classes_fail}
use Rattle.jdf_read.proofs.Counts.{room, another_within, first_within}
use Rattle.jdf_read.proofs.class.classes.Goals as goal
use Rattle.list_lemmas.proofs.Joins.{length_longer}

pub more-smaller : goal.more-smaller
more-smaller c = omega (arith, list_moves {g = class_and_skips} _ _ _ classes_listed c.in_ok-next.ensures)

pub more-init : goal.more-init
more-init c =
    let first = first_within c.args.tokens.now c.in_ok-first.first c.in_ok-first.rest.now c.new-list.result
    c.push.new.self c.new-list.ensures c.in_ok-push.ensures.ok c.in_ok-first.ensures in
    record { reads = first.reads; at_most = first.at_most; some = first.some }

pub more-preserved : goal.more-preserved
more-preserved c =
    let up = length_longer c.more.list c.push-in-more.new.self c.in_ok-next.next c.in_ok-push-2.ensures.ok in
    let within = another_within (length c.more.list) (length c.push-in-more.new.self) c.len.result c.len.ensures
    c.if-len-eq-MOST_CLASSES.false c.more.invariant.at_most c.more.invariant.some up in
    record {
      reads = counted_goes_on 63 TooManyClasses (length c.more.list - 1) (length c.push-in-more.new.self - 1)
          c.more.list c.more.rest.now c.in_ok-next.next c.in_ok-next.after.now _ c.push-in-more.new.self
          classes_listed c.in_ok-push-2.ensures.ok within.room within.next
          (sym c.is_name_next.ensures ∙ c.more-test.true) c.in_ok-next.ensures c.more.invariant.reads;
      at_most = within.at_most;
      some = within.some;
    }

pub returns-then-len-eq-MOST_CLASSES : goal.returns-then-len-eq-MOST_CLASSES
returns-then-len-eq-MOST_CLASSES c =
    let some = c.more.invariant.some in
    let full : length c.more.list - 1 ≡ 63 = omega (arith, c.len.ensures, some) in
    let comes : starts (names Class) c.more.rest.now ≡ true = sym c.is_name_next.ensures ∙ c.more-test.true in
    subst (λ (e : ReadRefusal). ReturnsRefusal e (reading productions classes c.args.tokens.now))
    (sym (c.refusal_at.ensures ∙ ap (λ (d : Code). fault_with (length c.more.rest.now) d) c.code.ensures))
    (counted_is_full 63 TooManyClasses (length c.more.list - 1) c.more.list c.more.rest.now _ classes_listed full comes c.more.invariant.reads)

pub returns : goal.returns
returns c = counted_ends 63 TooManyClasses (length c.more.list - 1) c.more.list c.more.rest.now _ classes_listed
    (sym c.is_name_next.ensures ∙ c.more-test.false) c.more.invariant.reads

pub returns-in_err-first : goal.returns-in_err-first
returns-in_err-first c = let f = classes_fail c.in_err-first.field-0.0 c.args.tokens.now c.in_err-first.ensures in search rules

pub returns-in_err-next : goal.returns-in_err-next
returns-in_err-next c =
    let f = counted_fails 63 TooManyClasses c.in_err-next.field-0.0 (length c.more.list - 1) c.more.list
    c.more.rest.now _ classes_listed (room c.len.result (length c.more.list) c.len.ensures
    c.if-len-eq-MOST_CLASSES.false c.more.invariant.at_most) (sym c.is_name_next.ensures ∙ c.more-test.true)
    c.in_err-next.ensures c.more.invariant.reads in
    search rules
