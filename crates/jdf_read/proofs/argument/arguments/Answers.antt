use Rattle.std.proofs.Common.{List, [], ◌∷◌, ◌++◌, sym, ap, ◌∙◌, rules}
use Rattle.jdf_tree.specs.declared.tree.ArgTree.{ArgTree}
use Rattle.jdf_read.specs.Next.{next_argument}
use Rattle.jdf_tree.proofs.CallerLemmas.{list_moves, rest_ends, rest_fails, rest_goes_on}
use Rattle.jdf_read.proofs.Listed.{arguments_listed, arguments_after_first, arguments_fail}
use Rattle.jdf_read.proofs.argument.arguments.Goals as goal

pub more-smaller : goal.more-smaller
more-smaller c = list_moves {g = next_argument} _ _ _ arguments_listed c.in_ok-next.ensures

pub more-init : goal.more-init
more-init c =
    arguments_after_first c.args.tokens.now c.in_ok-first.first c.in_ok-first.rest.now c.push.new.self
    (c.in_ok-push.ensures.ok ∙ ap (λ (empty : List ArgTree). empty ++ c.in_ok-first.first ∷ [])
    c.new-list.ensures) c.in_ok-first.ensures

pub more-preserved : goal.more-preserved
more-preserved c =
    rest_goes_on c.more.list c.more.rest.now c.in_ok-next.next c.in_ok-next.after.now _ c.push-in-more.new.self
    arguments_listed c.in_ok-push-2.ensures.ok (sym c.is_next.ensures ∙ c.more-test.true) c.in_ok-next.ensures
    c.more.invariant

pub returns : goal.returns
returns c = rest_ends c.more.list c.more.rest.now _ arguments_listed (sym c.is_next.ensures ∙ c.more-test.false) c.more.invariant

pub returns-in_err-first : goal.returns-in_err-first
returns-in_err-first c =
    let fails = arguments_fail c.in_err-first.field-0.0 c.args.tokens.now c.in_err-first.ensures in
    search rules

pub returns-in_err-next : goal.returns-in_err-next
returns-in_err-next c =
    let fails = rest_fails c.in_err-next.field-0.0 c.more.list c.more.rest.now _ arguments_listed
    (sym c.is_next.ensures ∙ c.more-test.true) c.in_err-next.ensures c.more.invariant in
    search rules
