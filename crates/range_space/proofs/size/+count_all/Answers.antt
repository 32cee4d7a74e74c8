use Rattle.std.proofs.Common.{add-one, []}
use Rattle.std.proofs.lemmas.Result.{MatchResult-weaker, on_ok_weaker}
use Rattle.range_space.specs.Walk.{walk}
use Rattle.range_space.proofs.Counting.{walked_more, fault_after}
use Rattle.range_space.proofs.size.+count_all.Goals as goal

pub returns-clause-ok : goal.returns-clause-ok
returns-clause-ok t c =
    let s = c.in-Some.space.now in
    let w = rw (c.as_slice.ensures, c.new-outer.ensures) at c.in_ok-count_from.ensures.ok in
    let more = rw add-one at c.count_all.ensures.ok in
    rw c.in-Some.ensures.cases.0 (on_ok_weaker c.count_all.result (walked_more _ _ _ _ _ _ (walk c.args.class s.defs []) _ w) more)

pub returns-clause-fault : goal.returns-clause-fault
returns-clause-fault t c =
    let s = c.in-Some.space.now in
    let w = rw (c.as_slice.ensures, c.new-outer.ensures) at c.in_ok-count_from.ensures.ok in
    let more = rw add-one at c.count_all.ensures.fault in
    rw c.in-Some.ensures.cases.0 (MatchResult-weaker c.count_all.result more (λ x h. h) (λ f. fault_after _ _ _ _ (walk c.args.class s.defs []) _ f w))
