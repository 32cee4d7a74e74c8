use Rattle.std.proofs.Common.{◌+◌, ◌<◌, ◌⊎◌, inl, inr, length, arith}
use Rattle.std.proofs.lemmas.Bool.{cases_lt}
use Rattle.range_space.specs.Values.{values}
use Rattle.range_space.proofs.Counting.{values_counted, values_refused}
use Rattle.range_space.proofs.size.count_last.Goals as goal

pub returns-then-count-from-clause-fault : goal.returns-then-count-from-clause-fault
returns-then-count-from-clause-fault c =
    let s = c.args.steps.now in
    let n = c.args.counts.now in
    let t = n.tasks_at_most in
    let p = n.prefixes_at_most in
    let more : (1000000 < n.tasks + length (values s.lo s.hi s.step)) ⊎ (16000000 < n.prefixes + length (values s.lo s.hi s.step)) =
    elim (cases_lt 1000000 (n.tasks + length (values s.lo s.hi s.step))) [ inl a ↦ inl a | inr b ↦ inr (omega arith) ] in
    values_refused _ _ c.args.class _ t p more

pub returns-clause-ok : goal.returns-clause-ok
returns-clause-ok c =
    let n = c.args.counts.now in
    let t = n.tasks_at_most in
    let p = n.prefixes_at_most in
    values_counted _ _ _ _ c.args.class _ (omega arith) (omega arith) (omega arith) (omega arith)
