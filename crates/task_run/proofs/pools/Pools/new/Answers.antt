use Rattle.std.proofs.Common.{ℕ, [], length, ap, sym, ◌∙◌, replicate, pos}
use Rattle.task_run.specs.Pools.{AreBelow}
use Rattle.task_run.proofs.PoolLemmas.{below_along, more_elems, one_pool, pools_along, pools_along_left}
use Rattle.task_run.proofs.pools.Pools.new.Goals as goal

none_known : (types : ℕ) → AreBelow types []
none_known types n k is = absurd cc

pub invariant_of-result : goal.invariant_of-result
invariant_of-result c = (
  pools_along c.loop-elems.pools.items c.new.ensures c.loop-elems.invariant.pools,
  below_along (length c.loop-elems.pools.items) c.new.ensures (none_known (length c.loop-elems.pools.items)),
)

pub loop-elems-preserved : goal.loop-elems-preserved
loop-elems-preserved c =
    let pools = c.loop-elems.pools.items in
    let p = c.in_ok-new_pool.field-0 in
    let made = c.in_ok-new_pool.ensures in
    record {
      pools = pools_along_left (sym c.in_ok-push.ensures.items)
          (one_pool pools p c.loop-elems.invariant.pools made.room made.spare
          (made.zeros ∙ ap (λ n. replicate n (pos 0)) (sym made.elems)));
      elems = more_elems pools p c.push.new.self.items c.as_slice-elems-items.result.now c.loop-elems.elems-index
          c.in_ok-push.ensures.items c.loop-elems.invariant.elems c.loop-elems-test.true made.elems;
    }
