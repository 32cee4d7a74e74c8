use Rattle.std.proofs.Common.{length, None}
use Rattle.task_run.proofs.PoolLemmas.{below_more, none_lent, pools_along, below_along}
use Rattle.task_run.proofs.pools.Pools.lend_none.Goals as goal

pub invariant_of-self : goal.invariant_of-self
invariant_of-self c =
    let pools = c.self.inside.pools.items in
    let lent = c.self.inside.lent.items in (
      pools_along pools c.push.ensures.items (none_lent pools lent c.self.invariant.0),
      below_along (length pools) c.push.ensures.items (below_more (length pools) lent None c.self.invariant.1
          (λ k e. absurd cc)),
    )
