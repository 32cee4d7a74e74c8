use Rattle.std.proofs.Common.{◌≡◌, [], take}
use Rattle.task_run.specs.PoolList.{ArePools}
use Rattle.task_run.proofs.Lending.{elems_of}
use Rattle.task_run.proofs.pools.Pools.new.Given as goal

abbrev pub invariant-loop-elems : goal.invariant-loop-elems
invariant-loop-elems l = record {
  pools : ArePools l.pools.items [];
  elems : elems_of l.pools.items
      ≡ take l.elems-index l.elems-items;
}
