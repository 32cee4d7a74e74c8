use Rattle.std.proofs.Common.{◌≡◌, length, take}
use Rattle.flow_meaning.specs.Starting.{tiles_from}
use Rattle.task_run.specs.Start.{HasInputsFrom, delivered}
use Rattle.task_run.proofs.bench.Bench.lay_all.Given as goal

abbrev pub invariant-loop-flow : goal.invariant-loop-flow
invariant-loop-flow l = record {
  elems : l.self.elems ≡ l.fn.self.elems;
  tiles : l.self.tiles ≡ tiles_from l.start.at.now.plan.now l.start.given.now
      (delivered l.start.at.now.plan.now l.start.given.now)
      l.start.at.now.task.now 0 (take l.flow-index l.flow-items);
  count : length l.self.tiles ≡ l.flow-index;
  inputs : HasInputsFrom l.start.at.now.plan.now l.start.given.now l.start.at.now.task.now (length l.self.tiles)
      l.arrivals;
}
