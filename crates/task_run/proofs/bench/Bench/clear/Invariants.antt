use Rattle.std.proofs.Common.{◌≡◌, ◌+◌, length}
use Rattle.task_run.proofs.bench.Bench.clear.Given as goal

abbrev pub invariant-loop-flow : goal.invariant-loop-flow
invariant-loop-flow l = record {
  elems : l.self.elems ≡ l.fn.self.elems;
  left : length l.self.tiles + l._flow
      ≡ l._flow-end;
}
