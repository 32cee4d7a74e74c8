use Rattle.std.proofs.Common.{IsTrue, take}
use Rattle.trace_core.specs.Cutting.{is_free_of}
use Rattle.trace_core.proofs.cutting.length_before.Given as goal

abbrev pub invariant-bytes : goal.invariant-bytes
invariant-bytes l = IsTrue (is_free_of l.end (take l.i l.bytes))
