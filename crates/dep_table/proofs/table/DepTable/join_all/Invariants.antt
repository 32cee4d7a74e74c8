use Rattle.std.proofs.Common.{vec_len}
use Rattle.dep_table.specs.Tables.{id_of}
use Rattle.dep_table.proofs.Closings.{IsJoinedSoFar}
use Rattle.dep_table.proofs.table.DepTable.join_all.Given as goal

abbrev pub invariant-loop-pass : goal.invariant-loop-pass
invariant-loop-pass l = IsJoinedSoFar (id_of l.self) l.fn.passes.items l.passes.items l.last

abbrev pub decreases-loop-pass : goal.decreases-loop-pass
decreases-loop-pass l = vec_len l.passes
