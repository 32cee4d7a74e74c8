use Rattle.std.proofs.Common.{◌≡◌}
use Rattle.std.specs.List.{All}
use Rattle.flow_meaning.specs.Final.{replaced_data}
use Rattle.run_answer.specs.Written.{IsWritable}
use Rattle.run_answer.proofs.Replacing.{written_to}
use Rattle.run_answer.proofs.written.with_written.Given as goal

-- the write-backs left may be made, and lead to the same result
abbrev pub invariant-loop-write : goal.invariant-loop-write
invariant-loop-write l = record {
  writable : All (IsWritable l.given) l.written.items;
  same : replaced_data (written_to l.written.items) l.given ≡ replaced_data (written_to l.fn.written.items) l.fn.given;
}

abbrev pub decreases-loop-write : goal.decreases-loop-write
decreases-loop-write l = goal.left-loop-write l
