use Rattle.std.proofs.Common.{◌≡◌, take}
use Rattle.chain_cert.specs.Finding.{rows_by}
use Rattle.chain_cert.proofs.leveling.rows_by.Given as goal

abbrev pub invariant-loop-t : goal.invariant-loop-t
invariant-loop-t l = l.rows.items ≡ rows_by l.table.entries (take l.t-index l.tasks)
