use Rattle.std.proofs.Common.{take}
use Rattle.chain_cert.specs.Finding.{IsHeaviestRow}
use Rattle.chain_cert.proofs.longest.heaviest_row.Given as goal

abbrev pub invariant-loop-row : goal.invariant-loop-row
invariant-loop-row l = IsHeaviestRow (take l.row-index l.rows) l.best
