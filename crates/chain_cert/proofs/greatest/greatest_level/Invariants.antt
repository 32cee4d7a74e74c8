use Rattle.std.proofs.Common.{◌≡◌, max, drop}
use Rattle.chain_cert.specs.Checked.{greatest_level}
use Rattle.chain_cert.proofs.greatest.greatest_level.Given as goal

abbrev pub invariant-loop-row : goal.invariant-loop-row
invariant-loop-row l = max l.greatest (greatest_level (drop l.row-index l.rows)) ≡ greatest_level l.rows
