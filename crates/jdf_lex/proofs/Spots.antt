-- Bounds of the line and the column of a spot.
use Rattle.std.proofs.Common.{ℕ, ◌+◌, ◌≤◌, List, length, take, arith}
use Rattle.std.proofs.lemmas.List.{length-take-le}
use Rattle.std.proofs.lemmas.List.Sums.{suffix_len-le-length}
use Rattle.jdf_lex.specs.Spelling.{is_not_lf}
use Rattle.jdf_lex.specs.Tokens.{spot_after}

pub column_bound : (text : List ℕ) (index : ℕ) → index ≤ length text → (spot_after (take index text)).column ≤ 1 + index
column_bound text index within = omega (arith, suffix_len-le-length is_not_lf (take index text), length-take-le index text within)
