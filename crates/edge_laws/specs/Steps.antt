-- The progression of a range.
-- Carried by: law `values_are_a_progression`.
use Rattle.std.specs.Prelude.{ℕ, zero, suc, ℤ, ◌+ℤ◌}

-- the number that is this many steps from lo
abbrev pub steps_from : ℤ → ℤ → ℕ → ℤ
steps_from lo step zero = lo
steps_from lo step (suc k) = steps_from (lo +ℤ step) step k
