-- The integers of data.
-- Carried by: law `integers_have_64_bits`.
use Rattle.std.specs.Prelude.{ℕ, ℤ, Bool, List}
use Rattle.term_core.specs.Arith.{is_number}

-- whether the value of an integer, which follows its name, has 64 bits
abbrev pub has_64_bits : List ℕ × ℤ → Bool
has_64_bits (name, value) = is_number value
