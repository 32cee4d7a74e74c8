-- The values of a range. Source: the JDF documentation, in unbounded whole numbers, so that no sum overflows.
-- Carried by: `Steps::values`, `Steps::count`, `Steps::has`; law `edge_laws::values_are_a_progression`.
-- Tested by: `edges.txt`, `check_codes.txt`.
use Rattle.std.specs.Prelude.{ℕ, zero, suc, ℤ, pos, negsuc, ◌+ℤ◌, ◌-ℤ◌, unsigned_abs, int_le, Bool, false, List, [], ◌∷◌, Option, Some, None, if◌then◌else◌}

-- whether v is still within hi in the direction of the step: at most hi if the step is positive, at least hi if it is
-- negative, never if it is 0
abbrev pub is_within : ℤ → ℤ → ℤ → Bool
is_within hi (pos zero) v = false
is_within hi (pos (suc n)) v = int_le v hi
is_within hi (negsuc n) v = int_le hi v

-- v, v + step and so on while they are within hi, but at most this many
unfoldable pub while_within : ℤ → ℤ → ℕ → ℤ → List ℤ
while_within hi step zero v = []
while_within hi step (suc most) v = if is_within hi step v then v ∷ while_within hi step most (v +ℤ step) else []

-- lo, lo + step and so on while they are within hi. As a step changes a number by at least 1, there are at most as many
-- as whole numbers from lo to hi.
unfoldable pub values : ℤ → ℤ → ℤ → List ℤ
values lo hi step = while_within hi step (suc (unsigned_abs (hi -ℤ lo))) lo

-- the values from a number on, if there is one
abbrev pub values_from : Option ℤ → ℤ → ℤ → List ℤ
values_from None hi step = []
values_from (Some v) hi step = values v hi step
