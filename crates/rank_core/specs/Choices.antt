-- The choices of the network, from a seed. Source: the linear congruential generator of Knuth's MMIX.
-- Carried by: inside `drive`.
use Rattle.std.specs.Prelude.{ℕ, ◌+◌, ◌*◌, ◌^◌, ◌%◌}

-- the number that follows another one
abbrev pub next_choice : ℕ → ℕ
next_choice x = (x * 6364136223846793005 + 1442695040888963407) % 2 ^ 64
