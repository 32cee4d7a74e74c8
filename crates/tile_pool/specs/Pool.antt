-- A pool of tiles as contracts see it: tiles to take, and room to give tiles back.
-- Carried by: `TilePool::reserve`, `TilePool::make_room`, `TilePool::take`, `TilePool::give`, `TilePool::copy_of`.
-- Tested by: `ptg_measure`.
use Rattle.std.specs.Prelude.{◌≡◌, ℕ, ◌+◌, ℤ, List, length}
use Rattle.std.specs.List.{All}

-- how many numbers each of its tiles has, how many tiles can be taken, and how many can be given back
pub record Pool : Type 0 where
  pub elems : ℕ
  pub spare : ℕ
  pub room : ℕ

-- a tile was taken: one fewer can be taken, and one more can be given back
pub record IsTakenFrom (old new : Pool) : Type 0 where
  pub elems : new.elems ≡ old.elems
  pub spare : new.spare + 1 ≡ old.spare
  pub room : new.room ≡ old.room + 1

-- every tile of the list has n numbers
abbrev pub HaveLength : ℕ → List (List ℤ) → Type 0
HaveLength n tiles = All (λ (t : List ℤ). length t ≡ n) tiles
