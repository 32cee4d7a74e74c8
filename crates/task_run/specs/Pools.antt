-- The tiles of a bench, in a pool for each type. Some of them are lent to the flows of a task.
use Rattle.std.specs.Prelude.{◌≡◌, ℕ, ◌+◌, ◌-◌, ◌<◌, ◌≤◌, ℤ, pos, nat_eq, List, [], ◌∷◌, ◌++◌, count_by, length}
use Rattle.std.specs.Prelude.{replicate, slice_get, slice_index, take, option_map, Option, Some}
use Rattle.std.specs.Option.{option_eq}
use Rattle.ptg_base.specs.Limits.{most_flows}
use Rattle.tile_pool.specs.Pool.{Pool}

-- how many numbers a tile of each type has, and for each flow, in order, the type of the tile that it was lent, if it
-- was lent one
pub record Lent : Type 0 where
  pub elems : List ℕ
  pub lent : List (Option ℕ)

-- a pool of tiles of type k, as many as a class may have flows, some of them lent, and a tile of zeros
pub record IsPoolOf (types : List (Option ℕ)) (k : ℕ) (pool : Pool) (zero : List ℤ) : Type 0 where
  pub zeros : zero ≡ replicate pool.elems (pos 0)
  pub lent : pool.room ≡ count_by (option_eq nat_eq (Some k)) types
  pub enough : most_flows ≤ pool.spare + pool.room

-- one flow more, to which a tile of this type was lent, or none
abbrev pub with_lent : Lent → Option ℕ → Lent
with_lent b type = record { elems = b.elems; lent = b.lent ++ type ∷ [] }

-- without the last of the flows
abbrev pub without_last : Lent → Lent
without_last b = record { elems = b.elems; lent = take (length b.lent - 1) b.lent }

-- One flow more has this tile. If it was lent, it has as many numbers as its type says.
pub record LendsTo (old new : Lent) (tile : Option (List ℤ)) : Type 0 where
  pub type : Option ℕ
  pub lent : new ≡ with_lent old type
  pub fits : (k : ℕ) → type ≡ Some k → option_map length tile ≡ Some (slice_index old.elems k)

-- each type that was lent is one of this many
abbrev pub AreBelow : ℕ → List (Option ℕ) → Type 0
AreBelow types lent = (n k : ℕ) → slice_get lent n ≡ Some (Some k) → k < types
