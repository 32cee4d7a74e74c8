-- The pools of a bench, by type.
use Rattle.std.specs.Prelude.{◌≡◌, ℕ, ◌<◌, ℤ, List, length, option_map, slice_get, slice_set, Option, Some, IfSome}
use Rattle.std.specs.Prelude.{MatchOption}
use Rattle.tile_pool.specs.Pool.{IsTakenFrom}
use Rattle.task_run.specs.declared.pools.TypePool.{TypePool}
use Rattle.task_run.specs.Pools.{IsPoolOf}

-- each pool is the one of its type
abbrev pub ArePools : List TypePool → List (Option ℕ) → Type 0
ArePools pools lent = (k : ℕ) (p : TypePool) → slice_get pools k ≡ Some p → IsPoolOf lent k p.pool p.zeros

-- the pool of type k has room for this tile
pub record HasRoom (pools : List TypePool) (k : ℕ) (tile : Option (List ℤ)) : Type 0 where
  pub pool : TypePool
  pub is : slice_get pools k ≡ Some pool
  pub room : 0 < pool.pool.room
  pub fits : option_map length tile ≡ Some pool.pool.elems

-- a tile that was lent by the pool of a type, or by none, may come back
abbrev pub CanGive : List TypePool → Option ℕ → Option (List ℤ) → Type 0
CanGive pools lent tile = IfSome lent (λ k. HasRoom pools k tile)

-- in the new pools a tile has come back to the pool of type k
pub record HasMore (old new : List TypePool) (k : ℕ) : Type 0 where
  pub before : TypePool
  pub after : TypePool
  pub is : slice_get old k ≡ Some before
  pub set : new ≡ slice_set old k after
  pub taken : IsTakenFrom after.pool before.pool
  pub zeros : after.zeros ≡ before.zeros

-- in the new pools a tile has come back to the pool of the type that lent it, or nothing has changed if none did
abbrev pub IsGivenBack : List TypePool → Option ℕ → List TypePool → Type 0
IsGivenBack old lent new = MatchOption lent (new ≡ old) (λ k. HasMore old new k)
