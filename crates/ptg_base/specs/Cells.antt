-- The numbers of a tile: a small one holds them in place, a larger one in memory of its own.
-- Carried by: `Tile::zeros`, `Tile::get`, `Tile::set`, `Tile::as_slice`.
-- Tested by: `ptg_base`.
use Rattle.std.specs.Prelude.{◌≡◌, ◌≤◌, ◌<◌, ◌^◌, List, ℤ, length, take}
use Rattle.ptg_base.specs.declared.tile.Cells.{Cells}
use Rattle.ptg_base.specs.declared.tile.Cells.TheVariants.{Small, Large}

-- the numbers of a tile
abbrev pub numbers_of : Cells → List ℤ
numbers_of (Small len numbers) = take len numbers
numbers_of (Large numbers) = numbers.items

-- at most four numbers are held in place; more, but fewer than 2 ^ 32, are in memory of their own
abbrev pub AreWhereTheyFit : Cells → Type 0
AreWhereTheyFit (Small len numbers) = (len ≤ 4) × (length numbers ≡ 4)
AreWhereTheyFit (Large numbers) = (4 < length numbers.items) × (length numbers.items < 2 ^ 32)
