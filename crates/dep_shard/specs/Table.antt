-- What contracts see of a shard's table.
use Rattle.std.specs.Prelude.{ℕ, ◌-◌, max}
use Rattle.ptg_base.specs.Entry.{Entry}
use Rattle.indexmap.specs.IndexMap.{set_value_at}
use Rattle.dep_shard.specs.Content.{Entries}

-- the entries, and how many more can come without memory
pub record TableContent : Type 0 where
  pub entries : Entries
  pub spare : ℕ

-- How many more entries can come without memory, if `len` are in use: as many as the map in use has room for, or as the
-- reserved map can hold besides those.
abbrev pub spare_of : ℕ → ℕ → ℕ → ℕ
spare_of len room reserved = max room (reserved - len)

-- the table with this entry at the index
abbrev pub with_entry_at : TableContent → ℕ → Entry → TableContent
with_entry_at t index e = record { entries = set_value_at t.entries index e; spare = t.spare }
