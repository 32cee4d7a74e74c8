-- What a table ends as, once a `&mut` to one of its entries has ended.
use Rattle.std.specs.Prelude.{ℕ}
use Rattle.std.specs.Borrow.{Lends, MutBor, Fml}
use Rattle.ptg_base.specs.Entry.{Entry}
use Rattle.dep_shard.specs.Table.{TableContent, with_entry_at}
use Rattle.dep_shard.specs.contracts.entry.Entry.{the_row as entry_row}
use Rattle.dep_shard.specs.contracts.table.Table.{the_row}

-- at the index, the table ends with the entry that r ends with
abbrev pub lends_entry : MutBor TableContent → ℕ → MutBor Entry → Fml
lends_entry t index r = Lends the_row entry_row t r (with_entry_at t.now index)
