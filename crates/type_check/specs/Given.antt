-- Whether the data of a job have its globals. Source: the JDF documentation.
-- Carried by: `missing`.
-- Tested by: `type_faults.txt`, `type_places.txt`, `type_datatypes.txt`.
use Rattle.std.specs.Prelude.{ℕ, Bool, not, ◌||◌, List, position, is_some}
use Rattle.std.specs.List.{list_any}
use Rattle.name_table.specs.Names.{value_named}
use Rattle.coll_data.specs.Data.{Data}
use Rattle.type_rules.specs.TreesAndFaults.{Word, Jdf}
use Rattle.type_rules.specs.Names.{coll_is}

-- whether the data have an integer or a collection of this name
abbrev pub is_given : Data → List ℕ → Bool
is_given d name = is_some (value_named d.ints name) || is_some (position (coll_is name) d.colls)

-- whether some global is neither an integer nor a collection of the data
abbrev pub is_missing : Jdf → Data → Bool
is_missing jdf d = list_any (λ (w : Word). not (is_given d w.text)) jdf.globals
