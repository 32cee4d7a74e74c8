-- What names mean in a JDF with its data, outside bodies. Source: the JDF documentation.
-- Carried by: `type_check::check`.
-- Tested by: `type_faults.txt`, `type_places.txt`.
use Rattle.std.specs.Prelude.{ℕ, ℤ, Bool, List, Option, None, is_some, position, slice_get, if◌then◌else◌}
use Rattle.std.specs.Option.{option_and_then}
use Rattle.std.specs.Str.{bytes_eq}
use Rattle.std.specs.List.{list_any}
use Rattle.name_table.specs.Names.{value_named}
use Rattle.coll_data.specs.declared.coll.Coll.{Coll}
use Rattle.coll_data.specs.Data.{Data}
use Rattle.expr_names.specs.declared.meaning.Meaning.{Meaning}
use Rattle.expr_names.specs.Meanings.{outer_meaning}
use Rattle.type_rules.specs.TreesAndFaults.{Word, DefTree, FlowTree, ClassTree, Jdf}

-- a JDF and its data
pub record Job : Type 0 where
  pub jdf : Jdf
  pub given : Data

-- whether a word is this name
abbrev pub word_is : List ℕ → Word → Bool
word_is name w = bytes_eq w.text name

-- whether a global of this name is declared
abbrev pub is_declared : Job → List ℕ → Bool
is_declared job name = list_any (word_is name) job.jdf.globals

-- the value of the global with this name, if it is an integer of the data
abbrev pub int_named : Job → List ℕ → Option ℤ
int_named job name = if is_declared job name then value_named job.given.ints name else None

-- whether a collection has this name
abbrev pub coll_is : List ℕ → Coll → Bool
coll_is name c = bytes_eq c.name name

-- the number of the global with this name, if it is a collection of the data
abbrev pub coll_named : Job → List ℕ → Option ℕ
coll_named job name = if is_declared job name then position (coll_is name) job.given.colls else None

-- the number of the first definition with this name, among those that are seen
abbrev pub local_named : List DefTree → List ℕ → Option ℕ
local_named seen name = position (λ (d : DefTree). word_is name d.name) seen

-- what a name in an expression means when these definitions are seen
abbrev pub meaning_of : Job → List DefTree → List ℕ → Meaning
meaning_of job seen name =
    outer_meaning (local_named seen name) (int_named job name) (is_some (coll_named job name))

-- the number of the first class of this name
abbrev pub class_named : Job → List ℕ → Option ℕ
class_named job name = position (λ (c : ClassTree). word_is name c.name) job.jdf.classes

-- the first class of this name
abbrev pub class_of : Job → List ℕ → Option ClassTree
class_of job name = option_and_then (slice_get job.jdf.classes) (class_named job name)

-- the number of the first flow of this name in a class
abbrev pub flow_named : ClassTree → List ℕ → Option ℕ
flow_named class name = position (λ (f : FlowTree). word_is name f.name) class.flows

-- the first flow of this name in a class
abbrev pub flow_of : ClassTree → List ℕ → Option FlowTree
flow_of class name = option_and_then (slice_get class.flows) (flow_named class name)
