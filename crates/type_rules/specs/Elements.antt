-- Elements of collections: targets, and the affinity of a class. Source: the JDF documentation.
-- Carried by: `flow`.
-- Tested by: `type_faults.txt`, `type_datatypes.txt`.
use Rattle.std.specs.Prelude.{ℕ, not, ◌==◌, List, [], ◌∷◌, ◌++◌, length, Option, Some, None, is_some, slice_get, if◌then◌else◌}
use Rattle.std.specs.Option.{option_map_or}
use Rattle.term_core.specs.Term.{Term}
use Rattle.coll_data.specs.declared.coll.Coll.{Coll}
use Rattle.plan_core.specs.Targets.{dimensions}
use Rattle.type_rules.specs.TreesAndFaults.{JdfFault, Word, DefTree, ArgTree, UnknownName, WrongKind, Arity}
use Rattle.type_rules.specs.Faults.{fault, fault_if}
use Rattle.type_rules.specs.Returns.{both}
use Rattle.type_rules.specs.Names.{Job, int_named, coll_named}
use Rattle.type_rules.specs.Arguments.{indices_faults, indices_of}

-- how many dimensions the collection with this number has
abbrev pub dimensions_of : Job → ℕ → ℕ
dimensions_of job n = option_map_or (λ (c : Coll). dimensions c.shape.1) (slice_get job.given.colls n) 0

-- the faults of a name that should be a collection's, followed by this many indices, given the collection's number
abbrev pub collection_faults : Job → Word → ℕ → Option ℕ → List JdfFault
collection_faults job w count (Some n) = fault_if (not (dimensions_of job n == count)) w.spot Arity
collection_faults job w count None =
    fault w.spot (if is_some (int_named job w.text) then WrongKind else UnknownName) ∷ []

-- the faults of a collection with its indices, which see these definitions and may not be ranges
abbrev pub element_faults : Job → List DefTree → Word → List ArgTree → List JdfFault
element_faults job seen w args =
    collection_faults job w (length args) (coll_named job w.text) ++ indices_faults job seen args

-- the number of the collection, and the indices
abbrev pub element_of : Job → List DefTree → Word → List ArgTree → Option (ℕ × List Term)
element_of job seen w args = both (λ x y. (x, y)) (coll_named job w.text) (indices_of job seen args)
