-- What names are resolved with: a JDF and its data, with the tables of their names, and the definitions in scope.
use Rattle.std.specs.Prelude.{◌≡◌, ◌≤◌, ℕ, List, length}
use Rattle.ptg_base.specs.Limits.{most_locals, most_named_types}
use Rattle.name_table.specs.Names.{value_named}
use Rattle.jdf_tree.specs.TreeLimits.{IsWithinLimits}
use Rattle.type_rules.specs.declared.context.Context.{Context}
use Rattle.type_rules.specs.declared.context.Globals.{Globals}
use Rattle.type_rules.specs.Names.{Job, int_named, coll_named}

-- the JDF and its data
abbrev pub job_of : Context → Job
job_of context = record { jdf = context.jdf.now; given = context.given.now }

-- The tables have exactly the globals that are integers or collections of the data.
pub record AreGlobals (job : Job) (globals : Globals) : Type 0 where
  pub ints : (name : List ℕ) → value_named globals.ints name ≡ int_named job name
  pub colls : (name : List ℕ) → value_named globals.colls name ≡ coll_named job name

-- The tables are those of the JDF and its data, the JDF is within its limits, and at most 16 definitions are in scope.
-- The data have at most 15 types besides DEFAULT.
pub record IsContext (context : Context) : Type 0 where
  pub globals : AreGlobals (job_of context) context.globals.now
  pub bounded : IsWithinLimits context.jdf.now
  pub seen_at_most : length context.seen.now ≤ most_locals
  pub types_at_most : length context.given.now.types ≤ most_named_types
