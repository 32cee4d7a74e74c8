-- Arguments: expressions and ranges. Source: PaRSEC 2013 for broadcasts and gathers by ranges, and the JDF
-- documentation.
-- Carried by: `type_check::check`.
-- Tested by: `type_faults.txt`, `type_places.txt`.
use Rattle.std.specs.Prelude.{List, [], ◌∷◌, ◌++◌, Option, None, option_map, flat_map}
use Rattle.term_core.specs.Term.{Term}
use Rattle.term_core.specs.declared.space.Range.{Range}
use Rattle.jdf_tree.specs.Expression.{Expression}
use Rattle.jdf_tree.specs.declared.tree.ArgTree.TheVariants as tree
use Rattle.plan_core.specs.declared.target.Arg.{Arg}
use Rattle.plan_core.specs.declared.target.Arg.TheVariants as plan
use Rattle.type_rules.specs.TreesAndFaults.{JdfCode, JdfFault, DefTree, ArgTree, RangeInPlace}
use Rattle.type_rules.specs.Faults.{fault}
use Rattle.type_rules.specs.Returns.{both, each}
use Rattle.type_rules.specs.Names.{Job}
use Rattle.type_rules.specs.Expressions.{expression_faults, term_of, option_faults, option_term}

-- the faults of the names in an argument, which may be a range
abbrev pub argument_faults : Job → List DefTree → ArgTree → List JdfFault
argument_faults job seen (tree.One e) = expression_faults job seen e
argument_faults job seen (tree.Span spot lo hi step) =
    expression_faults job seen lo ++ (expression_faults job seen hi ++ option_faults job seen step)

-- the range with these bounds and this step, with its names resolved
abbrev pub range_of : Job → List DefTree → Expression → Expression → Option Expression → Option Range
range_of job seen lo hi step =
    both (λ x (y : Term × Option Term). record { lo = x; hi = y.0; step = y.1 })
    (term_of job seen lo) (both (λ x y. (x, y)) (term_of job seen hi) (option_term job seen step))

-- an argument of a task, with its names resolved
abbrev pub argument_of : Job → List DefTree → ArgTree → Option Arg
argument_of job seen (tree.One e) = option_map plan.One (term_of job seen e)
argument_of job seen (tree.Span spot lo hi step) = option_map plan.Span (range_of job seen lo hi step)

-- the fault of a range that may not be here: it has this code, at the range's first token
abbrev pub range_faults : JdfCode → ArgTree → List JdfFault
range_faults code (tree.One e) = []
range_faults code (tree.Span spot lo hi step) = fault spot code ∷ []

-- the faults of an index, which may not be a range
abbrev pub index_faults : Job → List DefTree → ArgTree → List JdfFault
index_faults job seen arg = argument_faults job seen arg ++ range_faults RangeInPlace arg

-- an index with its names resolved; none for a range
abbrev pub index_of : Job → List DefTree → ArgTree → Option Term
index_of job seen (tree.One e) = term_of job seen e
index_of job seen (tree.Span spot lo hi step) = None

-- the faults of arguments
abbrev pub arguments_faults : Job → List DefTree → List ArgTree → List JdfFault
arguments_faults job seen args = flat_map (argument_faults job seen) args

-- arguments with their names resolved
abbrev pub arguments_of : Job → List DefTree → List ArgTree → Option (List Arg)
arguments_of job seen args = each (argument_of job seen) args

-- a fault with this code for each of these arguments that is a range
abbrev pub ranges_faults : JdfCode → List ArgTree → List JdfFault
ranges_faults code args = flat_map (range_faults code) args

-- the faults of indices
abbrev pub indices_faults : Job → List DefTree → List ArgTree → List JdfFault
indices_faults job seen args = flat_map (index_faults job seen) args

-- indices with their names resolved
abbrev pub indices_of : Job → List DefTree → List ArgTree → Option (List Term)
indices_of job seen args = each (index_of job seen) args
