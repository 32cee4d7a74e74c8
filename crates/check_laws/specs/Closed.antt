-- What is resolved names only definitions that are seen.
use Rattle.std.specs.Prelude.{◌≡◌, List, [], Option, Some, false, length, IsTrue}
use Rattle.std.specs.List.{list_all, list_any}
use Rattle.term_core.specs.Term.{Term}
use Rattle.term_core.specs.Value.{is_closed}
use Rattle.jdf_tree.specs.Expression.{Expression}
use Rattle.plan_core.specs.Closed.{is_closed_option, is_closed_arg, is_span}
use Rattle.plan_core.specs.declared.target.Arg.{Arg}
use Rattle.type_rules.specs.TreesAndFaults.{JdfCode, DefTree, ArgTree}
use Rattle.type_rules.specs.Names.{Job}
use Rattle.type_rules.specs.Arguments.{arguments_of, ranges_faults, indices_of}
use Rattle.type_rules.specs.Expressions.{option_term}

-- Resolved arguments name only definitions that are seen.
abbrev pub ArgumentsAreClosed : Type 0
ArgumentsAreClosed =
    (job : Job) (seen : List DefTree) (args : List ArgTree) (xs : List Arg) → arguments_of job seen args ≡ Some xs
    → IsTrue (list_all (is_closed_arg (length seen)) xs)

-- Resolved indices name only definitions that are seen.
abbrev pub IndicesAreClosed : Type 0
IndicesAreClosed =
    (job : Job) (seen : List DefTree) (args : List ArgTree) (ts : List Term) → indices_of job seen args ≡ Some ts
    → IsTrue (list_all (is_closed (length seen)) ts)

-- A resolved expression, which may be left out, names only definitions that are seen.
abbrev pub OptionIsClosed : Type 0
OptionIsClosed =
    (job : Job) (seen : List DefTree) (e : Option Expression) (o : Option Term) → option_term job seen e ≡ Some o
    → IsTrue (is_closed_option (length seen) o)

-- If no argument is a range, none is resolved to one.
abbrev pub ArgumentsAreNoRanges : Type 0
ArgumentsAreNoRanges =
    (job : Job) (seen : List DefTree) (code : JdfCode) (args : List ArgTree) (xs : List Arg)
    → ranges_faults code args ≡ [] → arguments_of job seen args ≡ Some xs → list_any is_span xs ≡ false
