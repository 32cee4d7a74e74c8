-- The targets that names resolve to. Source: PaRSEC 2013 and the JDF documentation; which codes there are is this
-- project's own choice.
-- Carried by: `flow`.
-- Tested by: `type_faults.txt`, `type_datatypes.txt`.
use Rattle.std.specs.Prelude.{ℕ, not, ◌==◌, List, [], ◌∷◌, ◌++◌, length, Option, Some, None, is_none, option_map, option_and_then}
use Rattle.term_core.specs.Term.{Term}
use Rattle.jdf_tree.specs.declared.tree.TargetTree.TheVariants as tree
use Rattle.plan_core.specs.declared.target.Arg.{Arg}
use Rattle.plan_core.specs.declared.target.Target.{Target}
use Rattle.plan_core.specs.declared.target.Target.TheVariants as plan
use Rattle.type_rules.specs.TreesAndFaults.{Spot, JdfFault, Word, DefTree, TargetTree, ClassTree, UnknownName, NoSuchFlow, Arity}
use Rattle.type_rules.specs.Faults.{fault, fault_if}
use Rattle.type_rules.specs.Returns.{both}
use Rattle.type_rules.specs.Names.{Job, class_named, class_of, flow_named}
use Rattle.type_rules.specs.Arguments.{arguments_faults, arguments_of}
use Rattle.type_rules.specs.Elements.{element_faults, element_of}

-- the spot of a target: that of its first token
abbrev pub first_spot : TargetTree → Spot
first_spot (tree.Task flow class args) = flow.spot
first_spot (tree.Element coll args) = coll.spot
first_spot (tree.New spot) = spot
first_spot (tree.Null spot) = spot

-- the faults of the names of a flow and this class, followed by this many arguments
abbrev pub class_faults : Word → Word → ℕ → ClassTree → List JdfFault
class_faults flow name count class =
    fault_if (not (length class.params == count)) name.spot Arity
    ++ fault_if (is_none (flow_named class flow.text)) flow.spot NoSuchFlow

-- the faults of the names of a flow and a class, and of the number of arguments; if the class is unknown, neither of
-- the other two is judged
abbrev pub task_faults : Word → Word → ℕ → Option ClassTree → List JdfFault
task_faults flow name count None = fault name.spot UnknownName ∷ []
task_faults flow name count (Some class) = class_faults flow name count class

-- the numbers of a class and of one of its flows
abbrev pub task_of : Job → Word → Word → Option (ℕ × ℕ)
task_of job flow class =
    both (λ x y. (x, y)) (class_named job class.text)
    (option_and_then (λ (c : ClassTree). flow_named c flow.text) (class_of job class.text))

-- the faults of the names of a target that sees these definitions
abbrev pub named_faults : Job → List DefTree → TargetTree → List JdfFault
named_faults job seen (tree.Task flow class args) =
    task_faults flow class (length args) (class_of job class.text) ++ arguments_faults job seen args
named_faults job seen (tree.Element coll args) = element_faults job seen coll args
named_faults job seen (tree.New spot) = []
named_faults job seen (tree.Null spot) = []

-- the target with its names resolved
abbrev pub target_of : Job → List DefTree → TargetTree → Option Target
target_of job seen (tree.Task flow class args) =
    both (λ (x : ℕ × ℕ) (y : List Arg). plan.Task x.0 x.1 y)
    (task_of job flow class) (arguments_of job seen args)
target_of job seen (tree.Element coll args) =
    option_map (λ ((coll, indices) : ℕ × List Term). plan.Element coll indices) (element_of job seen coll args)
target_of job seen (tree.New spot) = Some plan.New
target_of job seen (tree.Null spot) = Some plan.Null
