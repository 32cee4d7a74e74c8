-- A resolved class of tasks: the parts outside of its body, then the whole class. Source: the JDF documentation.
-- Carried by: `check`; law `one_answer`.
-- Tested by: `type_faults.txt`, `type_places.txt`, `type_datatypes.txt`.
use Rattle.std.specs.Prelude.{ℕ, List, ◌++◌, flat_map, Option}
use Rattle.std.specs.Result.{result_ok}
use Rattle.term_core.specs.Term.{Term}
use Rattle.term_core.specs.declared.body.Body.{Body}
use Rattle.term_core.specs.declared.space.ClassSpace.{ClassSpace}
use Rattle.plan_core.specs.declared.class.ClassPlan.{ClassPlan}
use Rattle.plan_core.specs.declared.flow.FlowPlan.{FlowPlan}
use Rattle.type_rules.specs.TreesAndFaults.{JdfFault, DefTree, FlowTree, ClassTree, NameTwice}
use Rattle.type_rules.specs.Faults.{resolved_faults}
use Rattle.type_rules.specs.Returns.{both, each}
use Rattle.type_rules.specs.Repeats.{repeats}
use Rattle.type_rules.specs.Names.{Job}
use Rattle.type_rules.specs.Expressions.{option_faults, option_term}
use Rattle.type_rules.specs.Definitions.{space_of, space_faults}
use Rattle.type_rules.specs.Elements.{element_faults, element_of}
use Rattle.type_rules.specs.Dependences.{flow_faults, flow_plan}
use Rattle.type_check.specs.declared.head.ClassHead.{ClassHead}
use Rattle.type_check.specs.Bodies.{BodyResult}

-- the flows of a class, with their names resolved
abbrev pub flows_of : Job → List DefTree → List FlowTree → Option (List FlowPlan)
flows_of job seen flows = each (flow_plan job seen) flows

-- the faults of the flows of a class
abbrev pub flows_faults : Job → List DefTree → List FlowTree → List JdfFault
flows_faults job seen flows =
    flat_map (flow_faults job seen) flows ++ repeats (λ (f : FlowTree). f.name) NameTwice flows

-- the parts of a class outside of its body, put together from its space and affinity, and its flows and priority
abbrev pub head_from : ClassSpace × (ℕ × List Term) → List FlowPlan × Option Term → ClassHead
head_from (space, (coll, indices)) (flows, priority) = record {
  space = space;
  affinity = record { coll = coll; indices = indices };
  flows = flows;
  priority = priority;
}

-- the parts of a class outside of its body, with their names resolved
abbrev pub head_of : Job → ClassTree → Option ClassHead
head_of job class =
    both head_from
    (both (λ x y. (x, y)) (space_of job class.params class.defs)
    (element_of job class.defs class.affinity class.affinity_args))
    (both (λ x y. (x, y)) (flows_of job class.defs class.flows) (option_term job class.defs class.priority))

-- all faults of these parts
abbrev pub head_faults : Job → ClassTree → List JdfFault
head_faults job class =
    (space_faults job class.params class.defs ++ element_faults job class.defs class.affinity class.affinity_args)
    ++ (flows_faults job class.defs class.flows ++ option_faults job class.defs class.priority)

-- the class with its space, put together from its parts
abbrev pub class_from : ClassTree → ClassHead → Body × List (List ℕ) → ClassPlan × ClassSpace
class_from class head b = (
  record {
    name = class.name.text;
    affinity = head.affinity;
    flows = head.flows;
    priority = head.priority;
    body = b.0;
    trap_words = b.1;
  },
  head.space,
)

-- a class and its space with all names resolved, given the result of reading its body
abbrev pub class_plan : Job → ClassTree → BodyResult → Option (ClassPlan × ClassSpace)
class_plan job class body = both (class_from class) (head_of job class) (result_ok body)

-- all faults of a class, given the result of reading its body
abbrev pub class_faults : Job → ClassTree → BodyResult → List JdfFault
class_faults job class body = head_faults job class ++ resolved_faults body
