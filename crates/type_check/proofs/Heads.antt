-- The parts of a class outside of its body, with its lists as arguments of their own.
use Rattle.std.proofs.Common.{◌≡◌, List, ◌++◌, Option, Result, subst}
use Rattle.ptg_base.specs.declared.refusal.Refusal.{Refusal}
use Rattle.type_rules.specs.TreesAndFaults.{JdfFault, DefTree, ArgTree, FlowTree, ClassTree}
use Rattle.type_rules.specs.Names.{Job}
use Rattle.type_rules.specs.Returns.{ReturnsChecked, both}
use Rattle.type_rules.specs.Expressions.{option_faults, option_term}
use Rattle.type_rules.specs.Definitions.{space_of, space_faults}
use Rattle.type_rules.specs.Elements.{element_faults, element_of}
use Rattle.type_check.specs.declared.head.ClassHead.{ClassHead}
use Rattle.type_check.specs.Classes.{flows_of, flows_faults, head_from, head_of, head_faults}

abbrev pub parts_of : Job → ClassTree → List DefTree → List ArgTree → List FlowTree → Option ClassHead
parts_of job class seen args flows =
    both head_from (both (λ x y. (x, y)) (space_of job class.params class.defs)
    (element_of job seen class.affinity args))
    (both (λ x y. (x, y)) (flows_of job seen flows) (option_term job seen class.priority))

abbrev pub parts_faults : Job → ClassTree → List DefTree → List ArgTree → List FlowTree → List JdfFault
parts_faults job class seen args flows =
    (space_faults job class.params class.defs ++ element_faults job seen class.affinity args) ++
    (flows_faults job seen flows ++ option_faults job seen class.priority)

pub head_at : (job : Job) (class : ClassTree) (seen : List DefTree) (args : List ArgTree) (flows : List FlowTree)
    (r : Result ClassHead (Refusal JdfFault)) → seen ≡ class.defs → args ≡ class.affinity_args → flows ≡ class.flows
    → ReturnsChecked {A = ClassHead} r (parts_of job class seen args flows) (parts_faults job class seen args flows)
    → ReturnsChecked {A = ClassHead} r (head_of job class) (head_faults job class)
head_at job class seen args flows r s a f h =
    subst (λ x. ReturnsChecked {A = ClassHead} r (parts_of job class x class.affinity_args class.flows)
    (parts_faults job class x class.affinity_args class.flows)) s
    (subst (λ x. ReturnsChecked {A = ClassHead} r (parts_of job class seen x class.flows) (parts_faults job class seen x class.flows)) a
    (subst (λ x. ReturnsChecked {A = ClassHead} r (parts_of job class seen args x) (parts_faults job class seen args x)) f h))
