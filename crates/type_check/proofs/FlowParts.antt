-- A flow of a plan has the kind, the datatype and the name of its tree.
use Rattle.std.proofs.Common.{◌≡◌, List, Some, refl, sym, ap, subst}
use Rattle.plan_core.specs.declared.flow.FlowPlan.{FlowPlan}
use Rattle.type_rules.specs.TreesAndFaults.{DefTree, FlowTree}
use Rattle.type_rules.specs.Names.{Job}
use Rattle.type_rules.proofs.CallerLemmas.{parts_of}
use Rattle.type_rules.specs.Datatypes.{flow_type}
use Rattle.type_rules.specs.Dependences.{directions_of, flow_from, flow_plan}
use Rattle.type_rules.specs.PartsOfJob.{IsFlowOf}

-- the flow has the kind and the datatype of its tree
pub flow_is : (job : Job) (seen : List DefTree) (flow : FlowTree) (p : FlowPlan) → flow_plan job seen flow ≡ Some p → IsFlowOf job.given flow p
flow_is job seen flow p e =
    let q = parts_of (flow_from flow) (flow_type job.given flow) (directions_of job seen flow.deps) p e in
    subst (IsFlowOf job.given flow) q.4 (record { kind = refl; datatype = q.2 })

pub flow_name : (job : Job) (seen : List DefTree) (flow : FlowTree) (p : FlowPlan) → flow_plan job seen flow ≡ Some p → p.name ≡ flow.name.text
flow_name job seen flow p e = let q = parts_of (flow_from flow) (flow_type job.given flow)
    (directions_of job seen flow.deps) p e in ap (λ (f : FlowPlan). f.name) (sym q.4)
