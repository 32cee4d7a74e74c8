-- The dependences of a flow in one direction: their targets are those of the flow, and they fit if all of the flow's
-- do.
use Rattle.std.proofs.Common.{◌≡◌, refl, ℤ, List, IsTrue, ◌&&◌}
use Rattle.std.proofs.lemmas.Bool.{and_parts}
use Rattle.term_core.specs.declared.direction.Direction.{Direction}
use Rattle.term_core.specs.declared.direction.Direction.TheVariants.{In, Out}
use Rattle.term_core.specs.Kinds.{first_only}
use Rattle.plan_core.specs.declared.flow.FlowPlan.{FlowPlan}
use Rattle.plan_core.specs.declared.plan.Plan.{Plan}
use Rattle.plan_core.specs.Flows.{dependences}
use Rattle.dep_iter.specs.Active.{flow_targets, held_targets}
use Rattle.dep_iter.specs.Links.{dependences_fit}

pub held_of : (way : Direction) (env : List ℤ) (f : FlowPlan) → held_targets (first_only way f.kind) (dependences way f) env ≡ flow_targets way env f
held_of In env f = refl
held_of Out env f = refl

pub fit_of : (P : Plan) (way : Direction) (f : FlowPlan) → IsTrue (dependences_fit P f.ins && dependences_fit P f.outs)
    → IsTrue (dependences_fit P (dependences way f))
fit_of P In f h = (and_parts (dependences_fit P f.ins) (dependences_fit P f.outs) h).0
fit_of P Out f h = (and_parts (dependences_fit P f.ins) (dependences_fit P f.outs) h).1
