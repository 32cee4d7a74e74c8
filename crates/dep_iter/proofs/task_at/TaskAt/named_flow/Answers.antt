use Rattle.std.proofs.Common.{◌≡◌, ◌<◌, ◌≤◌, length, sym, ◌∙◌, slice_get, MatchOption, Option, Some, None, Bor}
use Rattle.std.proofs.lemmas.Bool.{false≢true}
use Rattle.std.proofs.lemmas.Option.{slice_get_past}
use Rattle.ptg_base.specs.Task.{Task}
use Rattle.ptg_base.specs.declared.edge.Edge.{Edge}
use Rattle.term_core.specs.declared.direction.Direction.{Direction}
use Rattle.plan_core.specs.declared.flow.FlowPlan.{FlowPlan}
use Rattle.plan_core.specs.declared.plan.Plan.{Plan}
use Rattle.dep_iter.specs.Directions.{IsNearFlow, near_flow, near_task}
use Rattle.dep_iter.specs.Tasks.{flows_of}
use Rattle.dep_iter.proofs.task_at.TaskAt.named_flow.Goals as goal

-- the flow with the number that the edge names
near_found : (d : Direction) (P : Plan) (t : Task) (e : Edge) (o : Option (Bor FlowPlan)) → near_task d e ≡ t
    → MatchOption o (length (flows_of P t) ≤ near_flow d e)
    (λ f. (near_flow d e < length (flows_of P t)) × (slice_get (flows_of P t) (near_flow d e) ≡ Some f.now))
    → MatchOption o ((f : FlowPlan) → IsNearFlow d P t e f → ⊥) (λ f. IsNearFlow d P t e f.now)
near_found d P t e None same past = λ f near.
    let none = slice_get_past (flows_of P t) (near_flow d e) past in
    let here = near.1 in
    absurd cc
near_found d P t e (Some f) same found = (same, found.1)

pub returns-then-not-same_task : goal.returns-then-not-same_task
returns-then-not-same_task c = λ f near.
    false≢true (sym c.if-not-same_task.true ∙ c.eq-same_task.ensures.same.1 (c.near_task.ensures ∙ near.0))

pub returns : goal.returns
returns c =
    let at = c.args.self.now in
    let same = sym c.near_task.ensures ∙ c.eq-same_task.ensures.same.0 c.if-not-same_task.false in
    let found = rw c.near_flow.ensures at c.flow.ensures.found in
    near_found c.args.direction at.plan.now at.task.now c.args.edge.now c.flow.result same found
