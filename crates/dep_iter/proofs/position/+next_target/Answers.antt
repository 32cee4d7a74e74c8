use Rattle.std.proofs.Common.{◌≡◌, ◌+◌, [], ◌∷◌, ℤ, ℕ, List, refl, sym, subst, add-one, MatchOption, Bor}
use Rattle.term_core.specs.declared.direction.Direction.{Direction}
use Rattle.plan_core.specs.declared.flow.FlowPlan.{FlowPlan}
use Rattle.plan_core.specs.declared.target.Target.{Target}
use Rattle.dep_iter.specs.declared.position.Position.{Position}
use Rattle.dep_iter.specs.Active.{flow_targets, held_targets}
use Rattle.dep_iter.specs.Walking.{targets_left}
use Rattle.dep_iter.proofs.position.+next_target.Goals as goal

-- if the flow at hand has no target left, the targets left are those from the next flow on
entered : (d : Direction) (env : List ℤ) (p q : Position) (f : FlowPlan) (others : List FlowPlan)
    → held_targets p.first_only p.deps.now env ≡ [] → p.flows.now ≡ f ∷ others → q.flow ≡ p.next_flow
    → q.next_flow ≡ p.next_flow + 1 → q.flows.now ≡ others
    → held_targets q.first_only q.deps.now env ≡ flow_targets d env f → targets_left d env p ≡ targets_left d env q
entered d env p q f others a b e g h k = rw (a, b, e, g, h, k, add-one) refl

pub returns-clause-found : goal.returns-clause-found
returns-clause-found t c =
    let d = c.args.direction in
    let env = c.args.env.now in
    let q = c.enter.new.p in
    let new = c.next_target.new.p in
    let same = entered d env c.args.p.now q c.in_ok-flow.flow.now c.in_ok-flow.others.now c.in_default.ensures.found
    c.in_ok-flow.ensures.cases.0 c.enter.ensures.flow c.enter.ensures.next c.enter.ensures.flows
    (c.enter.ensures.targets env) in
    subst (λ (l : List (ℕ × Target)). MatchOption c.next_target.result
    ((l ≡ []) × (targets_left d env new ≡ [])) (λ (target : Bor Target). l ≡ (new.flow, target.now) ∷ targets_left d env new))
    (sym same) c.next_target.ensures.found
