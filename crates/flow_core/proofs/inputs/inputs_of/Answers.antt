use Rattle.std.proofs.Common.{◌≡◌, ◌≤◌, ◌++◌, length, sym, subst, ap, ◌∙◌, true, arith}
use Rattle.flow_meaning.specs.Starting.{starting_tiles, tiles_from, nothing_delivered}
use Rattle.flow_core.specs.Inputs.{edges_from, have_datatypes}
use Rattle.flow_core.proofs.Starting.{datatypes_known}
use Rattle.flow_core.proofs.Taking.{length-edges_from}
use Rattle.flow_core.proofs.inputs.inputs_of.Goals as goal

pub push_inputs-requires-clause-datatypes : goal.push_inputs-requires-clause-datatypes
push_inputs-requires-clause-datatypes c =
    let s = c.args.at.now in
    subst (λ fs. have_datatypes s.plan.now fs ≡ true) (sym c.flows.ensures.flows) (datatypes_known s.plan.now s.task.now s.of_job)

pub returns-clause-tiles : goal.returns-clause-tiles
unfolding starting_tiles
returns-clause-tiles c =
    let s = c.args.at.now in
    c.in_ok-push_inputs.ensures.tiles ∙ (λ i. c.new.ensures.items i ++ tiles_from s.plan.now c.args.given.now
    nothing_delivered s.task.now 0 (c.flows.ensures.flows i))

pub returns-clause-edges : goal.returns-clause-edges
returns-clause-edges c =
    let s = c.args.at.now in
    c.in_ok-push_inputs.ensures.edges ∙ (λ i. c.new-2.ensures.items i ++ edges_from s.plan.now s.task.now 0 (c.flows.ensures.flows i))

pub returns-clause-at_most : goal.returns-clause-at_most
returns-clause-at_most c =
    let s = c.args.at.now in
    let flows = c.flows.result.now in
    let edges : c.push_inputs.new.inputs.edges.items ≡ edges_from s.plan.now s.task.now 0
    flows = c.in_ok-push_inputs.ensures.edges ∙ ap (λ l. l ++ edges_from s.plan.now s.task.now 0 flows)
    c.new-2.ensures.items in
    let some : length flows ≤ 8 = c.flows.ensures.at_most in
    omega (arith, ap length edges, length-edges_from s.plan.now s.task.now 0 flows)
