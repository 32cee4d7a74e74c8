use Rattle.std.proofs.Common.{List, arith, flat_map, subst}
use Rattle.std.proofs.lemmas.List.{take_all}
use Rattle.type_rules.specs.TreesAndFaults.{FlowTree}
use Rattle.type_rules.specs.Contexts.{job_of}
use Rattle.type_rules.specs.Returns.{ReturnsChecked}
use Rattle.type_rules.proofs.CallerLemmas.{next_part}
use Rattle.type_rules.specs.Dependences.{flow_plan, flow_faults}
use Rattle.type_check.specs.Classes.{flows_of}
use Rattle.type_check.proofs.head.flows.Goals as goal

pub loop-each-preserved : goal.loop-each-preserved
loop-each-preserved c =
    next_part (flow_plan (job_of c.args.context.now) c.args.context.now.seen.now)
    (flow_faults (job_of c.args.context.now) c.args.context.now.seen.now) c.args.flows.now
    c.loop-each.each-index c.each-item.result c.with_part-parts.result
    c.loop-each-test.true c.each-item.is (c.with_part-parts.ensures _ _ _ _ c.loop-each.invariant c.flow.ensures)

pub returns : goal.returns
returns c =
    let job = job_of c.args.context.now in
    let seen = c.args.context.now.seen.now in
    c.and_rules.ensures _ _ _
    (subst (λ (l : List FlowTree). ReturnsChecked c.loop-each.parts (flows_of job seen l) (flat_map (flow_faults job seen) l))
    (take_all c.loop-each.each-index c.args.flows.now (omega (arith, c.loop-each-test.false))) c.loop-each.invariant)
    c.repeats.ensures
