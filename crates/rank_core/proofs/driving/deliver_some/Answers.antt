use Rattle.rank_core.proofs.Turns.{delivered_later, delivered_less}
use Rattle.rank_core.proofs.driving.deliver_some.Goals as goal
use Rattle.std.proofs.lemmas.Option.{slice_get_within}

pub returns-in-Some-clause-events : goal.returns-in-Some-clause-events
returns-in-Some-clause-events c =
    let late = c.in-Some.ensures.some in
    let near = slice_get_within c.args.world.now.state.messages c.in-Some.number late.0 late.1 in
    delivered_later c.args.world.now c.deliver.new.self c.in-Some.number near c.deliver.result c.deliver.ensures.state
    c.deliver.ensures.err

pub returns-in-Some-clause-fewer : goal.returns-in-Some-clause-fewer
returns-in-Some-clause-fewer c =
    let late = c.in-Some.ensures.some in
    let near = slice_get_within c.args.world.now.state.messages c.in-Some.number late.0 late.1 in
    delivered_less c.args.world.now c.deliver.new.self c.in-Some.number near late.0 late.1 late.2 c.deliver.result
    c.deliver.ensures.state
