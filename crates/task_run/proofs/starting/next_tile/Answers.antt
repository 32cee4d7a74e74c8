use Rattle.std.proofs.Common.{length, ap, sym, ◌∙◌, arith, List}
use Rattle.ptg_base.specs.Entry.{FlowTile}
use Rattle.dep_shard.specs.Arrivals.{tile_of}
use Rattle.task_run.specs.Start.{delivered}
use Rattle.task_run.proofs.Arriving.{arrived_tile, missing_tile, others_stay}
use Rattle.task_run.proofs.starting.next_tile.Goals as goal

pub returns-in-Some-clause-tile : goal.returns-in-Some-clause-tile
returns-in-Some-clause-tile c =
    let P = c.args.start.now.at.now.plan.now in
    let G = c.args.start.now.given.now in
    let n = length c.args.pools.now.lent in
    sym (arrived_tile P (delivered P G) c.args.start.now.at.now.task.now G n c.args.flow.now c.in-Some.tile
    c.requires.flow
    (sym (c.requires.inputs n (omega arith)) ∙ ap (tile_of c.args.arrivals.now) (sym c.flows.ensures.flows)
    ∙ sym c.take.ensures.tile ∙ c.in-Some.is))

pub returns-in-Some-clause-rest : goal.returns-in-Some-clause-rest
returns-in-Some-clause-rest c = λ m h.
    ap (λ (l : List FlowTile). tile_of l m) c.take.ensures.rest
    ∙ others_stay m c.flows.result c.args.arrivals.now (λ e. omega (arith, h, e, c.flows.ensures.flows))
    ∙ c.requires.inputs m (omega (arith, h))

pub returns-in-None-clause-tile : goal.returns-in-None-clause-tile
returns-in-None-clause-tile c =
    let P = c.args.start.now.at.now.plan.now in
    let G = c.args.start.now.given.now in
    let n = length c.args.pools.now.lent in
    c.lend_source.ensures.tile ∙ sym (missing_tile P (delivered P G) c.args.start.now.at.now.task.now G n
    c.args.flow.now c.requires.flow
    (sym (c.requires.inputs n (omega arith)) ∙ ap (tile_of c.args.arrivals.now) (sym c.flows.ensures.flows)
    ∙ sym c.take.ensures.tile ∙ c.in-None.is))

pub returns-in-None-clause-rest : goal.returns-in-None-clause-rest
returns-in-None-clause-rest c = λ m h.
    ap (λ (l : List FlowTile). tile_of l m) c.take.ensures.rest
    ∙ others_stay m c.flows.result c.args.arrivals.now (λ e. omega (arith, h, e, c.flows.ensures.flows))
    ∙ c.requires.inputs m (omega (arith, h))
