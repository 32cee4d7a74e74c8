use Rattle.std.proofs.Common.{◌≡◌, length, ap, sym, ◌∙◌, Some, arith, slice_index}
use Rattle.flow_meaning.proofs.CallerLemmas.{known_datatype}
use Rattle.task_run.proofs.FlowSizes.{place_size}
use Rattle.task_run.proofs.Lending.{some_fits}
use Rattle.task_run.proofs.starting.lend_place.Goals as goal

pub lend-requires-clause-known : goal.lend-requires-clause-known
lend-requires-clause-known c =
    omega (
      arith,
      known_datatype c.args.start.now.at.now.plan.now c.args.start.now.at.now.task.now (length c.args.pools.now.lent)
          c.args.flow.now c.args.start.now.at.now.of_job c.requires.flow,
      ap length c.requires.elems,
    )

pub lend-requires-clause-length : goal.lend-requires-clause-length
lend-requires-clause-length c =
    place_size c.args.start.now.at.now.plan.now c.args.start.now.at.now.task.now (length c.args.pools.now.lent)
    c.args.flow.now
    c.args.place.now (length c.opening_tile-tile.result.now)
    c.args.start.now.consistent c.args.start.now.at.now.of_job c.requires.flow c.requires.kind c.requires.place
    c.opening_tile-tile.ensures.elements
    ∙ ap (λ l. slice_index l c.args.flow.now.datatype) (sym c.requires.elems)

pub returns-clause-lent : goal.returns-clause-lent
returns-clause-lent c =
    let size : length c.lend.result ≡ slice_index c.args.pools.now.elems c.args.flow.now.datatype =
    ap length c.lend.ensures.tile
    ∙ place_size c.args.start.now.at.now.plan.now c.args.start.now.at.now.task.now (length c.args.pools.now.lent)
    c.args.flow.now
    c.args.place.now (length c.opening_tile-tile.result.now)
    c.args.start.now.consistent c.args.start.now.at.now.of_job c.requires.flow c.requires.kind c.requires.place
    c.opening_tile-tile.ensures.elements
    ∙ ap (λ l. slice_index l c.args.flow.now.datatype) (sym c.requires.elems) in
    record {
      type = Some c.args.flow.now.datatype;
      lent = c.lend.ensures.lent;
      fits = λ k e. some_fits
          c.args.pools.now.elems c.args.flow.now.datatype k c.lend.result size e;
    }
