use Rattle.std.proofs.Common.{◌<◌, ◌≤◌, length, ap, sym, ◌∙◌, slice_get, arith}
use Rattle.dep_iter.specs.Tasks.{flows_of}
use Rattle.task_run.specs.Bench.{Laid}
use Rattle.task_run.proofs.Laying.{laid_by, set_count}
use Rattle.task_run.proofs.bench.Bench.lay.Goals as goal
use Rattle.std.proofs.lemmas.List.{length-take-le}

pub next_tile-tile-requires-clause-flows : goal.next_tile-tile-requires-clause-flows
next_tile-tile-requires-clause-flows c =
    omega (
      arith,
      c.requires.room,
      ap (λ (b : Laid). length b.tiles) c.self.view_is,
      length-take-le (length c.self.inside.pools.lent) c.self.inside.tiles
          (omega (arith, c.self.invariant.1, c.flows-number.ensures.flows, c.flows-number.ensures.at_most)),
    )

pub next_tile-tile-requires-clause-flow : goal.next_tile-tile-requires-clause-flow
next_tile-tile-requires-clause-flow c =
    let few : length c.self.inside.pools.lent ≤ length c.self.inside.tiles = omega
    (arith, c.self.invariant.1, c.flows-number.ensures.flows, c.flows-number.ensures.at_most) in
    ap (slice_get (flows_of c.args.start.now.at.now.plan.now c.args.start.now.at.now.task.now))
    (sym (length-take-le (length c.self.inside.pools.lent) c.self.inside.tiles few)
    ∙ ap (λ (b : Laid). length b.tiles) c.self.view_is)
    ∙ c.requires.flow

pub invariant_of-self : goal.invariant_of-self
invariant_of-self c =
    let few : length c.self.inside.pools.lent ≤ length c.self.inside.tiles = omega
    (arith, c.self.invariant.1, c.flows-number.ensures.flows, c.flows-number.ensures.at_most) in
    let below : c.flows-number.result < length c.self.inside.tiles =
    omega (
      arith,
      c.self.invariant.1,
      c.requires.room,
      c.flows-number.ensures.flows,
      ap (λ (b : Laid). length b.tiles)
          c.self.view_is,
      length-take-le (length c.self.inside.pools.lent) c.self.inside.tiles few,
    ) in (
      laid_by c.self.inside.pools c.next_tile-tile.new.pools c.self.inside.tiles c.next_tile-tile.result
          c.flows-number.result c.self.invariant.0 c.flows-number.ensures.flows below c.next_tile-tile.ensures.lent,
      set_count c.self.inside.tiles c.flows-number.result 8 c.next_tile-tile.result c.self.invariant.1,
    )
