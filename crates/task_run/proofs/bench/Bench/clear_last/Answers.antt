use Rattle.std.proofs.Common.{◌<◌, ◌≤◌, ◌-◌, length, ap, arith}
use Rattle.task_run.specs.Bench.{Laid}
use Rattle.task_run.proofs.Laying.{last_lent, less_lent, set_count}
use Rattle.task_run.proofs.bench.Bench.clear_last.Goals as goal
use Rattle.std.proofs.lemmas.List.{length-take-le}

pub take_back-requires-clause-fits : goal.take_back-requires-clause-fits
take_back-requires-clause-fits c =
    let few : length c.self.inside.pools.lent ≤ length c.self.inside.tiles = omega
    (arith, c.self.invariant.1, c.flows-last.ensures.flows, c.flows-last.ensures.at_most) in
    let some : 0 < length c.self.inside.pools.lent = omega (
      arith,
      c.requires,
      ap (λ (b : Laid). length b.tiles)
          c.self.view_is,
      length-take-le (length c.self.inside.pools.lent) c.self.inside.tiles few,
    ) in
    last_lent c.self.inside.pools c.self.inside.tiles c.flows-last.result c.take-tile.result c.index-self-last.result
    c.self.invariant.0 some c.flows-last.ensures.flows (omega (arith, few, c.flows-last.ensures.flows))
    c.index-self-last.is c.take-tile.ensures.value

pub invariant_of-self : goal.invariant_of-self
invariant_of-self c =
    let few : length c.self.inside.pools.lent ≤ length c.self.inside.tiles = omega
    (arith, c.self.invariant.1, c.flows-last.ensures.flows, c.flows-last.ensures.at_most) in
    let some : 0 < length c.self.inside.pools.lent = omega (
      arith,
      c.requires,
      ap (λ (b : Laid). length b.tiles)
          c.self.view_is,
      length-take-le (length c.self.inside.pools.lent) c.self.inside.tiles few,
    ) in (
      less_lent c.self.inside.pools c.take_back.new.self c.self.inside.tiles c.flows-last.result _ c.self.invariant.0
          some c.flows-last.ensures.flows c.take_back.ensures,
      set_count c.self.inside.tiles (c.flows-last.result - 1) 8 _ c.self.invariant.1,
    )
