use Rattle.std.proofs.Common.{◌∙◌, arith, Some}
use Rattle.ptg_measure.proofs.Numbered.{still_none, first_comes}
use Rattle.ptg_measure.proofs.shards.send_first.Goals as goal

pub loop-number-preserved : goal.loop-number-preserved
loop-number-preserved c =
    let old = c.loop-number.shard in
    let new = c.arrive.new.self in
    let up = rw c.edge_to.ensures.to at c.in_ok-_waits.ensures.ok in
    record {
      waits = first_comes old new c.loop-number.number 2 _ c.edge_to.result.in_flow (Some c.args.tile.now) (omega arith)
          up c.loop-number.invariant.new c.loop-number.invariant.waits;
      new = still_none old new c.loop-number.number _ up c.loop-number.invariant.new;
      elems = c.in_ok-_waits.ensures.rest.elems ∙ c.loop-number.invariant.elems;
    }
