use Rattle.std.proofs.Common.{arith}
use Rattle.std.proofs.lemmas.List.{take_all}
use Rattle.edge_match.proofs.Sets.{is_empty}
use Rattle.edge_match.proofs.place_set.PlaceSet.new.Goals as goal

pub returns : goal.returns
returns c =
    let all = take_all c.loop-shape.shape-index c.args.shapes.now (omega arith) in
    is_empty c.args.shapes.now _ (rw all at c.loop-shape.invariant.sizes) c.loop-shape.invariant.none
