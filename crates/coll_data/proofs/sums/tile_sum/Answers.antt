use Rattle.std.proofs.Common.{◌+◌, ℤ, ◌+ℤ◌, List, take, flat_map, sym, rules, ◌∙◌, FitsSigned, arith}
use Rattle.std.specs.Int.{w128}
use Rattle.std.proofs.lemmas.Int.{to_z-of_z}
use Rattle.coll_data.proofs.ElementSums.{IsSumOf, next_sum, part_at_most}
use Rattle.coll_data.proofs.sums.tile_sum.Goals as goal

pub sum_of-sum-requires : goal.sum_of-sum-requires
sum_of-sum-requires c =
    let n = part_at_most (λ (tile : List ℤ). tile) c.args.tiles.now c.loop-tile.tile-index c.tile-item.result c.loop-tile-test.true c.tile-item.is in
    rw c.as_slice.ensures (omega (arith, c.requires))

next : (c : goal.After-sum_of-sum) → IsSumOf (c.loop-tile.sum +ℤ c.sum_of-sum.result)
    (flat_map (λ (tile : List ℤ). tile) (take (c.loop-tile.tile-index + 1) c.args.tiles.now))
next c =
    next_sum (λ (tile : List ℤ). tile) c.args.tiles.now c.loop-tile.tile-index c.tile-item.result c.loop-tile.sum
    c.sum_of-sum.result c.loop-tile-test.true c.tile-item.is c.requires
    (sym c.loop-tile.sum-is ∙ c.loop-tile.invariant.sum_so_far)
    (rw c.loop-tile.sum-is at c.loop-tile.invariant.bounds) (rw c.as_slice.ensures at c.sum_of-sum.ensures.sum)
    (rw c.as_slice.ensures at c.sum_of-sum.ensures.bounds)

pub overflow_add-sum : goal.overflow_add-sum
overflow_add-sum c =
    let f : FitsSigned w128 c.sum_of-sum.result = search rules in
    simp (to_z-of_z, c.loop-tile.sum-is) (next c).fits

pub loop-tile-preserved : goal.loop-tile-preserved
loop-tile-preserved c =
    let f : FitsSigned w128 c.sum_of-sum.result = search rules in
    let n = next c in
    let k = n.fits in
    simp (to_z-of_z, c.loop-tile.sum-is) (record { sum_so_far = n.is; bounds = n.bounds })
