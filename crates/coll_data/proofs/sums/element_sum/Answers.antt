use Rattle.std.proofs.Common.{◌+◌, ◌+ℤ◌, take, flat_map, sym, rules, ◌∙◌, FitsSigned, arith}
use Rattle.std.specs.Int.{w128}
use Rattle.std.proofs.lemmas.Int.{to_z-of_z}
use Rattle.coll_data.specs.declared.coll.Coll.{Coll}
use Rattle.coll_data.specs.Sums.{tile_elements}
use Rattle.coll_data.proofs.ElementSums.{IsSumOf, next_sum, part_at_most}
use Rattle.coll_data.proofs.sums.element_sum.Goals as goal

pub tile_sum-sum-requires : goal.tile_sum-sum-requires
tile_sum-sum-requires c =
    let n = part_at_most (λ (c : Coll). tile_elements c.tiles) c.args.colls.now c.loop-coll.coll-index
    c.coll-item.result c.loop-coll-test.true c.coll-item.is in
    rw c.as_slice.ensures (omega (arith, c.requires))

next : (c : goal.After-tile_sum-sum) → IsSumOf (c.loop-coll.sum +ℤ c.tile_sum-sum.result)
    (flat_map (λ (c : Coll). tile_elements c.tiles) (take (c.loop-coll.coll-index + 1) c.args.colls.now))
next c =
    next_sum (λ (c : Coll). tile_elements c.tiles) c.args.colls.now c.loop-coll.coll-index c.coll-item.result
    c.loop-coll.sum c.tile_sum-sum.result c.loop-coll-test.true c.coll-item.is c.requires
    (sym c.loop-coll.sum-is ∙ c.loop-coll.invariant.sum_so_far)
    (rw c.loop-coll.sum-is at c.loop-coll.invariant.bounds)
    (rw c.as_slice.ensures at c.tile_sum-sum.ensures.sum)
    (rw c.as_slice.ensures at c.tile_sum-sum.ensures.bounds)

pub overflow_add-sum : goal.overflow_add-sum
overflow_add-sum c =
    let f : FitsSigned w128 c.tile_sum-sum.result = search rules in
    simp (to_z-of_z, c.loop-coll.sum-is) (next c).fits

pub loop-coll-preserved : goal.loop-coll-preserved
loop-coll-preserved c =
    let f : FitsSigned w128 c.tile_sum-sum.result = search rules in
    let n = next c in
    let k = n.fits in
    simp (to_z-of_z, c.loop-coll.sum-is) (record { sum_so_far = n.is; bounds = n.bounds })
