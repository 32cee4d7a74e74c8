use Rattle.std.proofs.Common.{◌≡◌, ◌<◌, ◌≤◌, ℕ, ℤ, List, length, get_or, ap, ◌∙◌, arith}
use Rattle.report_text.specs.Places.{place_after}
use Rattle.report_text.specs.Printed.{tile_line}
use Rattle.report_text.proofs.Loops.{loop_more, loop_cut, loop_all}
use Rattle.report_text.proofs.Placing.{length_placed, placed, placed_tile}
use Rattle.report_text.proofs.tiles.put_coll.Goals as goal

pub returns-in_err-put_tile : goal.returns-in_err-put_tile
returns-in_err-put_tile g c =
    let coll = c.args.coll.now in
    let n = c.loop-n.n in
    let tile = c.index-tiles-n.result in
    let item : List ℕ × List ℤ = (place_after coll.shape.1 n, tile) in
    let is : tile ≡ get_or coll.tiles n tile = c.index-tiles-n.is ∙ ap (λ (ts : List (List ℤ)). get_or ts n tile) c.as_slice-tiles.ensures in
    let among : n < length coll.tiles = omega (arith, ap length c.as_slice-tiles.ensures) in
    let within : n < length (placed coll) = omega (arith, among, length_placed coll c.requires) in
    loop_cut (λ (p : List ℕ × List ℤ). tile_line coll.name p.0 p.1) (placed coll) n item item within
    (placed_tile coll n tile c.requires among is) c.loop-n.invariant c.in_err-put_tile.ensures
    c.from_residual.ensures.0

pub loop-n-preserved : goal.loop-n-preserved
loop-n-preserved g c =
    let coll = c.args.coll.now in
    let n = c.loop-n.n in
    let tile = c.index-tiles-n.result in
    let item : List ℕ × List ℤ = (place_after coll.shape.1 n, tile) in
    let is : tile ≡ get_or coll.tiles n tile = c.index-tiles-n.is ∙ ap (λ (ts : List (List ℤ)). get_or ts n tile) c.as_slice-tiles.ensures in
    let among : n < length coll.tiles = omega (arith, ap length c.as_slice-tiles.ensures) in
    let within : n < length (placed coll) = omega (arith, among, length_placed coll c.requires) in
    loop_more (λ (p : List ℕ × List ℤ). tile_line coll.name p.0 p.1) (placed coll) n item item within
    (placed_tile coll n tile c.requires among is) c.loop-n.invariant c.in_ok-put_tile.ensures

pub returns : goal.returns
returns g c =
    let coll = c.args.coll.now in
    let end : length (placed coll) ≤ c.loop-n.n = omega (arith, ap length c.as_slice-tiles.ensures, length_placed coll c.requires) in
    loop_all (λ (p : List ℕ × List ℤ). tile_line coll.name p.0 p.1) (placed coll) c.loop-n.n end c.loop-n.invariant
