use Rattle.std.proofs.Common.{◌≡◌, ◌↔◌, FitsSigned, w64, rules, IsSome, IfSome, option_copied, subst}
use Rattle.std.proofs.lemmas.Int.{to_z-of_z}
use Rattle.coll_data.specs.Data.{Data}
use Rattle.coll_data.specs.Tiles.{tile_at, HasPlace}
use Rattle.coll_data.specs.WellMade.{IsTileOf}
use Rattle.coll_data.proofs.Found.{tile_found, tile_there, tile_length}
use Rattle.coll_data.proofs.given.Given.tile.Goals as goal

pub returns-clause-tile : goal.returns-clause-tile
returns-clause-tile c =
    let f : FitsSigned w64 c.args.place.now.i = search rules in
    let g : FitsSigned w64 c.args.place.now.j = search rules in
    let found = simp to_z-of_z at c.tile.ensures in
    subst (λ (d : Data). option_copied c.tile.result ≡ tile_at d.colls c.args.place.now) c.self.view_is
    (tile_found _ c.self.invariant c.args.place.now c.get.result.now c.get.ensures.value c.tile.result found)

pub returns-clause-exists : goal.returns-clause-exists
returns-clause-exists c =
    let f : FitsSigned w64 c.args.place.now.i = search rules in
    let g : FitsSigned w64 c.args.place.now.j = search rules in
    let found = simp to_z-of_z at c.tile.ensures in
    subst (λ (d : Data). IsSome c.tile.result ↔ HasPlace d.colls c.args.place.now) c.self.view_is
    (tile_there _ c.self.invariant c.args.place.now c.get.result.now c.get.ensures.value c.tile.result found)

pub returns-clause-elements : goal.returns-clause-elements
returns-clause-elements c =
    let f : FitsSigned w64 c.args.place.now.i = search rules in
    let g : FitsSigned w64 c.args.place.now.j = search rules in
    let found = simp to_z-of_z at c.tile.ensures in
    subst (λ (d : Data). IfSome c.tile.result (λ tile. IsTileOf d c.args.place.now.coll tile.now)) c.self.view_is
    (tile_length _ c.self.invariant c.args.place.now c.get.result.now c.get.ensures.value c.tile.result found)
