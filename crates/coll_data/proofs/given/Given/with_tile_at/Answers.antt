use Rattle.std.proofs.Common.{FitsSigned, w64, rules}
use Rattle.std.proofs.lemmas.Int.{to_z-of_z}
use Rattle.coll_data.proofs.Replaced.{replaced}
use Rattle.coll_data.proofs.given.Given.with_tile_at.Goals as goal

pub invariant_of-result : goal.invariant_of-result
invariant_of-result c =
    let f : FitsSigned w64 c.args.place.now.i = search rules in
    let g : FitsSigned w64 c.args.place.now.j = search rules in
    let put = simp to_z-of_z at c.put.ensures in
    (replaced _ _ c.self.view_is c.self.invariant c.args.place.now c.args.tile c.requires.exists c.requires.elements c.into_vec-colls.result.items c.of.result
    c.index_mut-coll.result.now c.put.new.self c.into_vec-colls.ensures c.index_mut-coll.ensures.value put c.of.ensures).well_made

pub returns : goal.returns
returns c =
    let f : FitsSigned w64 c.args.place.now.i = search rules in
    let g : FitsSigned w64 c.args.place.now.j = search rules in
    let put = simp to_z-of_z at c.put.ensures in
    (replaced _ _ c.self.view_is c.self.invariant c.args.place.now c.args.tile c.requires.exists c.requires.elements c.into_vec-colls.result.items c.of.result
    c.index_mut-coll.result.now c.put.new.self c.into_vec-colls.ensures c.index_mut-coll.ensures.value put c.of.ensures).is
