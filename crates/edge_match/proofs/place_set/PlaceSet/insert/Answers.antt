use Rattle.std.proofs.Common.{refl, arith, FitsSigned, w64, rules}
use Rattle.std.proofs.lemmas.Int.{to_z-of_z}
use Rattle.std.proofs.lemmas.Option.{slice_get_read}
use Rattle.edge_match.proofs.Sets.{is_added, is_fresh}
use Rattle.edge_match.proofs.place_set.PlaceSet.insert.Goals as goal

pub returns-clause-fresh : goal.returns-clause-fresh
returns-clause-fresh c = λ colls ps there is.
    let w = c.args.self.now in
    let p = c.args.p in
    let s = c.index_mut.result.now in
    let f : FitsSigned w64 p.i = search rules in
    let g : FitsSigned w64 p.j = search rules in
    let here = slice_get_read w.sets.items _ p.coll s refl (omega arith) c.index_mut.ensures.value in
    is_fresh colls w w p s s ps here there is c.insert.result (simp to_z-of_z at c.insert.ensures.fresh)

pub returns-clause-added : goal.returns-clause-added
returns-clause-added c = λ colls ps there is.
    let w = c.args.self.now in
    let p = c.args.p in
    let s = c.index_mut.result.now in
    let f : FitsSigned w64 p.i = search rules in
    let g : FitsSigned w64 p.j = search rules in
    let here = slice_get_read w.sets.items _ p.coll s refl (omega arith) c.index_mut.ensures.value in
    let rows = c.insert.ensures.rows in
    let cols = c.insert.ensures.cols in
    is_added colls w _ p s c.insert.new.self ps here there is refl (cc) (simp to_z-of_z at c.insert.ensures.added)
