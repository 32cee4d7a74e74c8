use Rattle.std.proofs.Common.{refl}
use Rattle.edge_match.proofs.Tallies.{one_more_place}
use Rattle.edge_match.proofs.counted.Counted.add_place.Goals as goal

pub returns : goal.returns
returns c = λ P there.
    let h = c.insert.ensures in
    one_more_place P c.args.self.now _ c.args.place there refl refl refl refl
    c.insert.result (h.fresh P.colls) (h.added P.colls)
