use Rattle.std.proofs.Common.{sym, subst, inl, inr, arith}
use Rattle.std.proofs.lemmas.Bool.{OnTrue_from}
use Rattle.plan_core.specs.Place.{HasPlace}
use Rattle.list_lemmas.proofs.Distinct.{HasNoRepeats-push}
use Rattle.edge_match.proofs.outs.Outs.add_write.Goals as goal

pub returns : goal.returns
returns c = λ w same.
    let colls = c.args.plan.now.colls in
    let there = rw (sym same) at (c.has_place.ensures.0 c.if-not-has_place.false) in
    let insert = rw (sym same) at c.insert.ensures in
    OnTrue_from c.insert.result _ (λ h. record {
      edges = omega arith;
      writes = omega arith;
      exist = λ p k. elim k [ inl e ↦ subst (HasPlace colls) (sym e) there | inr none ↦ absurd none ];
      added = λ ps k. record {
        set = insert.added colls ps there k.set;
        once = HasNoRepeats-push ps w.place k.once ((insert.fresh colls ps there k.set).0 h);
      };
    })
