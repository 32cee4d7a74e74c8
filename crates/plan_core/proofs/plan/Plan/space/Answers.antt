use Rattle.std.proofs.Common.{sym, inl, inr, arith}
use Rattle.std.proofs.lemmas.Option.{slice_get_cases}
use Rattle.plan_core.proofs.plan.Plan.space.Goals as goal

pub returns-clause-well : goal.returns-clause-well
returns-clause-well c =
    let P = c.args.self.now in
    elim (slice_get_cases P.classes c.args.n).1 [
      | inl p ↦ (P.well_made.fit c.args.n p.0 _ p.2 (sym c.get.ensures.value)).space
      | inr e ↦ absurd (let r = c.requires in omega arith)
    ]
