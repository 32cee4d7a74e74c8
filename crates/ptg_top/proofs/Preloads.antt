-- When the preload of a run is too large.
use Rattle.std.proofs.Common.{◌≡◌, ℕ, Option, Some, None, refl, sym, subst}
use Rattle.std.specs.Prelude.{is_some, if◌then◌else◌}
use Rattle.coll_data.specs.Data.{Data}
use Rattle.plan_core.specs.declared.plan.Plan.{Plan}
use Rattle.flow_meaning.specs.Answer.{answer}
use Rattle.run_pool.specs.Runs.{too_large_preload}
use Rattle.run_pool.specs.declared.settings.Settings.{Settings}
use Rattle.ptg_top.specs.declared.verdict.Finding.TheVariants.{Answer}
use Rattle.ptg_top.specs.Answering.{IsAnswer}
use Rattle.ptg_top.specs.Denotation as verdicts
use Rattle.ptg_top.specs.Denotation.{Denotation}

module _ (P : Plan) (s : Settings) (G : Data) where
  -- the verdict, given the bytes of a preload that is too large, or None
  abbrev verdict_at : Option ℕ → Denotation
  verdict_at large = if is_some large then verdicts.PreloadTooLarge else verdicts.Ran P (Answer (answer P G))

  -- a preload that is refused
  pub refused_is_answer : (bytes : ℕ) → too_large_preload s P ≡ Some bytes → IsAnswer s P G verdicts.PreloadTooLarge
  refused_is_answer bytes h = subst (λ large. verdicts.PreloadTooLarge ≡ verdict_at large) (sym h) refl

  -- an answer, if no preload was refused
  pub fitting_is_answer : (v : Denotation) → ((bytes : ℕ) → too_large_preload s P ≡ Some bytes → ⊥)
      → v ≡ verdicts.Ran P (Answer (answer P G)) → IsAnswer s P G v
  fitting_is_answer v none e = fits (too_large_preload s P) none
    where
      fits : (large : Option ℕ) → ((bytes : ℕ) → large ≡ Some bytes → ⊥) → v ≡ verdict_at large
      fits None none = e
      fits (Some bytes) none = absurd (none bytes refl)
