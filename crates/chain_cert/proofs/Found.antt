-- What follows from the results of calls.
use Rattle.std.proofs.Common.{◌≡◌, ◌≢◌, ◌==◌, Bool, true, false, cond, List, [], ◌∷◌, length, refl, sym, ap, ◌∙◌, subst}
use Rattle.std.proofs.lemmas.Bool.{false≢true}
use Rattle.plan_core.specs.declared.plan.Plan.{Plan}
use Rattle.coll_data.specs.Data.{Data}
use Rattle.dep_iter.specs.Tasks.{all_tasks}
use Rattle.flow_meaning.specs.declared.outcome.Outcome.{Outcome}
use Rattle.flow_meaning.specs.declared.outcome.Outcome.TheVariants.{Complete, Stalled}
use Rattle.flow_meaning.specs.declared.outcome.TrapRow.{TrapRow}
use Rattle.flow_meaning.specs.Answer.{answer, answer_by, ran, trapped, waiting}
use Rattle.flow_meaning.specs.Final.{final_data}
use Rattle.chain_cert.specs.Finding.{is_trapped}

module _ (P : Plan) (G : Data) where
  -- an answer tells whether a task trapped
  some_trap : is_trapped (answer P G) ≡ true → trapped P G ≢ []
  unfolding answer
  some_trap h none = by (length (ran P G) == length (all_tasks P)) (subst (λ rows. is_trapped (answer_by P G rows) ≡ true) none h)
    where
      by : (b : Bool) → is_trapped (cond b (Complete (length (all_tasks P)) (final_data P G))
          (Stalled (length (ran P G)) (length (all_tasks P)) (waiting P G))) ≡ true → ⊥
      by true k = false≢true k
      by false k = false≢true k

  no_trap : is_trapped (answer P G) ≡ false → trapped P G ≡ []
  unfolding answer
  no_trap h = by (trapped P G) h
    where
      by : (rows : List TrapRow) → is_trapped (answer_by P G rows) ≡ false → rows ≡ []
      by [] k = refl
      by (r ∷ rows) k = absurd (false≢true (sym k))

  pub answer_trapped : (o : Outcome) → o ≡ answer P G → is_trapped o ≡ true → trapped P G ≢ []
  answer_trapped o is h = some_trap (sym (ap is_trapped is) ∙ h)

  pub answer_calm : (o : Outcome) → o ≡ answer P G → is_trapped o ≡ false → trapped P G ≡ []
  answer_calm o is h = no_trap (sym (ap is_trapped is) ∙ h)
