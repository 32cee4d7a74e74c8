-- The verdict of `replay`: how its steps make what it denotes.
use Rattle.std.proofs.Common.{◌≡◌, ℕ, ◌<◌, List, length, Result, Ok, Err, refl, sym, ◌∙◌, ap, subst, inl, inr}
use Rattle.std.specs.Prelude.{IfOk}
use Rattle.ptg_base.specs.declared.memory.OutOfMemory.{OutOfMemory}
use Rattle.ptg_io.specs.Reads.{IsLoaded}
use Rattle.coll_data.specs.Data.{Data}
use Rattle.plan_core.specs.declared.plan.Plan.{Plan}
use Rattle.dep_iter.specs.Consistent.{IsConsistent}
use Rattle.flow_meaning.specs.Answer.{answer}
use Rattle.flow_meaning.specs.declared.outcome.Outcome.{Outcome}
use Rattle.trace_core.specs.Faults.{IsTraceFault, of_spelling}
use Rattle.trace_core.specs.Reading.{over_length, too_long}
use Rattle.trace_core.specs.declared.fault.TraceFault.{TraceFault}
use Rattle.trace_core.proofs.CallerLemmas.{fault_or_trace}
use Rattle.ptg_top.specs.declared.verdict.Finding.TheVariants.{Answer}
use Rattle.ptg_top.specs.declared.verdict.Verdict.{Verdict}
use Rattle.ptg_top.specs.Denotation as verdicts
use Rattle.ptg_top.specs.Denotation.{Denotation, denoted}
use Rattle.ptg_top.specs.Operands.{Read, load_of}
use Rattle.ptg_top.specs.Replay.{IsReplayOf}
use Rattle.ptg_top.specs.Reports.{IsOfTexts, NoneFailed}
use Rattle.ptg_top.specs.Steps.{LoadedAs, ReplayEndsWith}

-- a text that is accepted has no fault, and so it is a trace
pub accepted : (P : Plan) (given : Data) → IsConsistent P → (text : List ℕ) (r : Result Outcome TraceFault)
    (o : Outcome) → r ≡ Ok o → ((f : TraceFault) → IsTraceFault P given text f → r ≡ Err f)
    → IfOk r (λ x. x ≡ answer P given) → IsReplayOf text P given (verdicts.Ran P (Answer o))
accepted P given con text r o is refused answered = elim (fault_or_trace P given con text) [
  | inl p ↦ let e : Ok o ≡ Err p.0 = sym is ∙ refused p.0 p.1 in absurd cc
  | inr found ↦ inr (
    found,
    ap (λ (x : Outcome). verdicts.Ran P (Answer x))
        (subst (λ (q : Result Outcome TraceFault). IfOk q (λ x. x ≡ answer P given)) is answered),
  )
]

module _ (old new : List Read) (failed failed_since : List ℕ → ℕ) (trace : List ℕ) (P : Plan) (given : Data) where
  of_texts : (text : List ℕ) (v : Denotation) → IsReplayOf text P given v → IsOfTexts v
  of_texts text v (inl (fault, h, e)) = subst IsOfTexts (sym e) tt
  of_texts text v (inr (found, e)) = subst IsOfTexts (sym e) tt

  -- a trace file that was loaded
  pub read_ends : (text : List ℕ) (r : Result Verdict OutOfMemory) → LoadedAs old new failed failed_since trace text
      → IfOk r (λ v. IsReplayOf text P given (denoted v)) → IfOk r (λ v. ReplayEndsWith old new failed failed_since trace P given (denoted v))
  read_ends text (Ok v) loaded h = inr (of_texts text (denoted v) h, text, h, loaded)
  read_ends text (Err x) loaded h = tt

  -- a trace file that is too long
  pub long_ends : (f : TraceFault) → f ≡ too_long → (text : List ℕ) × (16777216 < length text)
      × IsLoaded (load_of trace text) old new → NoneFailed failed failed_since
      → ReplayEndsWith old new failed failed_since trace P given (verdicts.TraceRefused f)
  long_ends f is long none = inr (tt, long.0, inl (f, of_spelling (over_length long.1 is), refl), (long.2, none))
