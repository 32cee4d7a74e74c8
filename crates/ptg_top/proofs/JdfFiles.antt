-- The tree of a JDF file: when one was read, when its text is refused, and what `show` then denotes.
use Rattle.std.proofs.Common.{◌≡◌, ℕ, ◌<◌, List, [], ◌∷◌, length, Result, Ok, Err, refl, ap, sym, subst, inl, inr}
use Rattle.std.specs.Prelude.{IfOk, IfErr}
use Rattle.ptg_base.specs.declared.memory.OutOfMemory.{OutOfMemory}
use Rattle.ptg_io.specs.Reads.{IsLoaded}
use Rattle.jdf_lex.specs.declared.fault.JdfFault.{JdfFault}
use Rattle.jdf_lex.specs.declared.fault.JdfCode.TheVariants as jdf_codes
use Rattle.jdf_tree.specs.declared.tree.Jdf.{Jdf}
use Rattle.jdf_tree.specs.Jdf.{IsJdf}
use Rattle.jdf_tree.specs.Fault.{IsJdfFault, first_spot}
use Rattle.jdf_print.specs.Spelling.{spelling}
use Rattle.job_stages.specs.declared.verdict.JobVerdict.{JobVerdict}
use Rattle.job_stages.specs.declared.verdict.JobVerdict.TheVariants as jobs
use Rattle.ptg_top.specs.declared.command.Command.TheVariants.{Show}
use Rattle.ptg_top.specs.Denotation as verdicts
use Rattle.ptg_top.specs.declared.verdict.Verdict.{Verdict}
use Rattle.ptg_top.specs.Denotation.{Denotation, denoted}
use Rattle.ptg_top.specs.Operands.{Read, load_of}
use Rattle.ptg_top.specs.JobFiles.{RefusesText}
use Rattle.ptg_top.specs.Steps.{IsTreeRead, LoadedAs, StepsEndWith, TreeIsRefused}
use Rattle.ptg_top.specs.Reports.{IsOfTexts, NoneFailed}

-- the first fault of a text, too long or not
pub fault_refuses : (text : List ℕ) (fault : JdfFault) → IsJdfFault text fault → RefusesText text (verdicts.Job (jobs.Jdf fault))
fault_refuses text fault h = (jobs.Jdf fault, (fault, h, refl), refl)

-- the same of a fault that is this one
pub same_fault_refuses : (text : List ℕ) (f g : JdfFault) → g ≡ f → IsJdfFault text f → RefusesText text (verdicts.Job (jobs.Jdf g))
same_fault_refuses text f g e h = fault_refuses text g (subst (IsJdfFault text) (sym e) h)

pub long_refuses : (text : List ℕ) (fault : JdfFault) → fault ≡ record { spot = first_spot; code = jdf_codes.TooLong }
    → 16777216 < length text → RefusesText text (verdicts.Job (jobs.Jdf fault))
long_refuses text fault e long = fault_refuses text fault (inl (record { long = long; fault_is = e }))

-- a verdict on a job is one on texts
pub job_is_of_texts : (v : Denotation) (job : JobVerdict) → v ≡ verdicts.Job job → IsOfTexts v
job_is_of_texts v job e = subst IsOfTexts (sym e) tt

module _ (old new : List Read) (failed failed_since : List ℕ → ℕ) where
  module _ (name text : List ℕ) (loaded : LoadedAs old new failed failed_since name text) where
    -- a tree of the text that was read
    pub tree_read : (r : Result (Result Jdf Verdict) OutOfMemory) → IfOk r (λ read. IfOk read (IsJdf text))
        → IfOk r (λ read. IfOk read (IsTreeRead old new failed failed_since name))
    tree_read (Ok (Ok J)) h = (text, h, loaded)
    tree_read (Ok (Err v)) h = tt
    tree_read (Err x) h = tt

    -- a fault of the text that was read
    pub text_is_refused : (r : Result (Result Jdf Verdict) OutOfMemory) → IfOk r (λ read. IfErr read (λ v. RefusesText text (denoted v)))
        → IfOk r (λ read. IfErr read (λ v. TreeIsRefused old new failed failed_since name (denoted v)))
    text_is_refused (Ok (Ok J)) h = tt
    text_is_refused (Ok (Err v)) h = inr (job_is_of_texts (denoted v) h.0 h.2, text, h, loaded)
    text_is_refused (Err x) h = tt

  -- a file that is too long
  pub long_is_refused : (name : List ℕ) (fault : JdfFault) → fault ≡ record { spot = first_spot; code = jdf_codes.TooLong }
      → (text : List ℕ) × (16777216 < length text) × IsLoaded (load_of name text) old new
      → NoneFailed failed failed_since → TreeIsRefused old new failed failed_since name
      (verdicts.Job (jobs.Jdf fault))
  long_is_refused name fault e long none = inr (tt, long.0, long_refuses long.0 fault e long.1, (long.2, none))

  -- what `show` denotes
  pub tree_shown : (jdf : List ℕ) (J : Jdf) (text : List ℕ) → IsTreeRead old new failed failed_since jdf J
      → text ≡ spelling J → StepsEndWith old new failed failed_since (Show jdf) (verdicts.Spelling text)
  tree_shown jdf J text read e =
      record {
        loads = load_of jdf read.0 ∷ [];
        operands = (refl, tt);
        denoted = inr (J, read.1, ap verdicts.Spelling e);
        reads = inr (tt, (new, read.2.0, refl), read.2.1);
      }

  pub refusal_shown : (jdf : List ℕ) (v : Denotation) → TreeIsRefused old new failed failed_since jdf v → StepsEndWith old new failed failed_since (Show jdf) v
  refusal_shown jdf v (inl (e, begun, rose)) = record { loads = []; operands = tt; denoted = e; reads = inl (jdf, e, (old, refl, begun, rose)) }
  refusal_shown jdf v (inr (of, text, h, loaded)) =
      record { loads = load_of jdf text ∷ []; operands = (refl, tt); denoted = inl h; reads = inr (of, (new, loaded.0, refl), loaded.1) }
