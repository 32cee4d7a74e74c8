-- The check of a made job: its texts denote the verdict, and no file is read.
use Rattle.std.proofs.Common.{◌≡◌, ℕ, List, [], Result, Ok, Err, refl, sym, subst, inr}
use Rattle.std.specs.Prelude.{IfOk}
use Rattle.ptg_base.specs.declared.memory.OutOfMemory.{OutOfMemory}
use Rattle.job_gen.specs.Job.{data_text, jdf_text}
use Rattle.job_stages.specs.Verdict.{TextsDenote}
use Rattle.job_stages.specs.declared.verdict.JobVerdict.{JobVerdict}
use Rattle.ptg_top.specs.declared.command.Source.{Source}
use Rattle.ptg_top.specs.declared.command.Source.TheVariants.{Made}
use Rattle.ptg_top.specs.declared.verdict.Verdict.{Verdict}
use Rattle.ptg_top.specs.Demo.{MadeTextsDenote}
use Rattle.ptg_top.specs.Denotation as verdicts
use Rattle.ptg_top.specs.Denotation.{denoted}
use Rattle.ptg_top.specs.Operands.{Read}
use Rattle.ptg_top.specs.Steps.{CheckEndsWith}
use Rattle.ptg_top.proofs.JdfFiles.{job_is_of_texts}

module _ (n : ℕ) where
  -- texts that are those of the made job denote what these denote
  pub made_denoted : (text data_text_of : List ℕ) (job : JobVerdict) → text ≡ jdf_text → data_text_of ≡ data_text n
      → TextsDenote text data_text_of job → MadeTextsDenote n (verdicts.Job job)
  made_denoted text data_text_of job e d h =
      let made : TextsDenote text (data_text n) job = subst (λ (t : List ℕ). TextsDenote text t job) d h in
      (job, subst (λ (t : List ℕ). TextsDenote t (data_text n) job) e made, refl)

  pub made_ends : (reads : List Read) (failed : List ℕ → ℕ) (source : Source) (r : Result Verdict OutOfMemory) → source ≡ Made n
      → IfOk r (λ v. MadeTextsDenote n (denoted v)) → IfOk r (λ v. CheckEndsWith reads reads failed failed source (denoted v))
  made_ends reads failed source (Ok v) is h =
      subst (λ (s : Source). CheckEndsWith reads reads failed failed s (denoted v)) (sym is)
      (record {
        loads = [];
        operands = tt;
        denoted = h;
        reads = inr (job_is_of_texts (denoted v) h.0 h.2, refl, λ name. refl);
      })
  made_ends reads failed source (Err x) is h = tt
