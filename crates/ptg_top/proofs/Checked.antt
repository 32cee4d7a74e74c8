-- The check of a job's two files: how its steps make the verdict that the files denote.
use Rattle.std.proofs.Common.{◌≡◌, ℕ, ◌<◌, List, [], ◌∷◌, length, Result, Ok, Err, refl, ◌∙◌, subst, inl, inr}
use Rattle.std.specs.Prelude.{IfOk}
use Rattle.ptg_base.specs.declared.memory.OutOfMemory.{OutOfMemory}
use Rattle.ptg_io.specs.Faults.{Rose}
use Rattle.ptg_io.specs.Reads.{IsLoaded}
use Rattle.jdf_tree.specs.declared.tree.Jdf.{Jdf}
use Rattle.jdf_tree.specs.Jdf.{IsJdf}
use Rattle.coll_data.specs.declared.fault.DataFault.{DataFault}
use Rattle.job_stages.specs.declared.verdict.JobVerdict.{JobVerdict}
use Rattle.job_stages.specs.declared.verdict.JobVerdict.TheVariants as jobs
use Rattle.job_stages.specs.DataText.{too_long}
use Rattle.job_stages.specs.Verdict.{TextsDenote}
use Rattle.ptg_top.specs.declared.command.Source.TheVariants.{Files}
use Rattle.ptg_top.specs.Denotation as verdicts
use Rattle.ptg_top.specs.declared.verdict.Verdict.{Verdict}
use Rattle.ptg_top.specs.Denotation.{Denotation, denoted}
use Rattle.ptg_top.specs.Operands.{Read, load_of}
use Rattle.ptg_top.specs.Steps.{CheckEndsWith, CheckOfDataEndsWith, IsTreeRead, LoadedAs, TreeIsRefused}
use Rattle.ptg_top.specs.Reports.{NoneFailed}
use Rattle.ptg_top.proofs.JdfFiles.{job_is_of_texts}

module _ (old new : List Read) (failed failed_since : List ℕ → ℕ) (text data_name : List ℕ) where
  -- a data file that was loaded
  pub data_ends : (data_text : List ℕ) (job : JobVerdict) → LoadedAs old new failed failed_since data_name data_text → TextsDenote text data_text job
      → CheckOfDataEndsWith old new failed failed_since text data_name (verdicts.Job job)
  data_ends data_text job loaded h = inr (job, refl, data_text, h, loaded)

  -- a data file that is too long
  pub long_data_ends : (J : Jdf) (fault : DataFault) → IsJdf text J → fault ≡ too_long
      → (data_text : List ℕ) × (16777216 < length data_text) × IsLoaded (load_of data_name data_text) old new
      → NoneFailed failed failed_since
      → CheckOfDataEndsWith old new failed failed_since text data_name (verdicts.Job (jobs.Data fault))
  long_data_ends J fault tree e long none =
      inr (jobs.Data fault, refl, long.0, inr (inl (J, fault, tree, inl (record { long = long.1; fault_is = e }), refl)), (long.2, none))

module _ (old middle new : List Read) (failed failed_between failed_since : List ℕ → ℕ) (jdf data_name : List ℕ) where
  -- the check of the data file is the check of the files, if the tree of the JDF file was read
  tree_ends : (J : Jdf) (v : Denotation) (read : IsTreeRead old middle failed failed_between jdf J)
      → CheckOfDataEndsWith middle new failed_between failed_since read.0 data_name v → CheckEndsWith old new failed failed_since (Files jdf data_name) v
  tree_ends J v read (inl (e, begun, rose)) =
      record {
        loads = load_of jdf read.0 ∷ [];
        operands = (refl, tt);
        denoted = inr (J, read.1, e);
        reads = inl (data_name, e, (middle, (middle, read.2.0, refl), begun, subst (λ (k : ℕ). Rose k (failed_since data_name)) (read.2.1 data_name) rose));
      }
  tree_ends J v read (inr (job, e, data_text, h, loaded)) =
      record {
        loads = load_of jdf read.0 ∷ load_of data_name data_text ∷ [];
        operands = (refl, (refl, tt));
        denoted = (job, h, e);
        reads = inr (job_is_of_texts v job e, (middle, read.2.0, (new, loaded.0, refl)), λ name. loaded.1 name ∙ read.2.1 name);
      }

  pub tree_result_ends : (J : Jdf) (r : Result Verdict OutOfMemory) → IsTreeRead old middle failed failed_between jdf J
      → ((text : List ℕ) → IsJdf text J → IfOk r (λ v. CheckOfDataEndsWith middle new failed_between failed_since text data_name (denoted v)))
      → IfOk r (λ v. CheckEndsWith old new failed failed_since (Files jdf data_name) (denoted v))
  tree_result_ends J (Ok v) read h = tree_ends J (denoted v) read (h read.0 read.1)
  tree_result_ends J (Err x) read h = tt

module _ (old new : List Read) (failed failed_since : List ℕ → ℕ) (jdf data_name : List ℕ) where
  -- a JDF file without a tree
  pub refusal_ends : (v : Denotation) → TreeIsRefused old new failed failed_since jdf v → CheckEndsWith old new failed failed_since (Files jdf data_name) v
  refusal_ends v (inl (e, begun, rose)) = record { loads = []; operands = tt; denoted = e; reads = inl (jdf, e, (old, refl, begun, rose)) }
  refusal_ends v (inr (of, text, h, loaded)) =
      record { loads = load_of jdf text ∷ []; operands = (refl, tt); denoted = inl h; reads = inr (of, (new, loaded.0, refl), loaded.1) }
