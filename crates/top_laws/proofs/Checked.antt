-- The verdict of `check` on two files, and that of a verb that continues after it: there is one, and only one. A job that
-- is found consistent is consistent.
use Rattle.std.proofs.Common.{◌≡◌, ℕ, List, Some, refl, sym, ◌∙◌, ap, subst, inl, inr}
use Rattle.std.specs.Prelude.{Option, None}
use Rattle.jdf_tree.specs.declared.tree.Jdf.{Jdf}
use Rattle.jdf_tree.specs.Jdf.{IsJdf}
use Rattle.jdf_read.proofs.CallerLemmas.{not_both}
use Rattle.coll_data.specs.Data.{Data}
use Rattle.plan_core.specs.declared.plan.Plan.{Plan}
use Rattle.dep_iter.specs.Consistent.{IsConsistent}
use Rattle.job_stages.specs.declared.verdict.JobVerdict.{JobVerdict}
use Rattle.job_stages.specs.declared.verdict.JobVerdict.TheVariants as jobs
use Rattle.job_stages.specs.Verdict.{TextsDenote}
use Rattle.job_stages.proofs.CallerLemmas.{jdf_text_once, texts_once}
use Rattle.ptg_top.specs.Answering.{OnConsistent}
use Rattle.ptg_top.specs.Denotation as verdicts
use Rattle.ptg_top.specs.Denotation.{Denotation}
use Rattle.ptg_top.specs.JobFiles.{ContentsDenote, JobTextsDenote, RefusesText}

-- ---- a verb that continues after `check`

module _ (Verb : Plan → Data → Denotation → Type 0) where
  pub once_on : (checked v w : Denotation) → ((P : Plan) (given : Data)
      → checked ≡ verdicts.Job (jobs.Consistent P given) → Verb P given v → Verb P given w → v ≡ w)
      → OnConsistent Verb checked v → OnConsistent Verb checked w → v ≡ w
  once_on (verdicts.Job (jobs.Consistent P given)) v w once h k = once P given refl h k
  once_on checked v w once h k = h ∙ sym k

  pub some_on : (checked : Denotation) → ((P : Plan) (given : Data) → checked ≡ verdicts.Job (jobs.Consistent P given)
      → (v : Denotation) × Verb P given v) → (v : Denotation) × OnConsistent Verb checked v
  some_on (verdicts.Job (jobs.Consistent P given)) some = some P given refl
  some_on checked some = (checked, refl)

-- ---- two files denote at most one verdict
pub refused_once : (text : List ℕ) (v w : Denotation) → RefusesText text v → RefusesText text w → v ≡ w
refused_once text v w (job, h, e) (other, k, d) = e ∙ (ap verdicts.Job (jdf_text_once text job other h k) ∙ sym d)

pub refused_or_read : (text : List ℕ) (v : Denotation) (J : Jdf) → RefusesText text v → IsJdf text J → ⊥
refused_or_read text v J (job, (f, first, is), e) tree = not_both text J f tree first

pub job_texts_once : (text data_text : List ℕ) (v w : Denotation) → JobTextsDenote text data_text v → JobTextsDenote text data_text w → v ≡ w
job_texts_once text data_text v w (job, h, e) (other, k, d) = e ∙ (ap verdicts.Job (texts_once text data_text job other h k) ∙ sym d)

pub contents_once : (jdf data_name : List ℕ) (a b : Option (List ℕ)) (v w : Denotation)
    → ContentsDenote jdf data_name a b v → ContentsDenote jdf data_name a b w → v ≡ w
contents_once jdf data_name None b v w h k = h ∙ sym k
contents_once jdf data_name (Some text) None v w (inl h) (inl k) = refused_once text v w h k
contents_once jdf data_name (Some text) None v w (inl h) (inr (J, tree, d)) = absurd (refused_or_read text v J h tree)
contents_once jdf data_name (Some text) None v w (inr (J, tree, d)) (inl h) = absurd (refused_or_read text w J h tree)
contents_once jdf data_name (Some text) None v w (inr h) (inr k) = h.2 ∙ sym k.2
contents_once jdf data_name (Some text) (Some data_text) v w h k = job_texts_once text data_text v w h k

-- ---- a job that is found consistent is consistent
texts_consistent : (text data_text : List ℕ) (P : Plan) (given : Data) → TextsDenote text data_text (jobs.Consistent P given) → IsConsistent P
texts_consistent text data_text P given (inl (fault, h, e)) = absurd cc
texts_consistent text data_text P given (inr (inl (J, fault, tree, h, e))) = absurd cc
texts_consistent text data_text P given (inr (inr (job, has, plan))) = plan.1

same_job : (a b : JobVerdict) → verdicts.Job a ≡ verdicts.Job b → a ≡ b
same_job a b e = cc

pub contents_consistent : (jdf data_name : List ℕ) (a b : Option (List ℕ)) (P : Plan) (given : Data)
    → ContentsDenote jdf data_name a b (verdicts.Job (jobs.Consistent P given)) → IsConsistent P
contents_consistent jdf data_name None b P given e = absurd cc
contents_consistent jdf data_name (Some text) None P given (inl (job, (fault, h, is), e)) = absurd cc
contents_consistent jdf data_name (Some text) None P given (inr (J, tree, e)) = absurd cc
contents_consistent jdf data_name (Some text) (Some data_text) P given (job, h, e) =
    texts_consistent text data_text P given (subst (TextsDenote text data_text) (sym (same_job (jobs.Consistent P given) job e)) h)
