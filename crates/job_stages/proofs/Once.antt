-- Two texts denote at most one verdict: each step finds only one thing, and never both a fault and what the next step
-- needs.
use Rattle.std.proofs.Common.{◌≡◌, ℕ, List, Result, Ok, Err, sym, ◌∙◌, ap, subst, inl, inr, arith}
use Rattle.jdf_read.proofs.CallerLemmas.{not_both, one_fault, one_tree}
use Rattle.coll_data.specs.Data.{Data}
use Rattle.coll_data.specs.declared.fault.DataFault.{DataFault}
use Rattle.data_read.specs.Reading.{data_of}
use Rattle.type_rules.specs.Names.{Job}
use Rattle.type_check.proofs.CallerLemmas.{a_plan_has_no_fault, one_first_fault, one_plan}
use Rattle.plan_core.specs.declared.plan.Plan.{Plan}
use Rattle.edge_match.specs.declared.fault.MatchFault.{MatchFault}
use Rattle.edge_match.specs.FirstFault.{IsFirstFault}
use Rattle.edge_match.proofs.CallerLemmas.{consistent_none, one_first}
use Rattle.job_stages.specs.declared.verdict.JobVerdict.{JobVerdict}
use Rattle.job_stages.specs.declared.verdict.JobVerdict.TheVariants as verdicts
use Rattle.job_stages.specs.DataText.{IsData, IsDataFault}
use Rattle.job_stages.specs.Stages.{HasJob, HasGlobals, HasPlan, HasMissingGlobal}
use Rattle.job_stages.specs.Verdict.{JobDenotes, JdfTextDenotes}
use Rattle.job_stages.specs.Laws.{OneVerdict, OneVerdictOfJob}

-- ---- the data's text

same_fault : (r : Result Data DataFault) (f g : DataFault) → r ≡ Err f → r ≡ Err g → f ≡ g
same_fault r f g e h = cc

same_data : (r : Result Data DataFault) (a b : Data) → r ≡ Ok a → r ≡ Ok b → a ≡ b
same_data r a b e h = cc

no_fault : (r : Result Data DataFault) (a : Data) (f : DataFault) → r ≡ Ok a → r ≡ Err f → ⊥
no_fault r a f e h = absurd cc

data_fault_once : (text : List ℕ) (f g : DataFault) → IsDataFault text f → IsDataFault text g → f ≡ g
data_fault_once text f g (inl x) (inl y) = x.fault_is ∙ sym y.fault_is
data_fault_once text f g (inl x) (inr y) = let long = x.long in let short = y.bytes_at_most in absurd (omega (arith, long, short))
data_fault_once text f g (inr x) (inl y) = let long = y.long in let short = x.bytes_at_most in absurd (omega (arith, long, short))
data_fault_once text f g (inr x) (inr y) = same_fault (data_of text) f g x.first y.first

data_or_fault : (text : List ℕ) (a : Data) (f : DataFault) → IsData text a → IsDataFault text f → ⊥
data_or_fault text a f h (inl x) = let long = x.long in let short = h.bytes_at_most in omega (arith, long, short)
data_or_fault text a f h (inr x) = no_fault (data_of text) a f h.spelled x.first

-- ---- a JDF with its data

missing_or_has : (job : Job) → HasMissingGlobal job → HasGlobals job → ⊥
missing_or_has job h k = absurd cc

module _ (job : Job) where
  same_plan : (P Q : Plan) → HasPlan job P → HasPlan job Q → P ≡ Q
  same_plan P Q h k = one_plan job P Q h.plan k.plan

  fault_at : (P Q : Plan) (f : MatchFault) → HasPlan job P → HasPlan job Q → IsFirstFault P f → IsFirstFault Q f
  fault_at P Q f h k first = subst (λ (p : Plan). IsFirstFault p f) (same_plan P Q h k) first

  same_inconsistency : (P Q : Plan) (f g : MatchFault) → HasPlan job P → HasPlan job Q → IsFirstFault P f
      → IsFirstFault Q g → ◌≡◌ {A = JobVerdict} (verdicts.Inconsistent P f) (verdicts.Inconsistent Q g)
  same_inconsistency P Q f g h k first other =
      let plans = same_plan P Q h k in
      let faults = one_first Q f g (fault_at P Q f h k first) other in
      λ i. verdicts.Inconsistent (plans i) (faults i)

pub job_once : OneVerdictOfJob
job_once job (verdicts.Data f) (verdicts.Data g) h k = ap verdicts.Data (h.1 ∙ sym k.1)
job_once job (verdicts.Data f) (verdicts.Jdf g) h k = absurd (missing_or_has job h.0 k.0)
job_once job (verdicts.Data f) (verdicts.Inconsistent Q g) h k = absurd (missing_or_has job h.0 k.0.globals)
job_once job (verdicts.Data f) (verdicts.Consistent Q b) h k = absurd (missing_or_has job h.0 k.0.globals)
job_once job (verdicts.Jdf f) (verdicts.Data g) h k = absurd (missing_or_has job k.0 h.0)
job_once job (verdicts.Jdf f) (verdicts.Jdf g) h k = ap verdicts.Jdf (one_first_fault job f g h.1 k.1)
job_once job (verdicts.Jdf f) (verdicts.Inconsistent Q g) h k = absurd (a_plan_has_no_fault job Q f k.0.plan h.1)
job_once job (verdicts.Jdf f) (verdicts.Consistent Q b) h k = absurd (a_plan_has_no_fault job Q f k.0.plan h.1)
job_once job (verdicts.Inconsistent P f) (verdicts.Data g) h k = absurd (missing_or_has job k.0 h.0.globals)
job_once job (verdicts.Inconsistent P f) (verdicts.Jdf g) h k = absurd (a_plan_has_no_fault job P g h.0.plan k.1)
job_once job (verdicts.Inconsistent P f) (verdicts.Inconsistent Q g) h k = same_inconsistency job P Q f g h.0 k.0 h.1 k.1
job_once job (verdicts.Inconsistent P f) (verdicts.Consistent Q b) h k = absurd (consistent_none Q f k.1 (fault_at job P Q f h.0 k.0 h.1))
job_once job (verdicts.Consistent P a) (verdicts.Data g) h k = absurd (missing_or_has job k.0 h.0.globals)
job_once job (verdicts.Consistent P a) (verdicts.Jdf g) h k = absurd (a_plan_has_no_fault job P g h.0.plan k.1)
job_once job (verdicts.Consistent P a) (verdicts.Inconsistent Q g) h k = absurd (consistent_none P g h.1 (fault_at job Q P g k.0 h.0 k.1))
job_once job (verdicts.Consistent P a) (verdicts.Consistent Q b) h k =
    let plans = same_plan job P Q h.0 k.0 in
    let givens = h.2 ∙ sym k.2 in
    λ i. verdicts.Consistent (plans i) (givens i)

-- ---- two texts

one_job : (jdf_text data_text : List ℕ) (a b : Job) → HasJob jdf_text data_text a → HasJob jdf_text data_text b → a ≡ b
one_job jdf_text data_text a b h k =
    let trees = one_tree jdf_text a.jdf b.jdf h.tree k.tree in
    let givens = same_data (data_of data_text) a.given b.given h.spelled.spelled k.spelled.spelled in
    λ i. record { jdf = trees i; given = givens i }

pub jdf_text_once : (jdf_text : List ℕ) (v w : JobVerdict) → JdfTextDenotes jdf_text v → JdfTextDenotes jdf_text w → v ≡ w
jdf_text_once jdf_text v w (f, first, e) (g, other, h) = e ∙ (ap verdicts.Jdf (one_fault jdf_text f g first other) ∙ sym h)

pub texts_once : OneVerdict
texts_once jdf_text data_text v w (inl h) (inl k) = jdf_text_once jdf_text v w h k
texts_once jdf_text data_text v w (inl (f, first, e)) (inr (inl (J, g, tree, other, h))) = absurd (not_both jdf_text J f tree first)
texts_once jdf_text data_text v w (inl (f, first, e)) (inr (inr (job, read, h))) = absurd (not_both jdf_text job.jdf f read.tree first)
texts_once jdf_text data_text v w (inr (inl (J, f, tree, first, e))) (inl (g, other, h)) = absurd (not_both jdf_text J g tree other)
texts_once jdf_text data_text v w (inr (inl (J, f, tree, first, e))) (inr (inl (K, g, other_tree, other, h))) =
    e ∙ (ap verdicts.Data (data_fault_once data_text f g first other) ∙ sym h)
texts_once jdf_text data_text v w (inr (inl (J, f, tree, first, e))) (inr (inr (job, read, h))) = absurd
    (data_or_fault data_text job.given f read.spelled first)
texts_once jdf_text data_text v w (inr (inr (job, read, h))) (inl (g, other, k)) = absurd (not_both jdf_text job.jdf g read.tree other)
texts_once jdf_text data_text v w (inr (inr (job, read, h))) (inr (inl (J, g, tree, other, k))) = absurd
    (data_or_fault data_text job.given g read.spelled other)
texts_once jdf_text data_text v w (inr (inr (job, read, h))) (inr (inr (other, again, k))) =
    job_once other v w (subst (λ (j : Job). JobDenotes j v) (one_job jdf_text data_text job other read again) h) k

-- ---- the data of a consistent plan
