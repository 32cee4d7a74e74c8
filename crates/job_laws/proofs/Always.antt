-- Two texts denote a verdict: each step finds what the next one needs, or a fault.
use Rattle.std.proofs.Common.{◌≡◌, ℕ, ◌≤◌, List, length, Result, Ok, Err, refl, ◌⊎◌, inl, inr}
use Rattle.std.proofs.lemmas.Bool.{cases_Bool, cases_lt}
use Rattle.jdf_tree.proofs.CallerLemmas.{texts_within}
use Rattle.text_laws.proofs.CallerLemmas.{tree_or_fault}
use Rattle.coll_data.specs.Data.{Data}
use Rattle.coll_data.specs.declared.fault.DataFault.{DataFault}
use Rattle.data_read.specs.Reading.{data_of}
use Rattle.plan_core.specs.declared.plan.Plan.{Plan}
use Rattle.type_rules.specs.Names.{Job}
use Rattle.type_check.specs.Given.{is_missing}
use Rattle.check_laws.proofs.CallerLemmas.{plan_or_first_fault}
use Rattle.edge_laws.proofs.CallerLemmas.{consistent_or_fault}
use Rattle.job_stages.specs.declared.verdict.JobVerdict.{JobVerdict}
use Rattle.job_stages.specs.declared.verdict.JobVerdict.TheVariants as verdicts
use Rattle.job_stages.specs.DataText.{IsData, IsDataFault, too_long}
use Rattle.job_stages.specs.Stages.{HasPlan}
use Rattle.job_stages.specs.Verdict.{JobDenotes, missing_name}
use Rattle.job_laws.specs.Laws.{SomeVerdict, SomeVerdictOfJob}
use Rattle.job_laws.proofs.WellData.{spelled_well}

-- ---- the data's text

data_at_most : (text : List ℕ) → length text ≤ 16777216 → (r : Result Data DataFault) → data_of text ≡ r
    → ((given : Data) × IsData text given) ⊎ ((fault : DataFault) × IsDataFault text fault)
data_at_most text short (Ok given) is = inl (given, record { bytes_at_most = short; spelled = is })
data_at_most text short (Err fault) is = inr (fault, inr (record { bytes_at_most = short; first = is }))

data_or_fault : (text : List ℕ) → ((given : Data) × IsData text given) ⊎ ((fault : DataFault) × IsDataFault text fault)
data_or_fault text = elim (cases_lt 16777216 (length text)) [
  | inl long ↦ inr (too_long, inl (record { long = long; fault_is = refl }))
  | inr short ↦ data_at_most text short (data_of text) refl
]

-- ---- a JDF with its data

plan_some : (job : Job) (P : Plan) → HasPlan job P → (v : JobVerdict) × JobDenotes job v
plan_some job P has = elim (consistent_or_fault P) [
  | inl consistent ↦ (verdicts.Consistent P job.given, (has, consistent, refl))
  | inr w ↦ (verdicts.Inconsistent P w.0, (has, w.1))
]

pub job_some : SomeVerdictOfJob
job_some job within well = elim (cases_Bool (is_missing job.jdf job.given)) [
  | inl lacking ↦ (verdicts.Data (missing_name job.given), (lacking, refl))
  | inr globals ↦ elim (plan_or_first_fault job within well) [
    | inl p ↦ plan_some job p.0 (record { globals = globals; plan = p.1 })
    | inr w ↦ (verdicts.Jdf w.0, (globals, w.1))
  ]
]

-- ---- two texts

pub texts_some : SomeVerdict
texts_some jdf_text data_text = elim (tree_or_fault jdf_text) [
  | inl tree ↦ elim (data_or_fault data_text) [
    | inl data_of_text ↦
        let job : Job = record { jdf = tree.0; given = data_of_text.0 } in
        let found = job_some job (texts_within jdf_text tree.0 tree.1) (spelled_well data_text data_of_text.0 data_of_text.1.spelled) in
        (found.0, inr (inr (job, record { tree = tree.1; spelled = data_of_text.1 }, found.1)))
    | inr w ↦ (verdicts.Data w.0, inr (inl (tree.0, w.0, tree.1, w.1, refl)))
  ]
  | inr w ↦ (verdicts.Jdf w.0, inl (w.0, w.1, refl))
]
