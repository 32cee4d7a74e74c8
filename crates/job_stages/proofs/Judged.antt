-- How the stages make the verdict that two texts denote.
use Rattle.std.proofs.Common.{◌≡◌, ℕ, List, Option, None, Some, Result, Ok, Err, sym, subst, inl, refl}
use Rattle.std.specs.Prelude.{IfOk}
use Rattle.ptg_base.specs.declared.memory.OutOfMemory.{OutOfMemory}
use Rattle.jdf_lex.specs.declared.fault.JdfFault.{JdfFault}
use Rattle.jdf_tree.specs.Fault.{IsJdfFault}
use Rattle.plan_core.specs.declared.plan.Plan.{Plan}
use Rattle.coll_data.specs.Data.{Data}
use Rattle.edge_match.specs.declared.fault.MatchFault.{MatchFault}
use Rattle.edge_match.specs.FirstFault.{IsFirstFault}
use Rattle.type_rules.specs.Names.{Job}
use Rattle.job_stages.specs.declared.verdict.JobVerdict.{JobVerdict}
use Rattle.job_stages.specs.declared.verdict.JobVerdict.TheVariants as verdicts
use Rattle.job_stages.specs.Stages.{HasPlan}
use Rattle.job_stages.specs.Verdict.{TextsDenote}
use Rattle.job_stages.proofs.Once.{texts_once}

-- the verdict on a tree is the only one of its text
pub only_verdict : (jdf_text data_text : List ℕ) (r : Result JobVerdict OutOfMemory) (v : JobVerdict)
    → IfOk r (TextsDenote jdf_text data_text) → TextsDenote jdf_text data_text v → IfOk r (λ w. w ≡ v)
only_verdict jdf_text data_text (Ok w) v h k = texts_once jdf_text data_text w v h k
only_verdict jdf_text data_text (Err x) v h k = tt

-- the first fault of a plan, with the plan that was returned
pub unmatched : (job : Job) (P Q : Plan) (f : MatchFault) → HasPlan job P → Q ≡ P → IsFirstFault P f → HasPlan job Q × IsFirstFault Q f
unmatched job P Q f has e first = subst (λ (p : Plan). HasPlan job p × IsFirstFault p f) (sym e) (has, first)

-- the first fault of the JDF's text
pub fault_judged : (jdf_text data_text : List ℕ) (f g : JdfFault) → g ≡ f → IsJdfFault jdf_text f → TextsDenote jdf_text data_text (verdicts.Jdf g)
fault_judged jdf_text data_text f g e h = inl (g, subst (IsJdfFault jdf_text) (sym e) h, refl)

pub only_fault : (jdf_text data_text : List ℕ) (f g : JdfFault) (v : JobVerdict) → g ≡ f → IsJdfFault jdf_text f
    → TextsDenote jdf_text data_text v → verdicts.Jdf g ≡ v
only_fault jdf_text data_text f g v e h k = texts_once jdf_text data_text (verdicts.Jdf g) v (fault_judged jdf_text data_text f g e h) k

-- the plan and the data of a verdict, if it is a consistent job
abbrev pub consistent_in : JobVerdict → Option (Plan × Data)
consistent_in (verdicts.Jdf fault) = None
consistent_in (verdicts.Data fault) = None
consistent_in (verdicts.Inconsistent P fault) = None
consistent_in (verdicts.Consistent P given) = Some (P, given)
