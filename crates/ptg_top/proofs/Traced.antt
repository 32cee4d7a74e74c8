-- The trace of a run: it is the text of a whole order.
use Rattle.std.proofs.Common.{◌≡◌, ℕ, List, sym, ◌∙◌, ap, subst}
use Rattle.std.specs.List.{AllByRecursion}
use Rattle.ptg_base.specs.Task.{Task}
use Rattle.coll_data.specs.Data.{Data}
use Rattle.plan_core.specs.declared.plan.Plan.{Plan}
use Rattle.dep_iter.specs.Tasks.{IsTask}
use Rattle.flow_meaning.specs.declared.outcome.Outcome.{Outcome}
use Rattle.dep_table.specs.Receipts.{ReceiptView}
use Rattle.flow_meaning.specs.Order.{IsWholeOrder}
use Rattle.run_pool.specs.Runs.{Run, run_of}
use Rattle.run_pool.specs.declared.settings.Settings.{Settings}
use Rattle.trace_core.specs.Text.{trace_text}
use Rattle.trace_core.proofs.CallerLemmas.{order_tasks}
use Rattle.ptg_top.specs.declared.verdict.Finding.TheVariants.{Trace}
use Rattle.ptg_top.specs.Denotation as verdicts
use Rattle.ptg_top.specs.Tables.{IsTableAnswer}
use Rattle.ptg_top.specs.Trace.{IsTraced}

-- the tasks of a run are tasks of its plan
pub ran_tasks : (P Q : Plan) (G : Data) (ts us : List Task) → Q ≡ P → us ≡ ts → IsWholeOrder P G ts → AllByRecursion (IsTask Q) us
ran_tasks P Q G ts us plan same order =
    subst (λ (R : Plan). AllByRecursion (IsTask R) us) (sym plan) (subst (AllByRecursion (IsTask P)) (sym same) (order_tasks P ts order.legal))

-- the text of the tasks of a run, in the order in which they ran
pub traced_by : (s : Settings) (P : Plan) (G : Data) (p : Run) (r : ReceiptView) (outcome : Outcome) (ts us : List Task)
    (text : List ℕ) (Q : Plan) → p ≡ run_of P G s → IsTableAnswer s P G r outcome
    → IsWholeOrder p.job.matched p.job.given ts → Q ≡ r.plan → us ≡ ts → text ≡ trace_text Q us → IsTraced P G (verdicts.Ran r.plan (Trace text))
traced_by s P G p r outcome ts us text Q run of order plan same is =
    let here : IsWholeOrder P G ts = subst (λ (q : Run). IsWholeOrder q.job.matched q.job.given ts) run order in
    let printed : text ≡ trace_text P ts = is ∙ (ap (λ (R : Plan). trace_text R us) (plan ∙ of.job.0) ∙ ap (trace_text P) same) in (
      ts,
      here,
      ap (λ (R : Plan). verdicts.Ran R (Trace text)) of.job.0 ∙ ap (λ (x : List ℕ). verdicts.Ran P (Trace x)) printed,
    )
