-- Each text has a first fault, or is a trace of a whole order.
use Rattle.std.proofs.Common.{ℕ, ◌+◌, ◌≤◌, List, [], ◌∷◌, length, refl, subst, ◌⊎◌, inl, inr}
use Rattle.std.specs.List.{AllByRecursion}
use Rattle.std.proofs.lemmas.Bool.{cases_lt}
use Rattle.ptg_base.specs.Lists.{IsIn}
use Rattle.ptg_base.specs.Task.{Task}
use Rattle.plan_core.specs.declared.plan.Plan.{Plan}
use Rattle.coll_data.specs.Data.{Data}
use Rattle.dep_iter.specs.Tasks.{IsTask}
use Rattle.dep_iter.specs.Consistent.{IsConsistent}
use Rattle.flow_meaning.specs.Answer.{ran}
use Rattle.flow_meaning.specs.Order.{IsLegalOrder}
use Rattle.chain_cert.proofs.CallerLemmas.{legal_tasks}
use Rattle.trace_core.specs.declared.fault.TraceCode.TheVariants.{BadTrace, Unfinished}
use Rattle.trace_core.specs.declared.fault.TraceFault.{TraceFault}
use Rattle.trace_core.specs.Faults.{IsTraceFault, of_spelling, of_tasks}
use Rattle.trace_core.specs.Reading.{of_a_row, over_length, too_long}
use Rattle.trace_core.specs.Spelling.{IsWellSpelled}
use Rattle.trace_core.specs.Text.{TraceRow}
use Rattle.trace_core.proofs.Wholes.{whole}
use Rattle.trace_core.specs.Traces.{IsSomeTrace}
use Rattle.trace_core.proofs.Running.{may_run_or_fault}
use Rattle.trace_core.proofs.Spellings.{spelled_or_bad}
use Rattle.list_lemmas.proofs.Tasks.{all_or_absent}

module _ (P : Plan) (G : Data) (con : IsConsistent P) (text : List ℕ) where
  -- a text has a fault, or is a trace
  abbrev FaultOrTrace : Type 0
  FaultOrTrace = ((f : TraceFault) × IsTraceFault P G text f) ⊎ IsSomeTrace P G text

  by_rows : length text ≤ 16777216 → (es : List TraceRow) → IsWellSpelled text es → FaultOrTrace
  by_rows size es spelled = elim (may_run_or_fault P G es) [
    | inr p ↦ inl (p.0, of_tasks es size spelled (inl p.1))
    | inl p ↦ elim (all_or_absent p.0 (ran P G)) [
      | inr absent ↦ inl (
        record { row = length es + 2; code = Unfinished },
        of_tasks es size spelled (inr (record { tasks = p.0; all = p.1; may_run = p.2; missing = absent; code = refl; row = refl })),
      )
      | inl all ↦ inr (p.0, record { at_most = size; spelled = subst (IsWellSpelled text) p.1 spelled; whole = whole P G con p.0 p.2 all })
    ]
  ]

  pub fault_or_trace : FaultOrTrace
  fault_or_trace = elim (cases_lt 16777216 (length text)) [
    | inl long ↦ inl (too_long, of_spelling (over_length long refl))
    | inr size ↦ elim (spelled_or_bad text) [
      | inl p ↦ by_rows size p.0 p.1
      | inr p ↦ inl (record { row = p.0; code = BadTrace }, of_spelling (of_a_row size p.1 refl))
    ]
  ]

each_of : (P : Plan) (ts : List Task) → ((t : Task) → IsIn t ts → IsTask P t) → AllByRecursion (IsTask P) ts
each_of P [] h = tt
each_of P (t ∷ ts) h = (h t (inl refl), each_of P ts (λ u i. h u (inr i)))

-- the tasks of a legal order are tasks of the job
pub order_tasks : (P : Plan) (ts : List Task) → IsLegalOrder P ts → AllByRecursion (IsTask P) ts
order_tasks P ts legal = each_of P ts (legal_tasks P [] ts legal)
