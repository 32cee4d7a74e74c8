-- A text has a first fault if and only if it is no trace of a whole order, and a trace is the text of its tasks.
use Rattle.std.proofs.Common.{ℕ, ◌↔◌, List, [], map, refl, inl, inr}
use Rattle.ptg_base.specs.Task.{Task}
use Rattle.plan_core.specs.declared.plan.Plan.{Plan}
use Rattle.coll_data.specs.Data.{Data}
use Rattle.dep_iter.specs.Consistent.{IsConsistent}
use Rattle.chain_cert.proofs.CallerLemmas.{legal_once}
use Rattle.trace_core.specs.declared.fault.TraceFault.{TraceFault}
use Rattle.trace_core.specs.Faults.{IsTraceFault}
use Rattle.trace_core.specs.Reading.{IsListOf}
use Rattle.trace_core.specs.Text.{row_of}
use Rattle.trace_core.proofs.CallerLemmas.{fault_or_trace, faultless, is_list, order_tasks, whole_all, whole_may}
use Rattle.trace_core.specs.Traces.{IsSomeTrace, IsTrace}

module _ (P : Plan) (G : Data) (con : IsConsistent P) (text : List ℕ) where
  -- never both
  pub trace_or_fault : IsSomeTrace P G text → (f : TraceFault) → IsTraceFault P G text f → ⊥
  trace_or_fault p f fault =
      faultless P G text p.0 p.1.at_most p.1.spelled (whole_may P G con p.0 p.1.whole) (whole_all P G con p.0 p.1.whole) f fault

  pub faulty_exactly : (IsSomeTrace P G text → ⊥) ↔ ((f : TraceFault) × IsTraceFault P G text f)
  faulty_exactly = (
    λ none. elim (fault_or_trace P G con text) [ inl p ↦ p | inr t ↦ absurd (none t) ],
    λ p t. trace_or_fault t p.0 p.1,
  )

  pub trace_exactly : ((f : TraceFault) → IsTraceFault P G text f → ⊥) ↔ IsSomeTrace P G text
  trace_exactly = (
    λ none. elim (fault_or_trace P G con text) [ inl p ↦ absurd (none p.0 p.1) | inr t ↦ t ],
    λ t. trace_or_fault t,
  )

-- a trace of tasks is their text
pub trace_is_list : (P : Plan) (G : Data) (text : List ℕ) (ts : List Task) → IsTrace P G text ts → IsListOf P text ts
trace_is_list P G text ts t =
    is_list P text (map (row_of P) ts) ts t.at_most t.spelled
    (record { named = refl; tasks = order_tasks P ts t.whole.legal; once = legal_once P [] ts t.whole.legal })
