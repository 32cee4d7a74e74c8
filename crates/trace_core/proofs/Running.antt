-- The rows of a text are those of tasks that may run in their order, or one of them has a fault.
use Rattle.std.proofs.Common.{◌≡◌, ◌+◌, List, [], ◌∷◌, ◌++◌, map, length, refl, ap, sym, ◌∙◌, ◌⊎◌, inl, inr, append_assoc}
use Rattle.std.proofs.lemmas.Bool.{false≢true}
use Rattle.std.proofs.lemmas.List.{append-nil, map-append}
use Rattle.ptg_base.specs.Lists.{IsIn}
use Rattle.ptg_base.specs.Task.{Task}
use Rattle.ptg_base.specs.TaskComparing.{same_task}
use Rattle.ptg_base.specs.TaskLaws.{same_task-decides}
use Rattle.plan_core.specs.NamesByNumber.{class_name}
use Rattle.plan_core.specs.declared.plan.Plan.{Plan}
use Rattle.coll_data.specs.Data.{Data}
use Rattle.list_lemmas.proofs.Truth.{by_test}
use Rattle.list_lemmas.proofs.Tasks.{member_or_not}
use Rattle.list_lemmas.proofs.Texts.{same_or_not}
use Rattle.dep_iter.specs.Edges.{in_edges}
use Rattle.dep_iter.specs.Tasks.{all_tasks}
use Rattle.dep_iter.proofs.CallerLemmas.{listed}
use Rattle.trace_core.specs.declared.fault.TraceCode.{TraceCode}
use Rattle.trace_core.specs.declared.fault.TraceCode.TheVariants.{UnknownTask, RanTwice, TooEarly}
use Rattle.trace_core.specs.declared.fault.TraceFault.{TraceFault}
use Rattle.trace_core.specs.Faults.{IsFaultOfRow, IsRowFault}
use Rattle.trace_core.specs.Naming.{Names}
use Rattle.trace_core.specs.Orders.{MayAllRunAfter, MayRunAfter}
use Rattle.trace_core.specs.Text.{TraceRow, row_of}
use Rattle.trace_core.proofs.Wholes.{all_or_missing, may_push}

module _ (P : Plan) (e : TraceRow) where
  -- a row is that of a task, or not
  is_or_not : (t : Task) → (e ≡ row_of P t) ⊎ (e ≡ row_of P t → ⊥)
  is_or_not t =
      let as_task : Task = record { class = t.class; params = e.params } in
      elim (same_or_not e.name (class_name P t.class)) [
        | inr other ↦ inr (λ is. other (ap (λ (x : TraceRow). x.name) is))
        | inl name ↦
            by_test (same_task as_task t)
            (λ k.
            let params : e.params ≡ t.params = ap (λ (u : Task). u.params) ((same_task-decides as_task t).0 k) in
            inl (λ i. record { name = name i; params = params i }))
            (λ k.
            inr (λ is.
            let params : e.params ≡ t.params = ap (λ (x : TraceRow). x.params) is in
            let same : as_task ≡ t = (λ i. record { class = t.class; params = params i }) in
            false≢true (sym k ∙ (same_task-decides as_task t).1 same)))
      ]

  -- one of these tasks has this row, or none has
  one_or_none : (ts : List Task) → ((t : Task) × IsIn t ts × (e ≡ row_of P t)) ⊎ ((t : Task) → IsIn t ts → e ≡ row_of P t → ⊥)
  one_or_none [] = inr (λ t i is. i)
  one_or_none (u ∷ us) = elim (is_or_not u) [
    | inl is ↦ inl (u, inl refl, is)
    | inr other ↦ elim (one_or_none us) [
      | inl p ↦ inl (p.0, inr p.1, p.2)
      | inr none ↦ inr (λ t i is. elim i [ inl q ↦ other (is ∙ ap (row_of P) q) | inr later ↦ none t later is ])
    ]
  ]

  named_or_unknown : ((t : Task) × Names P e t) ⊎ ((t : Task) → Names P e t → ⊥)
  named_or_unknown = elim (one_or_none (all_tasks P)) [
    | inl p ↦ inl (p.0, ((listed P p.0).1 p.1, p.2))
    | inr none ↦ inr (λ t named. none t ((listed P t).0 named.0) named.1)
  ]

  -- a row is that of a task that may run after these, or has a fault
  run_or_fault : (G : Data) (before : List Task) → ((t : Task) × (e ≡ row_of P t) × MayRunAfter P G before t)
      ⊎ ((code : TraceCode) × IsRowFault P G before e code)
  run_or_fault G before = elim named_or_unknown [
    | inr none ↦ inr (UnknownTask, none)
    | inl p ↦ elim (member_or_not p.0 before) [
      | inl old ↦ inr (RanTwice, (p.0, p.1, old))
      | inr new ↦ elim (all_or_missing P G before (in_edges P p.0)) [
        | inr x ↦ inr (TooEarly, (p.0, p.1, new, x.0, x.1, x.2))
        | inl all ↦ inl (
          p.0,
          p.1.1,
          record { follows = record { task = p.1.0; first_time = new; after_sources = λ x i. (all x i).0 }; have_outputs = λ x i. (all x i).1 },
        )
      ]
    ]
  ]

module _ (P : Plan) (G : Data) (es : List TraceRow) where
  -- these tasks are those of all rows, and may run in their order; or a row has a fault
  abbrev pub MayRunOrFault : Type 0
  MayRunOrFault = ((ts : List Task) × (es ≡ map (row_of P) ts) × MayAllRunAfter P G [] ts) ⊎ ((f : TraceFault) × IsFaultOfRow P G es f)

  from_row : (before : List Task) (left : List TraceRow) → es ≡ map (row_of P) before ++ left → MayAllRunAfter P G [] before → MayRunOrFault
  from_row before [] split may = inl (before, split ∙ append-nil (map (row_of P) before), may)
  from_row before (e ∷ later) split may = elim (run_or_fault P e G before) [
    | inr q ↦ inr (
      record { row = length before + 2; code = q.0 },
      record { before = before; failed = e; later = later; split = split; may_run = may; code = q.1; row = refl },
    )
    | inl p ↦
        let rows = map (row_of P) before in
        from_row (before ++ p.0 ∷ []) later
        (split ∙ ap (λ x. rows ++ x ∷ later) p.1 ∙ sym (append_assoc rows (row_of P p.0 ∷ []) later)
        ∙ ap (λ l. l ++ later) (sym (map-append (row_of P) before (p.0 ∷ []))))
        (may_push P G [] before p.0 may p.2)
  ]

  pub may_run_or_fault : MayRunOrFault
  may_run_or_fault = from_row [] es refl tt
