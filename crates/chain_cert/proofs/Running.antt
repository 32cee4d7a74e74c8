-- If no task traps, a greatest legal order has the tasks that run.
use Rattle.std.proofs.Common.{◌≡◌, ℕ, zero, suc, ◌↔◌, Bool, true, false, cond, List, [], ◌∷◌, ◌++◌, length, refl, sym}
use Rattle.std.proofs.Common.{subst, inl, inr, Option, Some, None, Ok, Err, is_some}
use Rattle.std.proofs.lemmas.Bool.{false≢true}
use Rattle.std.specs.List.{flat_map}
use Rattle.ptg_base.specs.Lists.{IsIn}
use Rattle.ptg_base.specs.Task.{Task}
use Rattle.ptg_base.specs.TaskOrder.{in_task_order, insert_by}
use Rattle.ptg_base.specs.declared.edge.Edge.{Edge}
use Rattle.plan_core.specs.declared.plan.Plan.{Plan}
use Rattle.coll_data.specs.Data.{Data}
use Rattle.list_lemmas.proofs.Members.{IsIn-flat_map, from_append, member_passes, IsIn-filter}
use Rattle.list_lemmas.proofs.Options.{some_value}
use Rattle.dep_iter.specs.Tasks.{IsTask, all_tasks}
use Rattle.dep_iter.specs.Edges.{in_edges}
use Rattle.dep_iter.specs.Consistent.{IsConsistent}
use Rattle.dep_iter.proofs.CallerLemmas.{listed}
use Rattle.flow_meaning.specs.declared.outcome.TrapRow.{TrapRow}
use Rattle.flow_meaning.specs.Ending.{Ended, has_outputs}
use Rattle.flow_meaning.specs.Backward.{ended, ended_within}
use Rattle.flow_meaning.specs.Answer.{ran, trap_rows, trapped}
use Rattle.flow_meaning.specs.Order.{IsLegalAfter}
use Rattle.flow_meaning.proofs.CallerLemmas.{ends_after, has_sources, source_is_task, with_outputs}
use Rattle.chain_cert.specs.Greatest.{IsGreatestOrder}
use Rattle.chain_cert.proofs.Orders.{joins, legal_tasks}

-- a list with a member is not empty once it is put in order
not_empty : (rows : List TrapRow) (r : TrapRow) → IsIn r rows → in_task_order (λ (x : TrapRow). x.task) rows ≡ [] → ⊥
not_empty [] r i e = i
not_empty (x ∷ rows) r i e = inserted (in_task_order (λ (y : TrapRow). y.task) rows) e
  where
    inserted : (done : List TrapRow) → insert_by (λ (y : TrapRow). y.task) x done ≡ [] → ⊥
    inserted [] q = cc
    inserted (y ∷ ys) q = by _ q
      where
        by : (b : Bool) → cond b (y ∷ insert_by (λ (z : TrapRow). z.task) x ys) (x ∷ y ∷ ys) ≡ [] → ⊥
        by true k = cc
        by false k = cc

module _ (P : Plan) (G : Data) (con : IsConsistent P) (calm : trapped P G ≡ []) where
  -- a task that ends has outputs
  pub all_outputs : (t : Task) → IsTask P t → is_some (ended P G t) ≡ true → has_outputs (ended P G t) ≡ true
  unfolding trapped
  all_outputs t job some = by (ended P G t) refl some
    where
      by : (o : Option Ended) → ended P G t ≡ o → is_some o ≡ true → has_outputs o ≡ true
      by None is h = absurd (false≢true h)
      by (Some (Ok tiles)) is h = refl
      by (Some (Err cause)) is h =
          let row : TrapRow = record { task = t; cause = cause } in
          let here : IsIn row (trap_rows t (ended P G t)) = subst (λ o. IsIn row (trap_rows t o)) (sym is) (inl refl) in
          absurd (not_empty (flat_map (λ u. trap_rows u (ended P G u)) (all_tasks P)) row
          (IsIn-flat_map (λ u. trap_rows u (ended P G u)) (all_tasks P) t row ((listed P t).0 job) here) calm)

  -- each member of a legal order ends
  pub legal_ends : (before ts : List Task) → IsLegalAfter P before ts
      → ((t : Task) → IsIn t before → is_some (ended P G t) ≡ true) → (t : Task) → IsIn t ts
      → is_some (ended P G t) ≡ true
  legal_ends before [] l had t i = absurd i
  legal_ends before (u ∷ us) l had t i =
      let here = ends_after P G con u l.0.task (λ e j. all_outputs e.from (source_is_task P con u l.0.task e j) (had e.from (l.0.after_sources e j))) in
      elim i [
        | inl e ↦ subst (λ v. is_some (ended P G v) ≡ true) (sym e) here
        | inr later ↦ legal_ends (before ++ u ∷ []) us l.1
            (λ v j. elim (from_append v before (u ∷ []) j) [
              | inl old ↦ had v old
              | inr new ↦ elim new [ inl q ↦ subst (λ w. is_some (ended P G w) ≡ true) (sym q) here | inr never ↦ absurd never ]
            ]) t later
      ]

  module _ (ts : List Task) (g : IsGreatestOrder P ts) where
    -- a task that ends within some rounds is a member
    within : (n : ℕ) (t : Task) → IsTask P t → (v : Ended) → ended_within P G n t ≡ Some v → IsIn t ts
    unfolding ended_within
    within zero t job v e = absurd cc
    within (suc n) t job v e =
        let all = has_sources P G con t job (ended_within P G n) v e in
        joins P ts g t job (λ d i.
        let o = with_outputs (ended_within P G n d.from) (member_passes (λ (d : Edge). has_outputs (ended_within P G n d.from)) (in_edges P t) all d i) in
        within n d.from (source_is_task P con t job d i) o.0 o.1)

    pub member_ends : (t : Task) → IsIn t ts → is_some (ended P G t) ≡ true
    member_ends t i = legal_ends [] ts g.legal (λ u j. absurd j) t i

    pub ends_member : (t : Task) → IsTask P t → is_some (ended P G t) ≡ true → IsIn t ts
    unfolding ended
    ends_member t job h = let o = some_value (ended P G t) h in within (length (all_tasks P)) t job o.0 o.1

    -- the members are the tasks that run
    pub members_ran : (t : Task) → IsIn t ts ↔ IsIn t (ran P G)
    unfolding ran
    members_ran t =
        let f = IsIn-filter (λ u. is_some (ended P G u)) (all_tasks P) t in (
          λ i. f.1 ((listed P t).0 (legal_tasks P [] ts g.legal t i), member_ends t i),
          λ i. let p = f.0 i in ends_member t ((listed P t).1 p.0) p.1,
        )
