-- The rows of an answer are of its plan: of its classes, and of their words.
use Rattle.std.proofs.Common.{◌≡◌, ℕ, zero, suc, Bool, true, false, ◌==◌, nat_lt, if◌then◌else◌, List, [], ◌∷◌, inl}
use Rattle.std.proofs.Common.{inr, Option, Some, None, Ok, Err, refl, ap, sym, ◌∙◌, subst, length, slice_get}
use Rattle.std.proofs.lemmas.Option.{slice_get_within, same_Some}
use Rattle.std.specs.Prelude.{All, option_map}
use Rattle.std.specs.Option.{option_map_or}
use Rattle.std.specs.List.{flat_map}
use Rattle.ptg_base.specs.Lists.{IsIn}
use Rattle.ptg_base.specs.Task.{Task}
use Rattle.ptg_base.specs.TaskOrder.{in_task_order}
use Rattle.term_core.specs.declared.trap.Trap.{Trap}
use Rattle.term_core.specs.declared.trap.Trap.TheVariants.{Overflow, Divide, Index, Absent, Budget, Word}
use Rattle.plan_core.specs.declared.class.ClassPlan.{ClassPlan}
use Rattle.plan_core.specs.declared.plan.Plan.{Plan}
use Rattle.plan_core.specs.Bodies.{has_words}
use Rattle.coll_data.specs.Data.{Data}
use Rattle.body_eval.specs.Meaning.{body_meaning}
use Rattle.dep_iter.specs.Tasks.{IsTask, all_tasks, locals_of}
use Rattle.dep_iter.proofs.CallerLemmas.{listed}
use Rattle.list_lemmas.proofs.Members.{from_flat_map, All-from_members}
use Rattle.list_lemmas.proofs.Tasks.{from_insert}
use Rattle.flow_meaning.specs.declared.outcome.TrapRow.{TrapRow}
use Rattle.flow_meaning.specs.declared.outcome.WaitRow.{WaitRow}
use Rattle.flow_meaning.specs.Starting.{Delivery, starting_tiles}
use Rattle.flow_meaning.specs.Ending.{Ended, ended_on}
use Rattle.flow_meaning.specs.Backward.{ended, ended_within, has_all_sources, source_tile}
use Rattle.flow_meaning.specs.declared.outcome.Outcome.TheVariants.{Complete, Stalled}
use Rattle.flow_meaning.specs.Final.{final_data}
use Rattle.flow_meaning.specs.Answer.{answer, answer_by, ran, satisfied, trap_rows as rows_of_end, trapped, wait_rows, waiting}
use Rattle.flow_meaning.proofs.CallerLemmas.{class_of}
use Rattle.report_text.specs.Rows.{trap_words}
use Rattle.report_laws.specs.RowNames.{HasClass, HasRowsOf, HasWord, IsTrapOf}
use Rattle.report_laws.proofs.TrapWords.{Allows, IsAllowed, allows-body}

module _ {A : Type 0} (key : A → Task) where
  -- a row of the rows in task order is one of the rows
  in_ordered : (xs : List A) (x : A) → IsIn x (in_task_order key xs) → IsIn x xs
  in_ordered [] x i = i
  in_ordered (y ∷ ys) x i = elim (from_insert key x y (in_task_order key ys) i) [ inl e ↦ inl e | inr h ↦ inr (in_ordered ys x h) ]

-- the class of a task of the job is one of the plan's
pub has_class : (P : Plan) (t : Task) → IsTask P t → HasClass P t
has_class P t task = let c = class_of P t task in slice_get_within P.classes t.class c.class c.class_is

module _ (P : Plan) (G : Data) where
  -- what traps has one of these words
  abbrev EndAllowed : ClassPlan → Option Ended → Type 0
  EndAllowed c o = (cause : Trap) → o ≡ Some (Err cause) → IsAllowed (length c.trap_words) cause

  end_allowed : (t : Task) (c : ClassPlan) (d : Delivery) → slice_get P.classes t.class ≡ Some c
      → has_words (length c.trap_words) c.body.statements ≡ true → EndAllowed c (ended_on P G d t)
  unfolding ended_on
  end_allowed t c d here words cause e =
      let tiles = starting_tiles P G d t in
      let end = body_meaning c.body (locals_of P t) tiles in
      let same : end ≡ Err cause = same_Some end (Err cause)
      (sym (ap (λ o. option_map (λ (k : ClassPlan). body_meaning k.body (locals_of P t) tiles) o) here) ∙ e) in
      subst (λ (r : Ended). Allows (length c.trap_words) r) same (allows-body (length c.trap_words) c.body (locals_of P t) tiles words)

  choice_allowed : (c : ClassPlan) (b : Bool) (o : Option Ended) → EndAllowed c o → EndAllowed c (if b then o else None)
  choice_allowed c true o h cause e = h cause e
  choice_allowed c false o h cause e = absurd cc

  within_allowed : (t : Task) (c : ClassPlan) (n : ℕ) → slice_get P.classes t.class ≡ Some c
      → has_words (length c.trap_words) c.body.statements ≡ true → EndAllowed c (ended_within P G n t)
  unfolding ended_within
  within_allowed t c zero here words cause e = absurd cc
  within_allowed t c (suc n) here words cause e =
      choice_allowed c (has_all_sources P (ended_within P G n) t) (ended_on P G (source_tile (ended_within P G n)) t)
      (end_allowed t c (source_tile (ended_within P G n)) here words) cause e

  -- a cause of such a class has a word of it
  word_of : (words : List (List ℕ)) (cause : Trap) → IsAllowed (length words) cause → HasWord words cause
  word_of words Overflow h = tt
  word_of words Divide h = tt
  word_of words Index h = tt
  word_of words Absent h = tt
  word_of words Budget h = tt
  word_of words (Word w) h = h

  cause_allowed : (t : Task) (cause : Trap) → IsTask P t → ended P G t ≡ Some (Err cause) → HasWord (trap_words P t.class) cause
  unfolding ended
  cause_allowed t cause task e =
      let c = class_of P t task in
      let well = P.well_made.fit t.class c.class c.space c.class_is c.space_is in
      let words : trap_words P t.class ≡ c.class.trap_words = ap (λ o. option_map_or (λ (k : ClassPlan). k.trap_words) o []) c.class_is in
      subst (λ ws. HasWord ws cause) (sym words) (word_of c.class.trap_words cause
      (within_allowed t c.class (length (all_tasks P)) c.class_is well.words cause e))

  trap_row_in : (t : Task) (o : Option Ended) (row : TrapRow) → IsIn row (rows_of_end t o)
      → (cause : Trap) × (o ≡ Some (Err cause)) × (row ≡ record { task = t; cause = cause })
  trap_row_in t None row i = absurd i
  trap_row_in t (Some (Ok tiles)) row i = absurd i
  trap_row_in t (Some (Err cause)) row i = elim i [ inl e ↦ (cause, refl, e) | inr n ↦ absurd n ]

  traps_allowed : All (IsTrapOf P) (trapped P G)
  unfolding trapped
  traps_allowed = All-from_members (IsTrapOf P) (trapped P G) (λ row i.
      let rows = flat_map (λ t. rows_of_end t (ended P G t)) (all_tasks P) in
      let m = from_flat_map (λ t. rows_of_end t (ended P G t)) (all_tasks P) row (in_ordered (λ (r : TrapRow). r.task) rows row i) in
      let r = trap_row_in m.0 (ended P G m.0) row m.2 in
      let task = (listed P m.0).1 m.1 in
      subst (IsTrapOf P) (sym r.2) (record { class = has_class P m.0 task; word = cause_allowed m.0 r.0 task r.1 }))

  wait_choice : (t : Task) (b : Bool) (row one : WaitRow) → IsIn row (if b then one ∷ [] else []) → row ≡ one
  wait_choice t true row one i = elim i [ inl e ↦ e | inr n ↦ absurd n ]
  wait_choice t false row one i = absurd i

  wait_row_in : (t : Task) (o : Option Ended) (row : WaitRow) → IsIn row (wait_rows P G t o) → row.task ≡ t
  wait_row_in t (Some end) row i = absurd i
  wait_row_in t None row i = ap (λ (r : WaitRow). r.task) (wait_choice t (nat_lt 0 (satisfied P G t)) row _ i)

  waits_allowed : All (λ (row : WaitRow). HasClass P row.task) (waiting P G)
  unfolding waiting
  waits_allowed = All-from_members (λ (row : WaitRow). HasClass P row.task) (waiting P G) (λ row i.
      let rows = flat_map (λ t. wait_rows P G t (ended P G t)) (all_tasks P) in
      let m = from_flat_map (λ t. wait_rows P G t (ended P G t)) (all_tasks P) row (in_ordered (λ (r : WaitRow). r.task) rows row i) in
      subst (HasClass P) (sym (wait_row_in m.0 (ended P G m.0) row m.2)) (has_class P m.0 ((listed P m.0).1 m.1)))

  by_traps : (rows : List TrapRow) → All (IsTrapOf P) rows → HasRowsOf P (answer_by P G rows)
  by_traps (r ∷ rows) h = h
  by_traps [] h = by_count (length (ran P G) == length (all_tasks P))
    where
      by_count : (b : Bool) → HasRowsOf P (if b then Complete (length (all_tasks P)) (final_data P G) else Stalled
          (length (ran P G)) (length (all_tasks P)) (waiting P G))
      by_count true = tt
      by_count false = waits_allowed

  pub rows_are : HasRowsOf P (answer P G)
  unfolding answer
  rows_are = by_traps (trapped P G) traps_allowed
