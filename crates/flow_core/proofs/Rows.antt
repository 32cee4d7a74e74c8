-- The rows of a run: its trapped tasks and its waiting tasks are those of the event machine.
use Rattle.std.proofs.Common.{◌≡◌, ℕ, ◌<◌, ◌≤◌, true, false, ◌&&◌, ◌==◌, nat_lt, cond, is_some, List, [], ◌∷◌, ◌++◌}
use Rattle.std.proofs.Common.{map, refl, ap, sym, ◌∙◌, Option, Some, None, Ok, Err, eq-eqb, ◌⊎◌, inl, inr, arith}
use Rattle.std.proofs.lemmas.Bool.{eqb-true, false≢true, le-ltb, lt-ltb}
use Rattle.std.proofs.lemmas.List.{append-nil}
use Rattle.std.specs.Prelude.{unwrap_or}
use Rattle.std.specs.List.{filter, flat_map}
use Rattle.std.specs.Map.{keys_of, lookup}
use Rattle.ptg_base.specs.Lists.{IsIn}
use Rattle.ptg_base.specs.Task.{Task}
use Rattle.ptg_base.specs.TaskComparing.{same_task}
use Rattle.ptg_base.specs.TaskLaws.{same_task-decides}
use Rattle.ptg_base.specs.TaskOrder.{in_task_order}
use Rattle.list_lemmas.proofs.Truth.{by_test, and-false}
use Rattle.list_lemmas.proofs.Counts.{count-some, weigh-append, count-filter}
use Rattle.plan_core.specs.declared.plan.Plan.{Plan}
use Rattle.coll_data.specs.Data.{Data}
use Rattle.dep_iter.specs.Tasks.{IsTask, all_tasks}
use Rattle.dep_iter.specs.Edges.{goal}
use Rattle.dep_iter.specs.Consistent.{IsConsistent}
use Rattle.flow_meaning.specs.declared.outcome.TrapRow.{TrapRow}
use Rattle.flow_meaning.specs.declared.outcome.WaitRow.{WaitRow}
use Rattle.flow_meaning.specs.declared.outcome.Outcome.TheVariants.{Trapped}
use Rattle.flow_meaning.specs.Answer.{trap_rows}
use Rattle.list_lemmas.specs.Counting.{as_number, count}
use Rattle.flow_meaning.specs.Ending.{Ended}
use Rattle.flow_meaning.specs.Machine.{MachineState, arrived, claim_count, end_in}
use Rattle.flow_meaning.specs.StateAnswer.{state_answer, state_answer_by, state_traps}
use Rattle.flow_meaning.specs.Table.{is_waiting, wait_row, waiting_rows, waiting_tasks}
use Rattle.flow_meaning.proofs.CallerLemmas.{tasks_once}
use Rattle.run_answer.specs.Rows.{AreOfDifferentTasks}
use Rattle.flow_core.specs.RunState.{IsRunning, RunState, end_of, machine, mark_of}
use Rattle.flow_core.specs.Fits.{Fits}
use Rattle.flow_core.specs.Arrivals.{edge_count_to}
use Rattle.flow_core.specs.Rows.{claim_traps, waits_among}
use Rattle.flow_core.proofs.Lookups.{key_count}
use Rattle.flow_core.proofs.Arriving.{arrived_are}
use Rattle.flow_core.proofs.Fitting.{end_known}

-- the rows of all tasks, in task order, are those of the machine
pub waits_all : (P : Plan) (S : MachineState) (rows : List WaitRow) → rows ≡ waits_among P S (all_tasks P)
    → in_task_order (λ (r : WaitRow). r.task) rows ≡ waiting_rows P S
unfolding waiting_tasks waiting_rows
waits_all P S rows e = ap (in_task_order (λ (r : WaitRow). r.task)) e

-- what one task adds to the rows
pub no_wait : (P : Plan) (S : MachineState) (t : Task) (rows : List WaitRow) → is_waiting P S t ≡ false → rows ≡ rows ++ waits_among P S (t ∷ [])
no_wait P S t rows k = sym (append-nil rows) ∙ ap (λ l. rows ++ l) (sym (ap (λ b. map (wait_row P S) (cond b (t ∷ []) [])) k))

pub one_wait : (P : Plan) (S : MachineState) (t : Task) (rows : List WaitRow) → is_waiting P S t ≡ true
    → rows ++ wait_row P S t ∷ [] ≡ rows ++ waits_among P S (t ∷ [])
one_wait P S t rows k = ap (λ l. rows ++ l) (sym (ap (λ b. map (wait_row P S) (cond b (t ∷ []) [])) k))

module _ (P : Plan) (G : Data) (con : IsConsistent P) (r : RunState) (fits : Fits P G r) (t : Task) where
  -- a claimed task does not wait
  pub claimed_waits : is_some (mark_of r t) ≡ true → is_waiting P (machine r) t ≡ false
  claimed_waits h =
      by_test (claim_count (machine r) t == 0)
      (λ k. let none = (key_count t r.claims).1 (eqb-true (claim_count (machine r) t) 0 k) in absurd (false≢true (ap is_some (sym none) ∙ h)))
      (λ k. ap (λ b. b && (nat_lt 0 (arrived P (machine r) t) && nat_lt (arrived P (machine r) t) (goal P t))) k)

  module _ (job : IsTask P t) (none : mark_of r t ≡ None) (sent all : ℕ) (sent_is : sent ≡ edge_count_to t r.sends) (all_is : all ≡ goal P t) where
    come : arrived P (machine r) t ≡ sent
    come = arrived_are P G con (machine r) fits.sound t job ∙ sym sent_is

    -- another one waits if some but not all edges into it were sent
    waits_by : is_waiting P (machine r) t ≡ (nat_lt 0 sent && nat_lt sent all)
    waits_by =
        let free : (claim_count (machine r) t == 0) ≡ true = eq-eqb (claim_count (machine r) t) 0 ((key_count t r.claims).0 none) in
        ap (λ b. b && (nat_lt 0 (arrived P (machine r) t) && nat_lt (arrived P (machine r) t) (goal P t))) free
        ∙ (λ i. nat_lt 0 (come i) && nat_lt (come i) (sym all_is i))

    pub waits_not : (sent ≤ 0) ⊎ (all ≤ sent) → is_waiting P (machine r) t ≡ false
    waits_not (inl h) = waits_by ∙ ap (λ b. b && nat_lt sent all) (le-ltb 0 sent h)
    waits_not (inr h) = waits_by ∙ ap (λ b. nat_lt 0 sent && b) (le-ltb sent all h) ∙ and-false (nat_lt 0 sent)

    pub waits_so : 0 < sent → sent < all → is_waiting P (machine r) t ≡ true
    waits_so h k = waits_by ∙ (λ i. lt-ltb 0 sent h i && lt-ltb sent all k i)

    pub row_is : record { task = t; arrived = sent; goal = all } ≡ wait_row P (machine r) t
    row_is = λ i. record { task = t; arrived = sym come i; goal = all_is i }

-- a look-up finds an entry whose key occurs at most once
once_found : {X : Type 0} (t : Task) (x : X) (es : List (Task × X)) → IsIn (t, x) es → count (same_task t) (keys_of es) ≤ 1 → lookup (same_task t) es ≡ Some x
once_found t x [] i h = absurd i
once_found t x (e ∷ es) i h = elim i [
  | inl q ↦ ap (λ b. cond b (Some e.1) (lookup (same_task t) es)) ((same_task-decides t e.0).1 (ap (λ p. p.0) q)) ∙ ap (λ p. Some p.1) (sym q)
  | inr later ↦
      by_test (same_task t e.0)
      (λ k. let twice = count-some (same_task t) (keys_of es) t (key_in t x es later)
      ((same_task-decides t t).1 refl) in absurd (omega (arith, h, twice, ap as_number k)))
      (λ k. ap (λ b. cond b (Some e.1) (lookup (same_task t) es)) k ∙ once_found t x es later (omega (arith, h, ap as_number k)))
]
  where
    key_in : {X : Type 0} (t : Task) (x : X) (es : List (Task × X)) → IsIn (t, x) es → IsIn t (keys_of es)
    key_in t x [] i = absurd i
    key_in t x (e ∷ es) i = elim i [ inl q ↦ inl (ap (λ p. p.0) q) | inr later ↦ inr (key_in t x es later) ]

flat_map-keys : {X B : Type 0} (f : Task → List B) (g : Task × X → List B) (es : List (Task × X))
    → ((e : Task × X) → IsIn e es → f e.0 ≡ g e) → flat_map f (keys_of es) ≡ flat_map g es
flat_map-keys f g [] h = refl
flat_map-keys f g (e ∷ es) h = ap (λ l. l ++ flat_map f (keys_of es)) (h e (inl refl)) ∙ ap (λ l. g e ++ l) (flat_map-keys f g es (λ d i. h d (inr i)))

module _ (P : Plan) (G : Data) (con : IsConsistent P) (r : RunState) (fits : Fits P G r) (idle : (t : Task) → IsRunning r t → ⊥) where
  row_as_ended : (t : Task) (m : Option Ended) → mark_of r t ≡ Some m → trap_rows t (end_in P G (machine r) t) ≡ trap_rows t m
  row_as_ended t None h = absurd (idle t h)
  row_as_ended t (Some end) h = ap (trap_rows t) (end_known P G con r fits t end (ended_so h))
    where
      ended_so : mark_of r t ≡ Some (Some end) → end_of r t ≡ Some end
      ended_so k = ap (λ m. unwrap_or m None) k

  -- if no task is running, the trapped tasks are those of the machine
  pub traps_are : (rows : List TrapRow) → rows ≡ in_task_order (λ (r : TrapRow). r.task) (claim_traps r.claims) → rows ≡ state_traps P G (machine r)
  unfolding state_traps
  traps_are rows e =
      e ∙ ap (in_task_order (λ (r : TrapRow). r.task)) (sym (flat_map-keys (λ t. trap_rows t (end_in P G (machine r) t))
      (λ (c : Task × Option Ended). trap_rows c.0 c.1) r.claims
      (λ c i. row_as_ended c.0 c.1 (once_found c.0 c.1 r.claims i (fits.sound.claimed_once c.0)))))

-- the answer, by the trapped tasks and the number of the claimed ones
pub answer_trapped : (P : Plan) (G : Data) (S : MachineState) (rows : List TrapRow) → rows ≡ state_traps P G S
    → (rows ≡ [] → ⊥) → Trapped rows ≡ state_answer P G S
unfolding state_answer
answer_trapped P G S rows are some = by rows some ∙ ap (state_answer_by P G S) are
  where
    by : (rows : List TrapRow) → (rows ≡ [] → ⊥) → Trapped rows ≡ state_answer_by P G S rows
    by [] some = absurd (some refl)
    by (row ∷ rows) some = refl

-- the answer if no task has trapped
pub answer_untrapped : (P : Plan) (G : Data) (S : MachineState) (rows : List TrapRow) → rows ≡ state_traps P G S
    → rows ≡ [] → state_answer_by P G S [] ≡ state_answer P G S
unfolding state_answer
answer_untrapped P G S rows are none = ap (state_answer_by P G S) (sym none ∙ are)

-- a task has at most as many rows as claims
count-traps : (t : Task) (claims : List (Task × Option Ended))
    → count (λ (r : TrapRow). same_task t r.task) (claim_traps claims) ≤ count (same_task t) (keys_of claims)
count-traps t [] = omega arith
count-traps t (c ∷ claims) =
    omega (arith, count-traps t claims, weigh-append (λ (r : TrapRow). as_number (same_task t r.task)) (trap_rows c.0 c.1) (claim_traps claims), one c.0 c.1)
  where
    one : (u : Task) (m : Option Ended) → count (λ (r : TrapRow). same_task t r.task) (trap_rows u m) ≤ as_number (same_task t u)
    one u None = omega arith
    one u (Some (Ok tiles)) = omega arith
    one u (Some (Err cause)) = omega arith

pub traps_differ : (rows rest : List TrapRow) (claims : List (Task × Option Ended)) → rows ++ rest ≡ claim_traps claims
    → ((t : Task) → count (same_task t) (keys_of claims) ≤ 1) → AreOfDifferentTasks (λ (r : TrapRow). r.task) rows
traps_differ rows rest claims e once t =
    let test = λ (r : TrapRow). same_task t r.task in
    omega (arith, once t, count-traps t claims, weigh-append (λ (r : TrapRow). as_number (test r)) rows rest, ap (λ (l : List TrapRow). count test l) e)

count-rows : (P : Plan) (S : MachineState) (t : Task) (ts : List Task)
    → count (λ (r : WaitRow). same_task t r.task) (map (wait_row P S) ts) ≡ count (same_task t) ts
count-rows P S t [] = refl
count-rows P S t (u ∷ ts) = omega (arith, count-rows P S t ts)

pub waits_differ : (P : Plan) (S : MachineState) (rows : List WaitRow) → rows ≡ waits_among P S (all_tasks P)
    → AreOfDifferentTasks (λ (r : WaitRow). r.task) rows
waits_differ P S rows e t =
    omega (
      arith,
      tasks_once P t,
      count-filter (same_task t) (is_waiting P S) (all_tasks P),
      count-rows P S t (filter (is_waiting P S) (all_tasks P)),
      ap (λ (l : List WaitRow). count (λ (r : WaitRow). same_task t r.task) l) e,
    )
