-- The waiting tasks of the shards are those of the run.
use Rattle.std.proofs.Common.{◌≡◌, ℕ, ◌≤◌, Bool, true, false, cond, ◌||◌, ◌==◌, List, [], ◌∷◌, map, slice_get, refl, ap}
use Rattle.std.proofs.Common.{sym, ◌∙◌, subst, inl, inr, arith, Some, None}
use Rattle.std.proofs.lemmas.Bool.{eqb-true, and_parts}
use Rattle.std.specs.List.{filter}
use Rattle.std.specs.Map.{lookup}
use Rattle.ptg_base.specs.Entry.{Entry}
use Rattle.ptg_base.specs.Lists.{IsIn}
use Rattle.ptg_base.specs.Task.{Task}
use Rattle.ptg_base.specs.TaskComparing.{same_task}
use Rattle.ptg_base.specs.TaskLaws.{same_task-decides}
use Rattle.ptg_base.specs.TaskOrder.{in_task_order}
use Rattle.list_lemmas.proofs.Members.{IsIn-map, from_map, IsIn-filter, from_filter}
use Rattle.list_lemmas.proofs.Truth.{by_test}
use Rattle.list_lemmas.proofs.Places.{slice_get_there}
use Rattle.list_lemmas.proofs.Counts.{count-map, count-filter}
use Rattle.plan_core.specs.declared.plan.Plan.{Plan}
use Rattle.coll_data.specs.Data.{Data}
use Rattle.dep_iter.specs.Edges.{goal}
use Rattle.dep_iter.specs.Tasks.{IsTask, all_tasks}
use Rattle.dep_iter.proofs.CallerLemmas.{listed}
use Rattle.dep_shard.specs.Content.{Content, Entries, entry_in}
use Rattle.flow_meaning.specs.declared.outcome.WaitRow.{WaitRow}
use Rattle.list_lemmas.specs.Counting.{count}
use Rattle.flow_meaning.specs.Machine.{MachineState, arrived, claim_count}
use Rattle.flow_meaning.specs.Table.{entry_of as table_row, is_ready, is_waiting, table_entry, waiting_rows, waiting_tasks}
use Rattle.flow_meaning.proofs.CallerLemmas.{tasks_once}
use Rattle.run_answer.specs.Rows.{AreOfDifferentTasks}
use Rattle.run_answer.proofs.CallerLemmas.{one_order}
use Rattle.shard_answer.specs.Ending.{HoldAnEnd}
use Rattle.shard_answer.specs.Parts.{all_waits, wait_row, waits_of}
use Rattle.shard_answer.proofs.Gathering.{differ, in_rows, row_of}

-- the entry that a look-up finds is in the list
found_in : (t : Task) (e : Entry) (es : Entries) → entry_in es t ≡ Some e → IsIn (t, e) es
found_in t e [] h = absurd cc
found_in t e (x ∷ xs) h =
    by_test (same_task t x.0)
    (λ k.
    let it : Some x.1 ≡ Some e = sym (ap (λ b. cond b (Some x.1) (lookup (same_task t) xs)) k) ∙ h in
    let one : x.1 ≡ e = cc in
    inl (λ i. (((same_task-decides t x.0).0 k) i, sym one i)))
    (λ k. inr (found_in t e xs (sym (ap (λ b. cond b (Some x.1) (lookup (same_task t) xs)) k) ∙ h)))

-- the entries of a list are what look-ups find
abbrev pub AreFound : Entries → Type 0
AreFound es = (x : Task × Entry) → IsIn x es → entry_in es x.0 ≡ Some x.1

abbrev pub HaveOnce : Entries → Type 0
HaveOnce es = (t : Task) → count (λ (x : Task × Entry). same_task t x.0) es ≤ 1

module _ (P : Plan) (G : Data) (ys : List Content) (h : HoldAnEnd P G ys)
    (found : (k : ℕ) (y : Content) → slice_get ys k ≡ Some y → AreFound y.entries × HaveOnce y.entries) where
  abbrev state : MachineState
  state = h.moment.state

  -- the row of a task that waits
  abbrev row : Task → WaitRow
  row t = record { task = t; arrived = arrived P state t; goal = goal P t }

  -- an entry at the end is that of a task that waits
  entry_waits : (t : Task) (e : Entry) → IsTask P t → table_entry P state t ≡ Some e → (is_waiting P state t ≡ true) × (wait_row (t, e) ≡ row t)
  entry_waits t e job is = by (is_ready P state t) refl (is_waiting P state t) refl
    where
      unready : is_ready P state t ≡ true → ⊥
      unready k =
          let p = and_parts (claim_count state t == 0) (arrived P state t == goal P t) k in
          h.calm.none_ready t (record {
            task = job;
            unclaimed = eqb-true (claim_count state t) 0 p.0;
            all_arrived = eqb-true (arrived P state t) (goal P t) p.1;
          })

      by : (a : Bool) → is_ready P state t ≡ a → (b : Bool) → is_waiting P state t ≡ b → (is_waiting P state t ≡ true) × (wait_row (t, e) ≡ row t)
      by true k b l = absurd (unready k)
      by false k false l =
          let none : None ≡ Some e = sym (λ i. cond (k i || l i) (Some (table_row P state t)) None) ∙ is in
          absurd cc
      by false k true l =
          let one : Some (table_row P state t) ≡ Some e = sym (λ i. cond (k i || l i) (Some (table_row P state t)) None) ∙ is in
          let same : table_row P state t ≡ e = cc in
          (l, ap (λ (w : Entry). wait_row (t, w)) (sym same))

  waiting_entry : (t : Task) → is_waiting P state t ≡ true → table_entry P state t ≡ Some (table_row P state t)
  waiting_entry t l = by_test (is_ready P state t) (λ k i. cond (k i || l i) (Some (table_row P state t)) None)
      (λ k i. cond (k i || l i) (Some (table_row P state t)) None)

  abbrev waiting : List Task
  waiting = filter (is_waiting P state) (all_tasks P)

  to_waiting : (r : WaitRow) → IsIn r (all_waits ys) → IsIn r (map row waiting)
  to_waiting r i =
      let p = row_of waits_of ys r i in
      let x = from_map wait_row p.1.entries r p.3 in
      let is = (found p.0 p.1 p.2).0 x.0 x.1 in
      let share = h.shares p.0 p.1 p.2 in
      let own = share.only x.0.0 x.0.1 is in
      let w = entry_waits x.0.0 x.0.1 own.0 (sym (share.there x.0.0 own.0 own.1) ∙ is) in
      subst (λ s. IsIn s (map row waiting)) (sym (x.2 ∙ w.1))
      (IsIn-map row waiting x.0.0 ((IsIn-filter (is_waiting P state) (all_tasks P) x.0.0).1
      ((listed P x.0.0).0 own.0, w.0)))

  from_waiting : (r : WaitRow) → IsIn r (map row waiting) → IsIn r (all_waits ys)
  from_waiting r i =
      let p = from_map row waiting r i in
      let q = from_filter (is_waiting P state) (all_tasks P) p.0 p.1 in
      let job = (listed P p.0).1 q.0 in
      let y = slice_get_there ys (h.of p.0) (h.placed p.0 job) in
      let is = (h.shares (h.of p.0) y.0 y.1).there p.0 job refl ∙ waiting_entry p.0 q.1 in
      let there = found_in p.0 (table_row P state p.0) y.0.entries is in
      subst (λ s. IsIn s (all_waits ys)) (sym p.2) (in_rows waits_of ys (h.of p.0) y.0 (row p.0) y.1
      (IsIn-map wait_row y.0.entries (p.0, table_row P state p.0) there))

  pub waits_differ : AreOfDifferentTasks (λ (r : WaitRow). r.task) (all_waits ys)
  waits_differ =
      differ (λ (r : WaitRow). r.task) waits_of h.of ys
      (λ k y at t. omega (arith, count-map (λ (r : WaitRow). same_task t r.task) wait_row y.entries, (found k y at).1 t))
      (λ k y at r i.
      let x = from_map wait_row y.entries r i in
      ap (λ (s : WaitRow). h.of s.task) x.2 ∙ ((h.shares k y at).only x.0.0 x.0.1 ((found k y at).0 x.0 x.1)).1)

  count-rows : (t : Task) (ts : List Task) → count (λ (r : WaitRow). same_task t r.task) (map row ts) ≡ count (same_task t) ts
  count-rows t [] = refl
  count-rows t (u ∷ us) = omega (arith, count-rows t us)

  -- the waiting tasks of the shards, in task order, are those of the state
  pub waits_are : in_task_order (λ (r : WaitRow). r.task) (all_waits ys) ≡ waiting_rows P state
  unfolding waiting_rows waiting_tasks
  waits_are =
      one_order (λ (r : WaitRow). r.task) (all_waits ys) (map row waiting) to_waiting from_waiting waits_differ
      (λ t. omega (arith, count-rows t waiting, count-filter (same_task t) (is_waiting P state) (all_tasks P), tasks_once P t))

  pub waits_are_tasks : (r : WaitRow) → IsIn r (all_waits ys) → IsTask P r.task
  waits_are_tasks r i =
      let p = row_of waits_of ys r i in
      let x = from_map wait_row p.1.entries r p.3 in
      subst (λ (s : WaitRow). IsTask P s.task) (sym x.2) ((h.shares p.0 p.1 p.2).only x.0.0 x.0.1 ((found p.0 p.1 p.2).0 x.0 x.1)).0
