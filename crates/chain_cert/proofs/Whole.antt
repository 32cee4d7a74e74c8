-- A legal order of all tasks: the job has no cycle, and the rows of the levels are in task order.
use Rattle.std.proofs.Common.{◌≡◌, ℕ, ◌<◌, ◌≤◌, List, [], ◌∷◌, ◌++◌, length, take, slice_index_or, refl, ap, sym, ◌∙◌}
use Rattle.std.proofs.Common.{subst, inl, inr, Option, Some, None, IsSomeAnd, arith}
use Rattle.std.specs.Map.{lookup, keys_of}
use Rattle.std.proofs.lemmas.List.{length-take}
use Rattle.ptg_base.specs.Lists.{HasNoRepeats, IsIn}
use Rattle.ptg_base.specs.Task.{Task}
use Rattle.ptg_base.specs.TaskOrder.{in_task_order}
use Rattle.ptg_base.specs.TaskComparing.{same_task}
use Rattle.ptg_base.specs.declared.edge.Edge.{Edge}
use Rattle.plan_core.specs.declared.plan.Plan.{Plan}
use Rattle.list_lemmas.proofs.Members.{from_append, from_map}
use Rattle.list_lemmas.proofs.Distinct.{no_longer, onto}
use Rattle.list_lemmas.proofs.Tasks.{once_each}
use Rattle.dep_iter.specs.Tasks.{IsTask, all_tasks}
use Rattle.dep_iter.specs.Edges.{in_edges}
use Rattle.dep_iter.specs.Consistent.{IsConsistent}
use Rattle.dep_iter.proofs.CallerLemmas.{listed}
use Rattle.flow_meaning.specs.Order.{IsLegalAfter, IsLegalOrder}
use Rattle.run_answer.specs.Rows.{AreOfDifferentTasks}
use Rattle.chain_cert.proofs.Orders.{legal_once, legal_tasks}
use Rattle.chain_cert.specs.Certificates.{AreLevels, tasks_in_order}
use Rattle.chain_cert.specs.Chains.{HasNoCycle, IsCycle}
use Rattle.chain_cert.specs.Finding.{HasAllLevels, HasLevels, IsLevelAmong, IsNextTask, rows_by}
use Rattle.chain_cert.specs.Levels.{IsLevel}
use Rattle.chain_cert.proofs.TableLevels.{follows_at, found}
use Rattle.chain_cert.proofs.Linking.{chain_task, cycle_source}
use Rattle.chain_cert.proofs.TaskSorting.{in_order, one_rising, rising_order, sorted_rising, sorted_task}
use Rattle.flow_meaning.specs.Numbers.{number_for}

-- a legal order has no task of a cycle
none_of_cycle : (P : Plan) (before ts c : List Task) → IsLegalAfter P before ts → IsCycle P c
    → ((t : Task) → IsIn t before → IsIn t c → ⊥) → (t : Task) → IsIn t ts → IsIn t c → ⊥
none_of_cycle P before [] c l cycle other t i j = i
none_of_cycle P before (u ∷ us) c l cycle other t i j =
    let first : IsIn u c → ⊥ = λ k.
    let p = cycle_source P c cycle u k in
    let e = from_map (λ (d : Edge). d.from) (in_edges P u) p.0 p.2 in
    other p.0 (subst (λ v. IsIn v before) (sym e.2) (l.0.after_sources e.0 e.1)) p.1 in
    elim i [
      | inl e ↦ first (subst (λ v. IsIn v c) e j)
      | inr later ↦ none_of_cycle P (before ++ u ∷ []) us c l.1 cycle (λ v k m. elim (from_append v before (u ∷ []) k) [
        | inl old ↦ other v old m
        | inr new ↦ elim new [ inl q ↦ first (subst (λ w. IsIn w c) q m) | inr never ↦ never ]
      ]) t later j
    ]

-- the tasks of the rows of tasks are these tasks
pub keys_of-rows_by : (table : List (Task × ℕ)) (ts : List Task) → keys_of (rows_by table ts) ≡ ts
keys_of-rows_by table [] = refl
keys_of-rows_by table (t ∷ ts) = ap (λ l. t ∷ l) (keys_of-rows_by table ts)

-- tasks without repeats are different
pub different : (ts : List Task) → HasNoRepeats ts → AreOfDifferentTasks (λ t. t) ts
different ts once t = once_each ts once t

module _ (P : Plan) (order : List Task) (legal : IsLegalOrder P order) where
  pub order_once : HasNoRepeats order
  order_once = legal_once P [] order legal

  pub order_among : (t : Task) → IsIn t order → IsIn t (all_tasks P)
  order_among t i = (listed P t).0 (legal_tasks P [] order legal t i)

  pub order_at_most : length order ≤ length (all_tasks P)
  order_at_most = no_longer order (all_tasks P) order_once order_among

  -- the next task of the order may follow those that a table has
  pub next_task : IsConsistent P → (ws : List ℕ) (i : ℕ) (t : Task) (table : List (Task × ℕ)) → i < length order
      → t ≡ slice_index_or order i t → HasLevels P ws (take i order) table → IsNextTask P ws (take i order) table t
  next_task con ws i t table lt is h = record {
    levels = h;
    follows = follows_at P [] order legal i t lt is;
    at_most = omega (arith, length-take i order, lt, order_at_most, con.tasks_at_most);
  }

  module _ (all : length (all_tasks P) ≤ length order) where
    pub has_task : (t : Task) → IsTask P t → IsIn t order
    has_task t job = onto order (all_tasks P) order_once order_among all t ((listed P t).0 job)

    pub no_cycle : HasNoCycle P
    no_cycle c cycle =
        let in_cycle : IsIn cycle.first c = subst (IsIn cycle.first) (sym cycle.begins.1) (inl refl) in
        none_of_cycle P [] order c legal cycle (λ t i j. i) cycle.first (has_task cycle.first (chain_task P c cycle.chain cycle.first in_cycle)) in_cycle

    pub sorted_is : in_task_order (λ t. t) order ≡ tasks_in_order P
    sorted_is = one_rising (in_task_order (λ t. t) order) (tasks_in_order P) (rising_order order order_once) (sorted_rising P) (λ t. (
      λ i. (sorted_task P t).1 (legal_tasks P [] order legal t ((in_order t order).0 i)),
      λ i. (in_order t order).1 (has_task t ((sorted_task P t).0 i)),
    ))

    module _ (ws : List ℕ) (table : List (Task × ℕ)) (h : HasLevels P ws order table) where
      pub has_all : HasAllLevels P ws table
      has_all t job = by (lookup (same_task t) table) (h t)
        where
          by : (o : Option ℕ) → IsLevelAmong P ws order t o → IsSomeAnd o (IsLevel P ws t)
          by None a = absurd (a (has_task t job))
          by (Some n) a = a.1

      pub are_levels : (rows : List (Task × ℕ)) → rows ≡ rows_by table (in_task_order (λ t. t) order) → AreLevels P ws rows
      are_levels rows is = record {
        tasks = ap keys_of is ∙ keys_of-rows_by table (in_task_order (λ t. t) order) ∙ sorted_is;
        each = λ t n i.
            let p = from_map (λ (u : Task). (u, number_for table u)) (in_task_order (λ u. u) order) (t, n) (subst (IsIn (t, n)) is i) in
            let task : t ≡ p.0 = ap (λ (r : Task × ℕ). r.0) p.2 in
            let level : n ≡ number_for table p.0 = ap (λ (r : Task × ℕ). r.1) p.2 in
            subst (IsLevel P ws t) (sym level) (subst (λ u. IsLevel P ws u (number_for table p.0)) (sym task)
            (found P ws order table h p.0 ((in_order p.0 order).0 p.1)));
      }
