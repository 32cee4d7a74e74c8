-- What a claim changes of the entries of a table.
use Rattle.std.proofs.Common.{◌≡◌, ◌≢◌, ℕ, ◌<◌, Bool, true, false, cond, ◌==◌, ◌&&◌, ◌||◌, List, map, nat_lt, Some}
use Rattle.std.proofs.Common.{None, refl, sym, ap, ◌∙◌, subst, arith, eq-eqb, ne_eqb}
use Rattle.std.proofs.lemmas.Bool.{false_from_ne_true, le-ltb}
use Rattle.std.proofs.lemmas.List.Elements.{filter_agree}
use Rattle.list_lemmas.proofs.Truth.{by_test, and-false}
use Rattle.list_lemmas.proofs.Counts.{weigh-push}
use Rattle.ptg_base.specs.Task.{Task}
use Rattle.ptg_base.specs.TaskComparing.{same_task}
use Rattle.ptg_base.specs.TaskLaws.{same_task-decides}
use Rattle.ptg_base.specs.TaskOrder.{in_task_order}
use Rattle.plan_core.specs.declared.plan.Plan.{Plan}
use Rattle.coll_data.specs.Data.{Data}
use Rattle.dep_iter.specs.Edges.{goal}
use Rattle.dep_iter.specs.Tasks.{all_tasks}
use Rattle.list_lemmas.specs.Counting.{as_number}
use Rattle.flow_meaning.specs.Machine.{Claim, MachineState, MayClaim, arrived, claim_count, state_after}
use Rattle.flow_meaning.specs.Table.{entry_of, is_waiting, table_entry, waiting_tasks, waiting_rows}
use Rattle.flow_meaning.specs.declared.outcome.WaitRow.{WaitRow}

-- whether a task has an entry, by how often it was claimed, how many edges into it were sent, and how many there are
abbrev is_there : ℕ → ℕ → ℕ → Bool
is_there claims came all = ((claims == 0) && (came == all)) || ((claims == 0) && (nat_lt 0 came && nat_lt came all))

abbrev waits_by : ℕ → ℕ → ℕ → Bool
waits_by claims came all = (claims == 0) && (nat_lt 0 came && nat_lt came all)

full_there : (claims came all : ℕ) → claims ≡ 0 → came ≡ all → is_there claims came all ≡ true
full_there claims came all none full =
    ap (λ b. (b && (came == all)) || (b && (nat_lt 0 came && nat_lt came all))) (eq-eqb claims 0 none)
    ∙ ap (λ b. b || (nat_lt 0 came && nat_lt came all)) (eq-eqb came all full)

claimed_not_there : (claims came all : ℕ) → 0 < claims → is_there claims came all ≡ false
claimed_not_there claims came all some =
    ap (λ b. (b && (came == all)) || (b && (nat_lt 0 came && nat_lt came all))) (ne_eqb claims 0 (λ e. absurd (omega arith)))

full_not_waiting : (claims came all : ℕ) → came ≡ all → waits_by claims came all ≡ false
full_not_waiting claims came all full =
    ap (λ b. (claims == 0) && (nat_lt 0 came && b)) (le-ltb came all (omega arith))
    ∙ ap (λ b. (claims == 0) && b) (and-false (nat_lt 0 came))
    ∙ and-false (claims == 0)

claimed_not_waiting : (claims came all : ℕ) → 0 < claims → waits_by claims came all ≡ false
claimed_not_waiting claims came all some = ap (λ b. b && (nat_lt 0 came && nat_lt came all)) (ne_eqb claims 0 (λ e. absurd (omega arith)))

pub there : (P : Plan) (S : MachineState) (t : Task) → MayClaim P S t → table_entry P S t ≡ Some (entry_of P S t)
there P S t may = ap (λ b. cond b (Some (entry_of P S t)) None) (full_there (claim_count S t) (arrived P S t) (goal P t) may.unclaimed may.all_arrived)

module _ (P : Plan) (G : Data) (S : MachineState) (t : Task) where
  claimed_now : 0 < claim_count (state_after P G S (Claim t)) t
  claimed_now = omega (arith, weigh-push (λ x. as_number (same_task t x)) S.claims t, ap as_number ((same_task-decides t t).1 refl))

  claimed_before : (u : Task) → t ≢ u → claim_count (state_after P G S (Claim t)) u ≡ claim_count S u
  claimed_before u other = omega (
    arith,
    weigh-push (λ x. as_number (same_task u x)) S.claims t,
    ap as_number
        (false_from_ne_true (same_task u t) (λ e. other (sym ((same_task-decides u t).0 e)))),
  )

  pub taken : table_entry P (state_after P G S (Claim t)) t ≡ None
  taken = ap (λ b. cond b (Some (entry_of P S t)) None) (claimed_not_there (claim_count (state_after P G S (Claim t)) t) (arrived P S t) (goal P t) claimed_now)

  pub others : (u : Task) → t ≢ u → table_entry P (state_after P G S (Claim t)) u ≡ table_entry P S u
  others u other = ap (λ n. cond (is_there n (arrived P S u) (goal P u)) (Some (entry_of P S u)) None) (claimed_before u other)

  -- a task waits after the claim if and only if it did before
  waits_as_before : MayClaim P S t → (u : Task) → is_waiting P (state_after P G S (Claim t)) u ≡ is_waiting P S u
  waits_as_before may u = by_test (same_task t u)
      (λ e. subst (λ v. is_waiting P (state_after P G S (Claim t)) v ≡ is_waiting P S v) ((same_task-decides t u).0 e)
      (claimed_not_waiting (claim_count (state_after P G S (Claim t)) t) (arrived P S t) (goal P t) claimed_now
      ∙ sym (full_not_waiting (claim_count S t) (arrived P S t) (goal P t) may.all_arrived)))
      (λ ne. ap (λ n. waits_by n (arrived P S u) (goal P u)) (claimed_before u (λ same. absurd (different ne ((same_task-decides t u).1 same)))))
    where
      different : {b : Bool} → b ≡ false → b ≡ true → ⊥
      different e f = cc

  pub waits : MayClaim P S t → waiting_rows P (state_after P G S (Claim t)) ≡ waiting_rows P S
  unfolding waiting_rows waiting_tasks
  waits may =
      ap (λ (us : List Task). in_task_order (λ (r : WaitRow). r.task) (map (λ u. record { task = u; arrived = arrived P S u; goal = goal P u }) us))
      (filter_agree (is_waiting P (state_after P G S (Claim t))) (is_waiting P S) (waits_as_before may) (all_tasks P))
