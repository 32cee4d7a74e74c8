-- Tasks of different numbers are different tasks, so what arrives at one does not change the others.
use Rattle.std.specs.Prelude.{◌≡◌, ℕ, ℤ, ◌+◌, ◌<◌, Bool, true, false, cond, nat_eq, List, Option, Some}
use Rattle.std.proofs.Common.{refl, ap, ◌∙◌, arith, subst, true≢false, sym}
use Rattle.std.specs.Cmp.{unsigned_Decides}
use Rattle.std.specs.Option.{unwrap_or}
use Rattle.ptg_base.specs.Entry.{Entry}
use Rattle.ptg_base.specs.Task.{Task}
use Rattle.ptg_base.specs.TaskComparing.{same_task}
use Rattle.ptg_base.specs.TaskLaws.{same_task-decides}
use Rattle.dep_shard.specs.Content.{Content, Entries, HasWaiting, Updates, entry_before, entry_in, fresh, with_arrival}
use Rattle.ptg_measure.specs.Tasks.{task_of, HasNoneFrom, WaitFrom}

number_is : (i k : ℕ) → task_of i ≡ task_of k → i ≡ k
number_is i k e =
    let params = ap (λ (t : Task). t.params) e in
    cc

differ : (i k : ℕ) → nat_eq i k ≡ false → same_task (task_of i) (task_of k) ≡ false
differ i k other = by (same_task (task_of i) (task_of k)) refl
  where
    by : (b : Bool) → same_task (task_of i) (task_of k) ≡ b → same_task (task_of i) (task_of k) ≡ false
    by false e = e
    by true e = absurd (true≢false (sym ((unsigned_Decides i k).1 (number_is i k ((same_task-decides (task_of i) (task_of k)).0 e))) ∙ other))

-- the entry of another task stays
stays : (old new : Entries) (i k : ℕ) (w : Option Entry) → Updates old new (task_of i) w → nat_eq i k ≡ false
    → entry_in new (task_of k) ≡ entry_in old (task_of k)
stays old new i k w up other = up (task_of k) ∙ ap (λ b. cond b w (entry_in old (task_of k))) (differ i k other)

-- the task itself has the new entry
comes : (old new : Entries) (i : ℕ) (w : Option Entry) → Updates old new (task_of i) w → entry_in new (task_of i) ≡ w
comes old new i w up = up (task_of i) ∙ ap (λ b. cond b w (entry_in old (task_of i))) ((same_task-decides (task_of i) (task_of i)).1 refl)

greater : (i k : ℕ) → i < k → nat_eq i k ≡ false
greater i k less = by (nat_eq i k) refl
  where
    by : (b : Bool) → nat_eq i k ≡ b → nat_eq i k ≡ false
    by false e = e
    by true e =
        let same : i ≡ k = (unsigned_Decides i k).0 e in
        absurd (omega arith)

-- after something arrived at a task, the tasks after it still have no entry
pub still_none : (old new : Content) (i : ℕ) (w : Option Entry) → Updates old.entries new.entries (task_of i) w → HasNoneFrom i old → HasNoneFrom (i + 1) new
still_none old new i w up none k least = stays old.entries new.entries i k w up (greater i k (omega arith)) ∙ none k (omega arith)

-- after the first of several edges arrived at a task, it waits, as do those before it
pub first_comes : (old new : Content) (i goal : ℕ) (p : ℤ) (flow : ℕ) (tile : Option (List ℤ)) → 1 < goal
    → Updates old.entries new.entries (task_of i) (Some (with_arrival (entry_before old (task_of i) goal p) flow tile))
    → HasNoneFrom i old → WaitFrom 0 i old → WaitFrom 0 (i + 1) new
first_comes old new i goal p flow tile more up none waits k least less = by (nat_eq i k) refl
  where
    here : HasWaiting new (task_of i)
    here = record {
      entry = with_arrival (fresh goal p) flow tile;
      is = comes old.entries new.entries i _ up ∙ ap (λ r. Some (with_arrival (unwrap_or r (fresh goal p)) flow tile)) (none i (omega arith));
      waits = more;
    }

    by : (b : Bool) → nat_eq i k ≡ b → HasWaiting new (task_of k)
    by true e = subst (λ (n : ℕ). HasWaiting new (task_of n)) ((unsigned_Decides i k).0 e) here
    by false e =
        let other : i ≡ k → ⊥ = λ same. true≢false (sym ((unsigned_Decides i k).1 same) ∙ e) in
        let w = waits k least (grind (arith, other)) in
        record {
          entry = w.entry;
          is = stays old.entries new.entries i k _ up e ∙ w.is;
          waits = w.waits;
        }
