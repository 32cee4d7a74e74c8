-- How tasks are compared and hashed: by their class and their parameters, and by nothing else.
-- Carried by: `TaskId::cmp`; laws `tasks_compare_in_task_order`, `items_compare_field_by_field`.
-- Tested by: `ptg_base`.
use Rattle.std.specs.Prelude.{◌≡◌, ℕ, Bool, nat_eq, IsTrue, ◌↔◌, List, ◌++◌}
use Rattle.std.specs.Cmp.Lexicographic.{pointwise, slice_cmp}
use Rattle.std.specs.Hash.{u32 as hash_of_u32, i64 as hash_of_i64, slice as hash_of_slice}
use Rattle.std.specs.declared.cmp.Ordering.{Ordering}
use Rattle.std.specs.declared.cmp.Ordering.TheVariants.{Less, Equal, Greater}
use Rattle.std.specs.Ordering.{nat_cmp, int_cmp, int_eq, on, then_cmp, eq_of_both}
use Rattle.ptg_base.specs.Task.{Task}
use Rattle.ptg_base.specs.TaskOrder.{task_before}

-- whether two tasks are the same: of one class, with equal parameters
abbrev pub same_task : Task → Task → Bool
same_task = eq_of_both (on (λ (t : Task). t.class) nat_eq) (on (λ (t : Task). t.params) (pointwise int_eq))

-- tasks compare by class, then by the first parameter that differs, as signed numbers; a list comes after its fronts
abbrev pub task_cmp : Task → Task → Ordering
task_cmp = then_cmp (on (λ (t : Task). t.class) nat_cmp) (on (λ (t : Task). t.params) (slice_cmp int_cmp))

-- what a hash of a task reads: the class, the number of the parameters, and each of them
abbrev pub task_hash : Task → List (List ℕ)
task_hash t = hash_of_u32 t.class ++ hash_of_slice hash_of_i64 t.params

-- The comparison of two tasks is task order. It is Less exactly when the first is before the second, Greater exactly
-- when the second is before the first, and Equal exactly when they are the same.
pub record ComparesInTaskOrder (a b : Task) (answer : Ordering) : Type 0 where
  pub before : (answer ≡ Less) ↔ IsTrue (task_before a b)
  pub same : (answer ≡ Equal) ↔ (a ≡ b)
  pub after : (answer ≡ Greater) ↔ IsTrue (task_before b a)
