-- Task order: by class, then by the parameters, compared as signed numbers from the first on.
-- Carried by: `TaskId::cmp`, `run_answer::traps_in_task_order`, `run_answer::waits_in_task_order`; law
-- `tasks_compare_in_task_order`.
-- Tested by: `ptg_base`, `traps.txt`, `stalls.txt`.
use Rattle.std.specs.Prelude.{ℤ, Bool, true, false, ◌==◌, ◌&&◌, ◌||◌, nat_lt, List, [], ◌∷◌, if◌then◌else◌}
use Rattle.std.specs.Prelude.{int_lt}
use Rattle.std.specs.Ordering.{int_eq}
use Rattle.ptg_base.specs.Task.{Task}

-- whether a list of parameters is before another: the first number that differs decides, and a front is before the
-- whole list
abbrev pub params_before : List ℤ → List ℤ → Bool
params_before [] [] = false
params_before [] (y ∷ ys) = true
params_before (x ∷ xs) [] = false
params_before (x ∷ xs) (y ∷ ys) = int_lt x y || (int_eq x y && params_before xs ys)

-- whether a task is before another in task order
abbrev pub task_before : Task → Task → Bool
task_before a b = nat_lt a.class b.class || (a.class == b.class && params_before a.params b.params)

-- x inserted into rows that are in task order
abbrev pub insert_by : {A : Type 0} → (A → Task) → A → List A → List A
insert_by task x [] = x ∷ []
insert_by task x (y ∷ ys) = if task_before (task y) (task x) then y ∷ insert_by task x ys else x ∷ y ∷ ys

-- the rows, sorted by their tasks
abbrev pub in_task_order : {A : Type 0} → (A → Task) → List A → List A
in_task_order task [] = []
in_task_order task (x ∷ xs) = insert_by task x (in_task_order task xs)
