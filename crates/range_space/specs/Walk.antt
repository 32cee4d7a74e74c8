-- The walk through all classes, as one list of visits, and what may stop it: its first fault. Source: the JDF
-- documentation; the limits are this project's own choice.
-- Carried by: `space_size`; law `one_first_fault`.
-- Tested by: `check_codes.txt`, `check_limits.txt`.
use Rattle.std.specs.Prelude.{◌≡◌, ℕ, suc, ◌+◌, ◌≤◌, ℤ, List, [], ◌∷◌, ◌++◌, length, Result, Ok, Err}
use Rattle.std.specs.List.{flat_map}
use Rattle.ptg_base.specs.Limits.{most_prefixes, most_tasks}
use Rattle.term_core.specs.declared.space.Def.{Def}
use Rattle.term_core.specs.declared.space.ClassSpace.{ClassSpace}
use Rattle.range_space.specs.declared.fault.SpanFault.{SpanFault}
use Rattle.range_space.specs.declared.fault.SpaceFault.{SpaceFault}
use Rattle.range_space.specs.declared.fault.SpaceFault.TheVariants.{BadExpr, TooManyTasks}
use Rattle.range_space.specs.Tasks.{def_values, tasks}

-- a visit of the walk
pub data Visit : Type 0 where
  -- a prefix of this class, at its last value
  Prefix : ℕ → Visit
  -- a task of this class
  Task : ℕ → Visit
  -- a definition of this class that has no value under these values of the definitions before it
  NoValue : ℕ → List ℤ → Visit

-- the visits for each value of a definition, or the visit of a definition without a value
abbrev pub visits : (ℤ → List Visit) → Visit → Result (List ℤ) SpanFault → List Visit
visits next no_value (Ok vs) = flat_map next vs
visits next no_value (Err e) = no_value ∷ []

-- the walk from these outer values on: each value of the next definition, followed by all that is nested in it; after
-- the last definition, a task
abbrev pub walk : ℕ → List Def → List ℤ → List Visit
walk class [] outer = Task class ∷ []
walk class (d ∷ ds) outer =
    visits (λ v. Prefix class ∷ walk class ds (outer ++ v ∷ [])) (NoValue class outer) (def_values d outer)

-- the walk from these outer values on, for each of these values of the next definition
abbrev pub walk_among : ℕ → List Def → List ℤ → List ℤ → List Visit
walk_among class ds outer vs = flat_map (λ v. Prefix class ∷ walk class ds (outer ++ v ∷ [])) vs

-- the walk through these classes, numbered from this number on
abbrev pub walk_all : ℕ → List ClassSpace → List Visit
walk_all class [] = []
walk_all class (s ∷ ss) = walk class s.defs [] ++ walk_all (suc class) ss

-- how many of these visits are of tasks
abbrev pub task_count : List Visit → ℕ
task_count [] = 0
task_count (Task c ∷ ms) = suc (task_count ms)
task_count (Prefix c ∷ ms) = task_count ms
task_count (NoValue c vs ∷ ms) = task_count ms

-- how many of these visits are of prefixes
abbrev pub prefix_count : List Visit → ℕ
prefix_count [] = 0
prefix_count (Prefix c ∷ ms) = suc (prefix_count ms)
prefix_count (Task c ∷ ms) = prefix_count ms
prefix_count (NoValue c vs ∷ ms) = prefix_count ms

-- each definition that is visited has a value
abbrev pub AllHaveValues : List Visit → Type 0
AllHaveValues [] = Unit {0}
AllHaveValues (Prefix c ∷ ms) = AllHaveValues ms
AllHaveValues (Task c ∷ ms) = AllHaveValues ms
AllHaveValues (NoValue c vs ∷ ms) = ⊥

-- nothing stops the walk, if this many tasks and prefixes came before: together there are at most 1,000,000 tasks and
-- 16,000,000 prefixes
pub record IsUnstopped (tasks prefixes : ℕ) (ms : List Visit) : Type 0 where
  pub all_have_values : AllHaveValues ms
  pub tasks_at_most : tasks + task_count ms ≤ most_tasks
  pub prefixes_at_most : prefixes + prefix_count ms ≤ most_prefixes

-- the fault that stops the walk at a visit, if this many tasks and prefixes came before
abbrev pub StopsAt : ℕ → ℕ → Visit → SpaceFault → Type 0
StopsAt tasks prefixes (NoValue c vs) fault = fault ≡ BadExpr c vs
StopsAt tasks prefixes (Task c) fault = (tasks ≡ most_tasks) × (fault ≡ TooManyTasks c)
StopsAt tasks prefixes (Prefix c) fault = (prefixes ≡ most_prefixes) × (fault ≡ TooManyTasks c)

-- the fault of the first visit that stops the walk
pub record IsFirstFault (tasks prefixes : ℕ) (ms : List Visit) (fault : SpaceFault) : Type 0 where
  pub before : List Visit
  pub visit : Visit
  pub rest : List Visit
  pub split : ms ≡ before ++ visit ∷ rest
  pub unstopped : IsUnstopped tasks prefixes before
  pub stops : StopsAt (tasks + task_count before) (prefixes + prefix_count before) visit fault

-- how many tasks the classes have
abbrev pub task_total : List ClassSpace → ℕ
task_total [] = 0
task_total (s ∷ ss) = length (tasks s) + task_total ss

-- the numbers of tasks and prefixes after a walk that nothing stopped
pub record IsWalked (tasks prefixes tasks_after prefixes_after : ℕ) (ms : List Visit) : Type 0 where
  pub unstopped : IsUnstopped tasks prefixes ms
  pub all_tasks : tasks_after ≡ tasks + task_count ms
  pub all_prefixes : prefixes_after ≡ prefixes + prefix_count ms
