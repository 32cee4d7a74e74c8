-- When the names in the rows of an answer are those of its plan.
-- Carried by: laws `answers_have_rows_of_their_plan`, `tasks_have_classes_of_their_plan`.
use Rattle.std.specs.Prelude.{ℕ, ◌<◌, List, length, All}
use Rattle.ptg_base.specs.Task.{Task}
use Rattle.term_core.specs.declared.trap.Trap.{Trap}
use Rattle.term_core.specs.declared.trap.Trap.TheVariants.{Overflow, Divide, Index, Absent, Budget, Word}
use Rattle.plan_core.specs.declared.plan.Plan.{Plan}
use Rattle.flow_meaning.specs.declared.outcome.TrapRow.{TrapRow}
use Rattle.flow_meaning.specs.declared.outcome.WaitRow.{WaitRow}
use Rattle.flow_meaning.specs.declared.outcome.Outcome.{Outcome}
use Rattle.flow_meaning.specs.declared.outcome.Outcome.TheVariants.{Complete, Trapped, Stalled}
use Rattle.report_text.specs.Rows.{trap_words}

-- a trap that has a word has one of these
abbrev pub HasWord : List (List ℕ) → Trap → Type 0
HasWord words Overflow = Unit {0}
HasWord words Divide = Unit {0}
HasWord words Index = Unit {0}
HasWord words Absent = Unit {0}
HasWord words Budget = Unit {0}
HasWord words (Word n) = n < length words

-- the class of a task is one of the plan's
abbrev pub HasClass : Plan → Task → Type 0
HasClass plan task = task.class < length plan.classes

-- the class of a task that trapped is one of the plan's, and the word of its trap is one of that class's
pub record IsTrapOf (plan : Plan) (row : TrapRow) : Type 0 where
  pub class : HasClass plan row.task
  pub word : HasWord (trap_words plan row.task.class) row.cause

-- the class of each task in the rows of an answer is one of the plan's, and the word of each trap is one of its class's
abbrev pub HasRowsOf : Plan → Outcome → Type 0
HasRowsOf plan (Complete count given) = Unit {0}
HasRowsOf plan (Trapped rows) = All (IsTrapOf plan) rows
HasRowsOf plan (Stalled ran total rows) = All (λ (row : WaitRow). HasClass plan row.task) rows
