-- The names in the rows of an answer: of their classes, and of their causes.
-- Carried by: `report`.
-- Tested by: `check.txt`, `type_faults.txt`.
use Rattle.std.specs.Prelude.{ℕ, List, [], codes, slice_get, slice_index_or}
use Rattle.std.specs.Option.{option_map_or}
use Rattle.term_core.specs.declared.trap.Trap.{Trap}
use Rattle.term_core.specs.declared.trap.Trap.TheVariants.{Overflow, Divide, Index, Absent, Budget, Word}
use Rattle.plan_core.specs.declared.class.ClassPlan.{ClassPlan}
pub use Rattle.plan_core.specs.NamesByNumber.{class_name}
use Rattle.plan_core.specs.declared.plan.Plan.{Plan}

-- the trap words of the class with this number; none if there is no such class
abbrev pub trap_words : Plan → ℕ → List (List ℕ)
trap_words plan class = option_map_or (λ (c : ClassPlan). c.trap_words) (slice_get plan.classes class) []

-- the text of a cause, in a class with these trap words; the empty text if there is no such word
abbrev pub cause_text : List (List ℕ) → Trap → List ℕ
cause_text words Overflow = codes "overflow"
cause_text words Divide = codes "divide"
cause_text words Index = codes "index"
cause_text words Absent = codes "absent"
cause_text words Budget = codes "budget"
cause_text words (Word n) = slice_index_or words n []
