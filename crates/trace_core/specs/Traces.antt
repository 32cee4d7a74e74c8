-- Texts that are traces of a whole order of a job.
-- Carried by: `ptg_top::ptg_main` (`CommandDenotes`); laws `run_laws::every_text_has_a_fault_or_is_a_trace`,
-- `run_laws::a_trace_is_the_text_of_its_list`.
-- Tested by: `replay.txt`, `replay_limits.txt`.
use Rattle.std.specs.Prelude.{◌≤◌, ℕ, List, length, map}
use Rattle.ptg_base.specs.Limits.{most_bytes}
use Rattle.ptg_base.specs.Task.{Task}
use Rattle.plan_core.specs.declared.plan.Plan.{Plan}
use Rattle.coll_data.specs.Data.{Data}
use Rattle.flow_meaning.specs.Order.{IsWholeOrder}
use Rattle.trace_core.specs.Spelling.{IsWellSpelled}
use Rattle.trace_core.specs.Text.{row_of}

-- a text within 16 MiB is well spelled, and its rows are those of these tasks, which are a whole order
pub record IsTrace (P : Plan) (G : Data) (text : List ℕ) (tasks : List Task) : Type 0 where
  pub at_most : length text ≤ most_bytes
  pub spelled : IsWellSpelled text (map (row_of P) tasks)
  pub whole : IsWholeOrder P G tasks

-- a text is a trace of some whole order
abbrev pub IsSomeTrace : Plan → Data → List ℕ → Type 0
IsSomeTrace P G text = (tasks : List Task) × IsTrace P G text tasks
