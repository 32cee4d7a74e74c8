-- The text for a job that was run by ranks.
-- Carried by: `ranked_answer`, `ptg_top::ptg_main` (`CommandDenotes`).
-- Tested by: `ranks.txt`.
use Rattle.std.specs.Prelude.{ℕ, List, [], ◌∷◌, ◌++◌, codes}
use Rattle.std.specs.Fmt.{decimal}
use Rattle.plan_core.specs.declared.plan.Plan.{Plan}
use Rattle.report_text.specs.Field.{line}
use Rattle.report_text.specs.Printed.{outcome_text}
use Rattle.report_text.specs.declared.ranks_line.RankedAnswer.{RankedAnswer}

-- the line of the ranks: how many there were, and how many messages they sent one another
abbrev pub ranked_head : RankedAnswer → List ℕ
ranked_head found = line (codes "ranks" ∷ decimal found.ranks ∷ decimal found.messages ∷ [])

-- the text for a job that was run by ranks: that line, and then its answer
abbrev pub ranked_text : Plan → RankedAnswer → List ℕ
ranked_text plan found = ranked_head found ++ outcome_text plan found.outcome
