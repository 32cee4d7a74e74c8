-- The text of an answer.
-- Carried by: `report`, `consistent`.
-- Tested by: `check.txt`, `type_faults.txt`.
use Rattle.std.specs.Prelude.{ℕ, ℤ, List, [], ◌∷◌, ◌++◌, length, map, flat_map, codes}
use Rattle.std.specs.List.{zip}
use Rattle.std.specs.Fmt.{decimal, signed_decimal}
use Rattle.plan_core.specs.declared.plan.Plan.{Plan}
use Rattle.coll_data.specs.declared.coll.Coll.{Coll}
use Rattle.flow_meaning.specs.declared.outcome.TrapRow.{TrapRow}
use Rattle.flow_meaning.specs.declared.outcome.WaitRow.{WaitRow}
use Rattle.flow_meaning.specs.declared.outcome.Outcome.{Outcome}
use Rattle.flow_meaning.specs.declared.outcome.Outcome.TheVariants.{Complete, Trapped, Stalled}
use Rattle.report_text.specs.Field.{line}
use Rattle.report_text.specs.Places.{places}
use Rattle.report_text.specs.Rows.{class_name, trap_words, cause_text}

-- the line of a tile: the name of its collection, its place, and all its numbers
abbrev pub tile_line : List ℕ → List ℕ → List ℤ → List ℕ
tile_line name place numbers = line (codes "tile" ∷ name ∷ (map decimal place ++ map signed_decimal numbers))

-- the lines of a collection's tiles, each beside its place
abbrev pub coll_lines : Coll → List ℕ
coll_lines coll =
    flat_map (λ (place, tile). tile_line coll.name place tile) (zip (places coll.shape.0 coll.shape.1) coll.tiles)

-- the line of a task that trapped: its class, its parameters, and the cause
abbrev pub trap_line : Plan → TrapRow → List ℕ
trap_line plan row =
    line
    (codes "trap" ∷ class_name plan row.task.class
    ∷ (map signed_decimal row.task.params ++ cause_text (trap_words plan row.task.class) row.cause ∷ []))

-- the line of a task that waits: its class, its parameters, how many edges into it have come, and how many there are
abbrev pub wait_line : Plan → WaitRow → List ℕ
wait_line plan row =
    line
    (codes "wait" ∷ class_name plan row.task.class
    ∷ (map signed_decimal row.task.params ++ decimal row.arrived ∷ decimal row.goal ∷ []))

-- the line of a complete job: how many tasks ran
abbrev pub complete_line : ℕ → List ℕ
complete_line tasks = line (codes "complete" ∷ decimal tasks ∷ [])

-- the line of a job that stalled: how many tasks ran, of how many
abbrev pub stalled_line : ℕ → ℕ → List ℕ
stalled_line ran tasks = line (codes "stalled" ∷ decimal ran ∷ decimal tasks ∷ [])

-- the first line of an answer: what became of the job, with its counts
abbrev pub first_line : Outcome → List ℕ
first_line (Complete count given) = complete_line count
first_line (Trapped rows) = line (codes "trapped" ∷ decimal (length rows) ∷ [])
first_line (Stalled ran total rows) = stalled_line ran total

-- the lines after it: the tiles of all collections in the data's order, or the tasks that trapped, or those that wait
abbrev pub row_lines : Plan → Outcome → List ℕ
row_lines plan (Complete count given) = flat_map coll_lines given.colls
row_lines plan (Trapped rows) = flat_map (trap_line plan) rows
row_lines plan (Stalled ran total rows) = flat_map (wait_line plan) rows

-- the text of an answer
abbrev pub outcome_text : Plan → Outcome → List ℕ
outcome_text plan outcome = first_line outcome ++ row_lines plan outcome

-- the text for a job that is consistent: how many tasks, edges and write-backs it has
abbrev pub consistent_text : ℕ → ℕ → ℕ → List ℕ
consistent_text tasks edges writes = line (codes "consistent" ∷ decimal tasks ∷ decimal edges ∷ decimal writes ∷ [])
