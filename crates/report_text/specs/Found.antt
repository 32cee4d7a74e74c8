-- The text for a job that was run, besides its answer: the lines of a summary, of a chain and of a cycle.
-- Carried by: `summary_line`, `heaviest_chain`, `found_cycle`.
-- Tested by: `demo.txt`, `certify.txt`.
use Rattle.std.specs.Prelude.{ℕ, List, [], ◌∷◌, ◌++◌, length, map, flat_map, codes}
use Rattle.std.specs.Fmt.{decimal, signed_decimal}
use Rattle.ptg_base.specs.Task.{Task}
use Rattle.plan_core.specs.declared.plan.Plan.{Plan}
use Rattle.report_text.specs.Field.{line}
use Rattle.report_text.specs.Printed.{complete_line, stalled_line}
use Rattle.report_text.specs.Rows.{class_name}
use Rattle.report_text.specs.declared.demo_line.Summary.{Summary}
use Rattle.report_text.specs.declared.certificate.HeaviestChain.{HeaviestChain}
use Rattle.report_text.specs.declared.certificate.FoundCycle.{FoundCycle}

-- the text for a made job that is complete: how many rows of tiles and how many tasks it has, and the sum of all
-- elements
abbrev pub summary_text : Summary → List ℕ
summary_text s = line (codes "demo" ∷ decimal s.rows ∷ decimal s.tasks ∷ signed_decimal s.sum ∷ [])

-- the line of a task of a chain or of a cycle: its class and its parameters
abbrev pub link_line : Plan → Task → List ℕ
link_line plan t = line (codes "link" ∷ class_name plan t.class ∷ map signed_decimal t.params)

-- the line of a task with its level
abbrev pub level_line : Plan → Task × ℕ → List ℕ
level_line plan row =
    line (codes "level" ∷ class_name plan row.0.class ∷ (map signed_decimal row.0.params ++ decimal row.1 ∷ []))

-- the first two lines of a heaviest chain: how many tasks the job has, and the chain's length and weight
abbrev pub chain_head : HeaviestChain → List ℕ
chain_head found =
    complete_line found.tasks ++ line (codes "chain" ∷ decimal (length found.chain) ∷ decimal found.weight ∷ [])

-- the text of a heaviest chain: its first two lines, its tasks, and the level of each task of the job
abbrev pub chain_text : Plan → HeaviestChain → List ℕ
chain_text plan found =
    chain_head found ++ (flat_map (link_line plan) found.chain ++ flat_map (level_line plan) found.levels)

-- the first two lines of a cycle: how many tasks ran, of how many, and the cycle's length
abbrev pub cycle_head : FoundCycle → List ℕ
cycle_head found =
    stalled_line found.ran found.tasks ++ line (codes "cycle" ∷ decimal (length found.cycle) ∷ [])

-- the text of a cycle: its first two lines, and its tasks
abbrev pub cycle_text : Plan → FoundCycle → List ℕ
cycle_text plan found = cycle_head found ++ flat_map (link_line plan) found.cycle
