-- The parts of the answer as a run has them: its trapped tasks, its waiting tasks, and what was written back.
use Rattle.std.specs.Prelude.{ℤ, List, map, filter, flat_map, filter_map, Option, None, option_map}
use Rattle.ptg_base.specs.Task.{Task}
use Rattle.ptg_base.specs.declared.edge.WriteBack.{WriteBack}
use Rattle.ptg_base.specs.declared.edge.Item.{Item}
use Rattle.ptg_base.specs.declared.edge.Item.TheVariants as item
use Rattle.plan_core.specs.declared.plan.Plan.{Plan}
use Rattle.flow_meaning.specs.declared.outcome.TrapRow.{TrapRow}
use Rattle.flow_meaning.specs.declared.outcome.WaitRow.{WaitRow}
use Rattle.flow_meaning.specs.Answer.{trap_rows}
use Rattle.flow_meaning.specs.Ending.{Ended}
use Rattle.flow_meaning.specs.Machine.{MachineState, SentItem}
use Rattle.flow_meaning.specs.Table.{is_waiting, wait_row}

-- the claimed tasks that have trapped, in the order of the claims
abbrev pub claim_traps : List (Task × Option Ended) → List TrapRow
claim_traps claims = flat_map (λ ((t, ended) : Task × Option Ended). trap_rows t ended) claims

-- the rows of those of these tasks that wait
abbrev pub waits_among : Plan → MachineState → List Task → List WaitRow
waits_among P S ts = map (wait_row P S) (filter (is_waiting P S) ts)

-- the write-back with its tile, if the item is one and has a tile
abbrev pub write_with : Item → Option (List ℤ) → Option (WriteBack × List ℤ)
write_with (item.Edge e) tile = None
write_with (item.Write w) tile = option_map (λ (numbers : List ℤ). (w, numbers)) tile

-- the write-backs that were sent, each with its tile, in the order of the sends
abbrev pub writes_among : List SentItem → List (WriteBack × List ℤ)
writes_among sends = filter_map (λ (x : SentItem). write_with x.item x.tile) sends
