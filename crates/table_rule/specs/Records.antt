-- What all passes of a table did together: their joined records.
-- Carried by: laws of `table_rule`; `dep_table::Turn::claim`, `dep_table::DepTable::close`, `run_pool::run`,
-- `run_pool::run_traced`.
use Rattle.std.specs.Prelude.{◌≡◌, ℕ, List}
use Rattle.std.specs.List.{flat_map}
use mathlib.Core.Option.{some}
use lib.ListN.{get_elem?}
use Rattle.ptg_base.specs.Task.{Task}
use Rattle.list_lemmas.specs.Counting.{weigh}
use Rattle.flow_meaning.specs.Machine.{SentItem}
use Rattle.shard_meaning.specs.Moment.{Moment}
use Rattle.work_board.specs.Handed.{HandedTask}
use Rattle.work_board.specs.Records.{done_by}
use Rattle.work_board.specs.declared.record.PassRecord.{PassRecord}

-- each pass has the property
abbrev pub Each : (PassRecord → Type 0) → List PassRecord → Type 0
Each Q vs = (i : ℕ) (v : PassRecord) → get_elem? vs i ≡ some v → Q v

-- the claims, the sends and the running tasks of a moment are those of all passes together, in any order
pub record AreRecordsOf (R : Moment) (vs : List PassRecord) : Type 0 where
  pub claims : (f : Task → ℕ) → weigh f R.state.claims ≡ weigh (λ (v : PassRecord). weigh f v.claims) vs
  pub sends : (f : SentItem → ℕ) → weigh f R.state.sends ≡ weigh (λ (v : PassRecord). weigh f v.sends) vs
  pub running : (f : Task → ℕ) → weigh f R.running ≡ weigh (λ (v : PassRecord). weigh f v.running) vs

-- the moment whose lists are those of all passes, one pass after the other
abbrev pub joined : List PassRecord → Moment
joined vs = record {
  state =
      record { claims = flat_map (λ (v : PassRecord). v.claims) vs; sends = flat_map (λ (v : PassRecord). v.sends) vs };
  running = flat_map (λ (v : PassRecord). v.running) vs;
}

-- what was handed out to all passes, one pass after the other
abbrev pub joined_handed : List PassRecord → List HandedTask
joined_handed vs = flat_map (λ (v : PassRecord). v.handed) vs

-- what one pass did, as a moment
abbrev pub moment_of : PassRecord → Moment
moment_of v = record { state = done_by v; running = v.running }
