-- Entries of the dependency table, for shards and the table of a state alike: what it has of a task; tiles with the
-- numbers of their flows. Source: DAGuE (Parallel Computing, 2012), where an entry counts the dependences that have
-- come, and a task keeps their data until it runs. Here the tiles are in flow order, one a flow.
-- Carried by: `dep_shard::Shard::entry`, `dep_shard::Entries::get`; laws `run_laws::an_edge_finds_its_target`,
-- `run_laws::a_claim_takes_its_own_entry`.
-- Tested by: `ptg_measure`.
use Rattle.std.specs.Prelude.{ℕ, ℤ, List}

-- the number of a flow, with the tile that came to it
abbrev pub FlowTile : Type 0
FlowTile = ℕ × List ℤ

-- An entry, which an unclaimed task may have: how many edges go into the task, how many of them have come, its
-- priority, and the tiles that have come. The tiles are in order of flow number.
pub record Entry : Type 0 where
  pub goal : ℕ
  pub arrived : ℕ
  pub priority : ℤ
  pub tiles : List FlowTile
