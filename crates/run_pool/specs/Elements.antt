-- The numbers that are sent over edges and write-backs, task by task.
use Rattle.std.specs.Prelude.{ℕ, ◌+◌, if◌then◌else◌}
use Rattle.ptg_base.specs.Task.{Task}
use Rattle.ptg_base.specs.declared.edge.Edge.{Edge}
use Rattle.plan_core.specs.declared.plan.Plan.{Plan}
use Rattle.dep_iter.specs.Consistent.{is_data_edge}
use Rattle.dep_iter.specs.Edges.{in_edges}
use Rattle.dep_iter.specs.Items.{write_backs}
use Rattle.list_lemmas.specs.Counting.{weigh}
use Rattle.run_pool.specs.Bytes.{edge_elements, write_elements}

-- how many numbers are sent over an edge; none over one that carries no tile
abbrev pub carried_elements : Plan → Edge → ℕ
carried_elements P e = if is_data_edge P e then edge_elements P e else 0

-- how many numbers the tiles of the edges into a task have
abbrev pub in_elements : Plan → Task → ℕ
in_elements P t = weigh (carried_elements P) (in_edges P t)

-- how many numbers the tiles of the write-backs of a task have
abbrev pub written_elements : Plan → Task → ℕ
written_elements P t = weigh (write_elements P) (write_backs P t)

-- how many numbers the tiles of the edges into a task and of its write-backs have
unfoldable pub task_elements : Plan → Task → ℕ
task_elements P t = in_elements P t + written_elements P t
