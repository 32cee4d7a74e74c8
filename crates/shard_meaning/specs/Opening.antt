-- What a shard holds before the first event: of its tasks, those that no edge goes into are ready. Source: DAGuE
-- (Parallel Computing, 2012): a task without dependences may run at once.
-- Carried by: law `the_opening_shards_hold_the_opening`.
use Rattle.std.specs.Prelude.{◌≡◌, ◌≤◌, ℕ, ◌+◌, Bool, true, false, ◌&&◌, ◌==◌, [], Option, Some, None, slice_index, if◌then◌else◌}
use Rattle.ptg_base.specs.Entry.{Entry}
use Rattle.ptg_base.specs.Task.{Task}
use Rattle.ptg_base.specs.declared.edge.WriteBack.{WriteBack}
use Rattle.plan_core.specs.declared.plan.Plan.{Plan}
use Rattle.dep_iter.specs.Consistent.{all_data, all_writes}
use Rattle.dep_iter.specs.Edges.{goal}
use Rattle.dep_iter.specs.Hints.{priority}
use Rattle.dep_iter.specs.Tasks.{IsTask, all_tasks}
use Rattle.dep_shard.specs.Content.{Content, entry_of, fresh}
use Rattle.list_lemmas.specs.Counting.{count}
use Rattle.shard_meaning.specs.Share.{Placement, is_of}
pub use Rattle.shard_meaning.specs.Reserve.{is_edge_to, is_write_from}

-- the entry of a task before the first event, if it has one: no edge goes into it, so it is ready
abbrev pub opening_entry : Plan → Task → Option Entry
opening_entry P t = if goal P t == 0 then Some (fresh 0 (priority P t)) else None

-- of the tasks of this kind, the shard k has the entries of its own that no edge goes into, and nothing else
pub record IsOpenedFor (P : Plan) (of : Placement) (k : ℕ) (Kind : Task → Type 0) (y : Content) : Type 0 where
  pub there : (t : Task) → Kind t → of t ≡ k → entry_of y t ≡ opening_entry P t
  pub only : (t : Task) (e : Entry) → entry_of y t ≡ Some e → Kind t × (of t ≡ k)
  pub written : y.written ≡ []
  pub trapped : y.trapped ≡ []
  pub running : y.running ≡ 0
  pub ended : y.ended ≡ 0
  pub elems : y.elems ≡ P.elems

-- the shard k before the first event: it is opened for the tasks of the plan
abbrev pub IsOpeningShard : Plan → Placement → ℕ → Content → Type 0
IsOpeningShard P of k y = IsOpenedFor P of k (IsTask P) y

-- whether edges go into a task; if so, it has no entry before the first event
abbrev pub has_edges : Plan → Task → Bool
has_edges P t = if goal P t == 0 then false else true

-- whether a task of the shard k has edges into it
abbrev pub is_to_enter : Plan → Placement → ℕ → Task → Bool
is_to_enter P of k t = is_of of k t && has_edges P t

-- the spares of the shard k before the first event: for all that will come to it
pub record HasOpeningReserve (P : Plan) (of : Placement) (k : ℕ) (y : Content) : Type 0 where
  pub entries : count (is_to_enter P of k) (all_tasks P) ≤ y.spare.entries
  pub tiles : (datatype : ℕ)
      → count (is_edge_to P of k datatype) (all_data P) + count (is_write_from P of k datatype) (all_writes P)
      ≤ slice_index y.spare.tiles datatype
  pub writes : count (λ (w : WriteBack). is_of of k w.from) (all_writes P) ≤ y.spare.writes
  pub traps : count (is_of of k) (all_tasks P) ≤ y.spare.traps
