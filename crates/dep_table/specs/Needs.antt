-- What the shards of a preloaded table need for all that they will receive, counted task by task; the tiles that edges
-- bring to a flow; room for the counts.
-- Carried by: inside `DepTable::open`.
use Rattle.std.specs.Prelude.{◌≡◌, ◌<◌, ℕ, ◌+◌, ◌^◌, ℤ, Bool, true, false, ◌==◌, ◌&&◌, List, [], ◌∷◌, ◌++◌, length, filter, flat_map, slice_get}
use Rattle.std.specs.Prelude.{slice_index, Some}
use Rattle.ptg_base.specs.Task.{Task}
use Rattle.ptg_base.specs.declared.edge.Edge.{Edge}
use Rattle.ptg_base.specs.declared.edge.WriteBack.{WriteBack}
use Rattle.plan_core.specs.declared.flow.FlowPlan.{FlowPlan}
use Rattle.plan_core.specs.declared.plan.Plan.{Plan}
use Rattle.plan_core.specs.declared.target.Target.{Target}
use Rattle.plan_core.specs.declared.target.Target.TheVariants as target
use Rattle.plan_core.specs.Kinds.{is_data}
use Rattle.dep_iter.specs.Active.{flow_ins}
use Rattle.dep_iter.specs.Consistent.{is_data_edge}
use Rattle.dep_iter.specs.Edges.{in_edges}
use Rattle.dep_iter.specs.Items.{write_backs}
use Rattle.dep_shard.specs.Content.{Content, HasSpares, IsUnchanged}
use Rattle.list_lemmas.specs.Changes.{ChangesAt}
use Rattle.list_lemmas.specs.Counting.{as_number, count, weigh}
use Rattle.shard_meaning.specs.Opening.{has_edges, is_edge_to, is_to_enter, is_write_from}
use Rattle.shard_meaning.specs.Reserve.{is_edge_of_type, is_write_of_type}
use Rattle.shard_meaning.specs.Share.{Placement, is_of}
use Rattle.dep_table.specs.declared.needs.Needs.{Needs}

-- the edges into these tasks that carry a tile
abbrev pub data_into : Plan → List Task → List Edge
data_into P ts = filter (is_data_edge P) (flat_map (in_edges P) ts)

-- the write-backs of these tasks
abbrev pub writes_of : Plan → List Task → List WriteBack
writes_of P ts = flat_map (write_backs P) ts

-- What the shard k needs for those of these tasks that belong to it. It needs an entry for each that edges go into, and
-- a row for each. It needs a tile of the right type for each data edge into one and for each write-back of one, and a
-- place for each such write-back.
pub record IsNeedOf (P : Plan) (of : Placement) (k : ℕ) (ts : List Task) (n : Needs) : Type 0 where
  pub entries : n.entries ≡ count (is_to_enter P of k) ts
  pub types : length n.tiles.items ≡ length P.elems
  pub tiles : (datatype : ℕ)
      → slice_index n.tiles.items datatype
      ≡ count (is_edge_to P of k datatype) (data_into P ts) + count (is_write_from P of k datatype) (writes_of P ts)
  pub writes : n.writes ≡ count (λ (w : WriteBack). is_of of k w.from) (writes_of P ts)
  pub traps : n.traps ≡ count (is_of of k) ts

-- what each shard needs for these tasks
abbrev pub AreNeedsOf : Plan → Placement → List Task → List Needs → Type 0
AreNeedsOf P of ts ns = (k : ℕ) (n : Needs) → slice_get ns k ≡ Some n → IsNeedOf P of k ts n

-- each shard's needs count this many types of tiles
abbrev pub HaveTypes : ℕ → List Needs → Type 0
HaveTypes types ns = (k : ℕ) (n : Needs) → slice_get ns k ≡ Some n → length n.tiles.items ≡ types

-- how many tiles of a type these edges carry
abbrev pub edge_tiles : Plan → List Edge → ℕ → ℕ
edge_tiles P es datatype = count (is_edge_of_type P datatype) (filter (is_data_edge P) es)

-- how many tiles of a type these write-backs carry
abbrev pub write_tiles : Plan → List WriteBack → ℕ → ℕ
write_tiles P ws datatype = count (is_write_of_type P datatype) ws

-- the counts of a shard stay below 2 ^ 64 while what these tasks need is added, whatever shards they belong to
pub record CanCount (P : Plan) (ts : List Task) (n : Needs) : Type 0 where
  pub entries : n.entries + length ts < 2 ^ 64
  pub tiles : (datatype : ℕ)
      → slice_index n.tiles.items datatype
      + (edge_tiles P (flat_map (in_edges P) ts) datatype + write_tiles P (writes_of P ts) datatype)
      < 2 ^ 64
  pub writes : n.writes + length (writes_of P ts) < 2 ^ 64
  pub traps : n.traps + length ts < 2 ^ 64

-- the same for each of these shards
abbrev pub CanCountEach : Plan → List Task → List Needs → Type 0
CanCountEach P ts ns = (k : ℕ) (n : Needs) → slice_get ns k ≡ Some n → CanCount P ts n

-- If old is what the shards need for some tasks, new is what they need for those and this one. If old had room to count
-- this task and others, new has room to count the others.
pub record AddsNeeds (P : Plan) (of : Placement) (t : Task) (old new : List Needs) : Type 0 where
  pub count : length new ≡ length old
  pub types : HaveTypes (length P.elems) old → HaveTypes (length P.elems) new
  pub needs : (done : List Task) → AreNeedsOf P of done old → AreNeedsOf P of (done ++ t ∷ []) new
  pub room : (others : List Task) → CanCountEach P (t ∷ others) old → CanCountEach P others new

-- the needs have grown by this many tiles of each type and this many write-backs
pub record AddsTiles (of_type : ℕ → ℕ) (places : ℕ) (old new : Needs) : Type 0 where
  pub entries : new.entries ≡ old.entries
  pub types : length new.tiles.items ≡ length old.tiles.items
  pub tiles : (datatype : ℕ)
      → slice_index new.tiles.items datatype ≡ slice_index old.tiles.items datatype + of_type datatype
  pub writes : new.writes ≡ old.writes + places
  pub traps : new.traps ≡ old.traps

-- whether the first of these targets of in dependences gives an edge
abbrev pub begins_with_edge : List Target → Bool
begins_with_edge [] = false
begins_with_edge (target.Task class flow args ∷ xs) = true
begins_with_edge (target.Element coll indices ∷ xs) = false
begins_with_edge (target.New ∷ xs) = false
begins_with_edge (target.Null ∷ xs) = false

-- How many tiles of a type come by edges into a flow of a task with these locals. It is one if the flow carries tiles
-- of that type and its source is an edge, else none.
abbrev pub flow_tiles : List ℤ → FlowPlan → ℕ → ℕ
flow_tiles env f datatype =
    as_number ((is_data (Some f.kind) && begins_with_edge (flow_ins env f)) && (f.datatype == datatype))

-- how many tiles of a type come by edges into these flows
abbrev pub flows_tiles : List ℤ → List FlowPlan → ℕ → ℕ
flows_tiles env fs datatype = weigh (λ f. flow_tiles env f datatype) fs

-- what a task needs in its shard is added
pub record AddsTask (P : Plan) (t : Task) (old new : Needs) : Type 0 where
  pub entries : new.entries ≡ old.entries + as_number (has_edges P t)
  pub types : length new.tiles.items ≡ length old.tiles.items
  pub tiles : (datatype : ℕ)
      → slice_index new.tiles.items datatype
      ≡ slice_index old.tiles.items datatype
      + (edge_tiles P (in_edges P t) datatype + write_tiles P (write_backs P t) datatype)
  pub writes : new.writes ≡ old.writes + length (write_backs P t)
  pub traps : new.traps ≡ old.traps + 1

-- what the task needs is added to the needs of the shard k, and those of the other shards stay
abbrev pub AddsTaskAt : Plan → Task → ℕ → List Needs → List Needs → Type 0
AddsTaskAt P t k old new = ChangesAt (AddsTask P t) k old new

-- nothing is needed, and there are counts for this many types
pub record IsNoNeed (types : ℕ) (n : Needs) : Type 0 where
  pub entries : n.entries ≡ 0
  pub types_count : length n.tiles.items ≡ types
  pub tiles : (datatype : ℕ) → slice_index n.tiles.items datatype ≡ 0
  pub writes : n.writes ≡ 0
  pub traps : n.traps ≡ 0

-- the needs of this many shards, none of which needs anything yet, with counts for this many types
pub record AreNoNeeds (shards types : ℕ) (ns : List Needs) : Type 0 where
  pub count : length ns ≡ shards
  pub each : (k : ℕ) (n : Needs) → slice_get ns k ≡ Some n → IsNoNeed types n

-- The shard has spares for all that it needs, and nothing but its spares has changed.
pub record IsReservedFor (n : Needs) (old new : Content) : Type 0 where
  pub same : IsUnchanged old new
  pub spares : HasSpares new.spare n.entries n.tiles.items n.writes n.traps

-- The shard k has spares for all that it needs, and the other shards stay.
abbrev pub ReservesAt : ℕ → Needs → List Content → List Content → Type 0
ReservesAt k n old new = ChangesAt (IsReservedFor n) k old new

-- each shard has spares for all that it needs, and nothing but its spares has changed
pub record AreReserved (ns : List Needs) (old new : List Content) : Type 0 where
  pub count : length new ≡ length old
  pub each : (k : ℕ) (n : Needs) (y z : Content) → slice_get ns k ≡ Some n → slice_get old k ≡ Some y
      → slice_get new k ≡ Some z → IsReservedFor n y z

-- each shard and its needs have the same number of types
abbrev pub FitShards : List Needs → List Content → Type 0
FitShards ns ys =
    (k : ℕ) (n : Needs) (y : Content) → slice_get ns k ≡ Some n → slice_get ys k ≡ Some y
    → length n.tiles.items ≡ length y.elems
