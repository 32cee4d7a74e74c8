-- The tiles that tasks leave have the sizes of their flows' types.
use Rattle.std.proofs.Common.{◌≡◌, ◌≢◌, ℕ, zero, suc, ◌+◌, ℤ, Bool, true, false, cond, eqb, List, [], ◌∷◌, length}
use Rattle.std.proofs.Common.{get_or, refl, ap, sym, ◌∙◌, subst, add-zero, Option, Some, None, slice_get, slice_index}
use Rattle.std.proofs.Common.{Ok, Err, inl, inr, arith}
use Rattle.std.specs.Prelude.{option_map, option_and_then, map}
use Rattle.std.specs.Option.{option_map_or}
use Rattle.std.proofs.lemmas.Option.{same_Some, slice_get-map}
use Rattle.std.proofs.lemmas.Bool.{false≢true, and_parts, eqb-true}
use Rattle.ptg_base.specs.Lists.{IsIn}
use Rattle.ptg_base.specs.Task.{Task}
use Rattle.ptg_base.specs.declared.edge.Edge.{Edge}
use Rattle.ptg_base.specs.declared.edge.Item.{Item}
use Rattle.ptg_base.specs.declared.edge.Item.TheVariants as item
use Rattle.ptg_base.specs.declared.place.Place.{Place}
use Rattle.term_core.specs.Term.{Term}
use Rattle.term_core.specs.declared.flow.FlowKind.{FlowKind}
use Rattle.term_core.specs.declared.flow.FlowKind.TheVariants.{Read, Write, Rw, Ctl}
use Rattle.body_eval.specs.Meaning.{body_meaning}
use Rattle.body_eval.specs.Sizes.{size_of}
use Rattle.plan_core.specs.declared.class.ClassPlan.{ClassPlan}
use Rattle.plan_core.specs.declared.flow.FlowPlan.{FlowPlan}
use Rattle.plan_core.specs.declared.plan.Plan.{Plan}
use Rattle.plan_core.specs.declared.shape.Shape.{Shape}
use Rattle.plan_core.specs.declared.target.Arg.{Arg}
use Rattle.plan_core.specs.declared.target.Target.{Target}
use Rattle.plan_core.specs.declared.target.Target.TheVariants as target
use Rattle.plan_core.specs.Flows.{is_in_target}
use Rattle.plan_core.specs.Kinds.{flow_of, is_data, kind_of}
use Rattle.plan_core.specs.Place.{HasPlace}
use Rattle.plan_core.specs.Targets.{has_datatype}
use Rattle.coll_data.specs.declared.coll.Coll.{Coll}
use Rattle.coll_data.specs.Data.{Data}
use Rattle.coll_data.specs.Tiles.{tile_at, tile_index}
use Rattle.coll_data.specs.WellMade.{IsWellColl, IsWellMade, elements_by_type}
use Rattle.list_lemmas.proofs.Places.{each_at, length-zeros}
use Rattle.list_lemmas.proofs.Members.{member_passes}
use Rattle.list_lemmas.proofs.Options.{from_is_some_and, some_value}
use Rattle.coll_data.proofs.CallerLemmas.{tile_exists}
use Rattle.plan_data.specs.Fit.{DataFit, shape_of}
use Rattle.plan_data.proofs.CallerLemmas.{same_places}
use Rattle.dep_iter.specs.declared.source.Source.{Source}
use Rattle.dep_iter.specs.declared.source.Source.TheVariants as source
use Rattle.dep_iter.specs.Tasks.{IsTask, all_tasks, flows_of, locals_of, task}
use Rattle.dep_iter.specs.Arguments.{place_at, place_of, single_value, value_or_zero}
use Rattle.dep_iter.specs.Edges.{data_source, edge, in_edges, source_at}
use Rattle.dep_iter.specs.Items.{item_flow, items}
use Rattle.dep_iter.specs.Consistent.{IsConsistent, takes_tile}
use Rattle.flow_meaning.specs.Starting.{Delivery, new_tile, starting_tile, starting_tiles, tile_from, tiles_from, unsourced_tile}
use Rattle.flow_meaning.specs.Ending.{Ended, ended_on, flow_size, has_outputs, output_tile, size_from}
use Rattle.flow_meaning.specs.Backward.{ended, ended_within, source_tile}
use Rattle.flow_meaning.proofs.Enough.{fixed}
use Rattle.flow_meaning.proofs.Members.{in_edge_item, source_is_task}
use Rattle.flow_meaning.proofs.Rounds.{has_sources}
use Rattle.flow_meaning.proofs.Shapes.{HasShape, body_shape}
use Rattle.flow_meaning.proofs.SourceEdges.{IsHeld, class_of, passes_source, source_in, source_target}
use Rattle.flow_meaning.proofs.Starting.{length-starting_tiles}

-- the tile that a task starts on in flow k
start_at : (P : Plan) (G : Data) (d : Delivery) (t : Task) (n : ℕ) (fs : List FlowPlan) (k : ℕ) (f : FlowPlan)
    → slice_get fs k ≡ Some f → get_or (tiles_from P G d t n fs) k None ≡ starting_tile P G d t (n + k) f
start_at P G d t n [] k f e = absurd cc
start_at P G d t n (g ∷ fs) zero f e =
    let same : g ≡ f = cc in
    ap (starting_tile P G d t n) same ∙ ap (λ m. starting_tile P G d t m f) (sym (add-zero n))
start_at P G d t n (g ∷ fs) (suc k) f e =
    let m : suc n + k ≡ n + suc k = omega arith in
    start_at P G d t (suc n) fs k f e ∙ ap (λ i. starting_tile P G d t i f) m

-- the flows of a task are those of its class
pub flow_is : (P : Plan) (s : Task) (k : ℕ) → slice_get (flows_of P s) k ≡ flow_of P.classes s.class k
flow_is P s k = by (slice_get P.classes s.class)
  where
    by : (o : Option ClassPlan) → slice_get (option_map_or (λ (c : ClassPlan). c.flows) o []) k ≡ option_and_then (λ (c : ClassPlan). slice_get c.flows k) o
    by None = cc
    by (Some c) = refl

-- the flow with this number of a class exists, carries a tile and has this datatype
pub record IsSourceFlow (P : Plan) (class k datatype : ℕ) : Type 0 where
  pub flow : FlowPlan
  pub is : flow_of P.classes class k ≡ Some flow
  pub carries : is_data (Some flow.kind) ≡ true
  pub same_type : flow.datatype ≡ datatype

source_flow : (P : Plan) (class k datatype : ℕ) (o : Option FlowPlan) → flow_of P.classes class k ≡ o
    → option_map_or (λ (g : FlowPlan). eqb g.datatype datatype) o false ≡ true
    → is_data (option_map (λ (g : FlowPlan). g.kind) o) ≡ true → IsSourceFlow P class k datatype
source_flow P class k datatype None is h d = absurd (false≢true h)
source_flow P class k datatype (Some g) is h d = record { flow = g; is = is; carries = d; same_type = eqb-true g.datatype datatype h }

reads : (P : Plan) (k : FlowKind) (class flow : ℕ) (args : List Arg) → is_data (Some k) ≡ true
    → is_in_target P.classes k (target.Task class flow args) ≡ true → is_data (kind_of P.classes class flow) ≡ true
reads P Read class flow args d h = (and_parts _ _ h).0
reads P Write class flow args d h = absurd (false≢true h)
reads P Rw class flow args d h = (and_parts _ _ h).0
reads P Ctl class flow args d h = absurd (false≢true d)

not_null : (P : Plan) (f : FlowPlan) (s : Source) → s ≢ source.Null → size_from P f s ≡ Some (slice_index P.elems f.datatype)
not_null P f (source.Task e) h = refl
not_null P f (source.Place p) h = refl
not_null P f source.New h = refl
not_null P f source.Null h = absurd (h refl)
not_null P f source.Nothing h = refl

pub with_tiles : (o : Option Ended) → has_outputs o ≡ true → (tiles : List (Option (List ℤ))) × (o ≡ Some (Ok tiles))
with_tiles None h = absurd (false≢true h)
with_tiles (Some (Err cause)) h = absurd (false≢true h)
with_tiles (Some (Ok tiles)) h = (tiles, refl)

pub coll_at : (coll : ℕ) (zs : List ℤ) → (place_at coll zs).coll ≡ coll
coll_at coll [] = refl
coll_at coll (z ∷ zs) = refl

place_coll : (env : List ℤ) (p : Place) (coll : ℕ) (indices : List Term) → source.Place (place_of coll indices env) ≡ source.Place p → coll ≡ p.coll
place_coll env p coll indices s =
    let e : place_of coll indices env ≡ p = cc in
    sym (coll_at coll (map (value_or_zero env) indices)) ∙ ap (λ (q : Place). q.coll) e

-- the flow and the collection that a data flow of a task of a consistent job takes its tile from
module _ (P : Plan) (con : IsConsistent P) (t : Task) (job : IsTask P t) (n : ℕ) (f : FlowPlan)
    (here : slice_get (flows_of P t) n ≡ Some f) (carries : is_data (Some f.kind) ≡ true) where
  same_datatype : (x : Target) → IsHeld (locals_of P t) f.ins x → has_datatype P.classes P.colls f.datatype x ≡ true
  same_datatype x held = (and_parts _ _ (and_parts _ _ (passes_source P t job (con.connected t job).well n f here carries x held)).0).1

  in_target : (x : Target) → IsHeld (locals_of P t) f.ins x → is_in_target P.classes f.kind x ≡ true
  in_target x held = (and_parts _ _ (passes_source P t job (con.connected t job).well n f here carries x held)).1

  flow_of_edge : (e : Edge) (x : Target) → IsHeld (locals_of P t) f.ins x
      → source_at t (locals_of P t) n x ≡ source.Task e → IsSourceFlow P e.from.class e.out_flow f.datatype
  flow_of_edge e (target.Task class flow args) held s =
      let same : edge (task class (map (single_value (locals_of P t)) args)) flow t n ≡ e = cc in
      subst (λ (d : Edge). IsSourceFlow P d.from.class d.out_flow f.datatype) same
      (source_flow P class flow f.datatype (flow_of P.classes class flow) refl
      (same_datatype (target.Task class flow args) held)
      (reads P f.kind class flow args carries (in_target (target.Task class flow args) held)))
  flow_of_edge e (target.Element coll indices) held s = absurd cc
  flow_of_edge e target.New held s = absurd cc
  flow_of_edge e target.Null held s = absurd cc

  -- the flow that the source edge comes from
  pub from_flow : (e : Edge) → data_source P t n ≡ source.Task e → IsSourceFlow P e.from.class e.out_flow f.datatype
  from_flow e s = elim (source_target P t job (con.connected t job).well n f here carries (source.Task e) s) [
    | inl nothing ↦ absurd cc
    | inr p ↦ flow_of_edge e p.0 p.1 p.2
  ]

  coll_of_place : (p : Place) (x : Target) → IsHeld (locals_of P t) f.ins x
      → source_at t (locals_of P t) n x ≡ source.Place p → option_map_or (λ (s : Shape). eqb s.datatype f.datatype)
      (slice_get P.colls p.coll) false ≡ true
  coll_of_place p (target.Task class flow args) held s = absurd cc
  coll_of_place p (target.Element coll indices) held s = subst
      (λ k. option_map_or (λ (s : Shape). eqb s.datatype f.datatype) (slice_get P.colls k) false ≡ true)
      (place_coll (locals_of P t) p coll indices s) (same_datatype (target.Element coll indices) held)
  coll_of_place p target.New held s = absurd cc
  coll_of_place p target.Null held s = absurd cc

  -- the collection of the source has the type of the flow
  pub coll_type : (p : Place) → data_source P t n ≡ source.Place p
      → option_map_or (λ (s : Shape). eqb s.datatype f.datatype) (slice_get P.colls p.coll) false ≡ true
  coll_type p s = elim (source_target P t job (con.connected t job).well n f here carries (source.Place p) s) [
    | inl nothing ↦ absurd cc
    | inr q ↦ coll_of_place p q.0 q.1 q.2
  ]

tile_size : (elements : List ℕ) (c : Coll) → IsWellColl elements c → (index : Option ℕ) (tile : List ℤ)
    → option_and_then (slice_get c.tiles) index ≡ Some tile → length tile ≡ slice_index elements c.datatype
tile_size elements c well None tile e = absurd cc
tile_size elements c well (Some k) tile e = each_at (λ (tile : List ℤ). length tile ≡ slice_index elements c.datatype) c.tiles k tile well.tile_lengths e

-- a place of the plan has a tile of the size of its collection's type
place_size : (P : Plan) (G : Data) → DataFit P G → IsWellMade G → (p : Place) (datatype : ℕ) → HasPlace P.colls p
    → option_map_or (λ (s : Shape). eqb s.datatype datatype) (slice_get P.colls p.coll) false ≡ true →
    option_map length (tile_at G.colls p) ≡ Some (slice_index P.elems datatype)
place_size P G fit well p datatype exists type =
    let c = from_is_some_and (slice_get G.colls p.coll) _ ((same_places P G p fit).0 exists) in
    let its_type : option_map_or (λ (s : Shape). eqb s.datatype datatype) (option_map shape_of (slice_get G.colls p.coll)) false ≡ true =
    subst (λ o. option_map_or (λ (s : Shape). eqb s.datatype datatype) o false ≡ true)
    (ap (λ cs. slice_get cs p.coll) (sym fit.collections) ∙ slice_get-map shape_of G.colls p.coll) type in
    let same : c.0.datatype ≡ datatype = eqb-true c.0.datatype datatype
    (subst (λ o. option_map_or (λ (s : Shape). eqb s.datatype datatype) (option_map shape_of o) false ≡ true) c.1
    its_type) in
    let w : IsWellColl (elements_by_type G) c.0 = each_at (IsWellColl (elements_by_type G)) G.colls p.coll c.0 well.colls c.1 in
    let index = tile_index c.0.shape.0 c.0.shape.1 p.i p.j in
    let tile = some_value (option_and_then (slice_get c.0.tiles) index) ((tile_exists c.0.shape.0 c.0.shape.1 p.i p.j c.0.tiles w.whole.all_tiles).1 c.2) in
    let long : length tile.0 ≡ slice_index P.elems datatype =
    tile_size (elements_by_type G) c.0 w index tile.0 tile.1 ∙ ap (λ k. slice_index (elements_by_type G) k) same
    ∙ ap (λ es. slice_index es datatype) fit.elements in
    ap (λ o. option_map length (option_and_then (λ (b : Coll). option_and_then (slice_get b.tiles) (tile_index b.shape.0 b.shape.1 p.i p.j)) o)) c.1
    ∙ ap (λ o. option_map length o) tile.1 ∙ ap (λ k. Some k) long

-- the tiles that a task leaves have the shape of those that it starts on
pub ended_shape : (P : Plan) (G : Data) (d : Delivery) (t : Task) (tiles : List (Option (List ℤ))) → IsTask P t
    → ended_on P G d t ≡ Some (Ok tiles) → HasShape (starting_tiles P G d t) tiles
unfolding ended_on
ended_shape P G d t tiles job e =
    let h = class_of P t job in
    let start = starting_tiles P G d t in
    body_shape h.class.body (locals_of P t) start tiles (same_Some _ _
    (ap (λ o. option_map (λ (c : ClassPlan). body_meaning c.body (locals_of P t) start) o) (sym h.class_is) ∙ e))

module _ (P : Plan) (G : Data) (con : IsConsistent P) (fit : DataFit P G) (well : IsWellMade G) where
  -- what rounds have found so far has the sizes that it should
  abbrev AreSized : (Task → Option Ended) → Type 0
  AreSized before = (t : Task) → IsTask P t → (tiles : List (Option (List ℤ))) → before t ≡ Some (Ok tiles)
      → (k : ℕ) (f : FlowPlan) → slice_get (flows_of P t) k ≡ Some f → size_of tiles k ≡ flow_size P t k f

  module _ (before : Task → Option Ended) (sized : AreSized before) (t : Task) (job : IsTask P t) (k : ℕ) (f : FlowPlan)
      (here : slice_get (flows_of P t) k ≡ Some f) (carries : is_data (Some f.kind) ≡ true) where
    edge_size : (e : Edge) → data_source P t k ≡ source.Task e → has_outputs (before e.from) ≡ true
        → option_map length (source_tile before e) ≡ Some (slice_index P.elems f.datatype)
    edge_size e s outs =
        let among = source_in P t job (con.connected t job).well k f here carries e s in
        let from = source_is_task P con t job e among in
        let g = from_flow P con t job k f here carries e s in
        let at : slice_get (flows_of P e.from) e.out_flow ≡ Some g.flow = flow_is P e.from e.out_flow ∙ g.is in
        let o = with_tiles (before e.from) outs in
        let size = sized e.from from o.0 o.1 e.out_flow g.flow at in
        let never : data_source P e.from e.out_flow ≢ source.Null = λ null.
        (con.connected e.from from).absent_sends_nothing e.out_flow (item.Edge e) null
        (in_edge_item P con t job e among) refl in
        ap (λ r. option_map length (output_tile r e.out_flow)) o.1 ∙ size
        ∙ ap (λ b. cond b (size_from P g.flow (data_source P e.from e.out_flow)) None) g.carries
        ∙ not_null P g.flow (data_source P e.from e.out_flow) never
        ∙ ap (λ d. Some (slice_index P.elems d)) g.same_type

    unsourced_size : (kind : FlowKind) → is_data (Some kind) ≡ true → (kind ≢ Read) → (kind ≢ Rw)
        → option_map length (unsourced_tile kind (new_tile P f)) ≡ Some (slice_index P.elems f.datatype)
    unsourced_size Read d r w = absurd (r refl)
    unsourced_size Write d r w = ap (λ m. Some m) (length-zeros (slice_index P.elems f.datatype))
    unsourced_size Rw d r w = absurd (w refl)
    unsourced_size Ctl d r w = absurd (false≢true d)

    by_source : (s : Source) → data_source P t k ≡ s → ((e : Edge) → s ≡ source.Task e
        → has_outputs (before e.from) ≡ true) → option_map length (tile_from P G (source_tile before) f s)
        ≡ size_from P f s
    by_source (source.Task e) is outs = edge_size e is (outs e refl)
    by_source (source.Place p) is outs = place_size P G fit well p f.datatype
        ((con.connected t job).sources_exist k p is) (coll_type P con t job k f here carries p is)
    by_source source.New is outs = ap (λ m. Some m) (length-zeros (slice_index P.elems f.datatype))
    by_source source.Null is outs = refl
    by_source source.Nothing is outs =
        let never = (con.connected t job).inputs k f here in
        unsourced_size f.kind carries (λ r. absurd (never (ap takes_tile r) is)) (λ w. absurd (never (ap takes_tile w) is))

  start_size : (before : Task → Option Ended) → AreSized before → (t : Task) → IsTask P t
      → ((e : Edge) → IsIn e (in_edges P t) → has_outputs (before e.from) ≡ true) → (k : ℕ) (f : FlowPlan)
      → slice_get (flows_of P t) k ≡ Some f →
      option_map length (starting_tile P G (source_tile before) t k f) ≡ flow_size P t k f
  start_size before sized t job outs k f here = by (is_data (Some f.kind)) refl
    where
      by : (b : Bool) → is_data (Some f.kind) ≡ b → option_map length
          (cond b (tile_from P G (source_tile before) f (data_source P t k)) None)
          ≡ cond b (size_from P f (data_source P t k)) None
      by true carries = by_source before sized t job k f here carries (data_source P t k) refl
          (λ e is. outs e (source_in P t job (con.connected t job).well k f here carries e is))
      by false carries = refl

  round_sized : (n : ℕ) → AreSized (ended_within P G n)
  unfolding ended_within starting_tiles
  round_sized zero t job tiles e k f here = absurd cc
  round_sized (suc n) t job tiles e k f here =
      let all = has_sources P G con t job (ended_within P G n) (Ok tiles) e in
      let on : ended_on P G (source_tile (ended_within P G n)) t ≡ Some (Ok tiles) = ap
      (λ b. cond b (ended_on P G (source_tile (ended_within P G n)) t) None) (sym all) ∙ e in
      let shape = ended_shape P G (source_tile (ended_within P G n)) t tiles job on in
      let start : get_or (tiles_from P G (source_tile (ended_within P G n)) t 0 (flows_of P t)) k None
      ≡ starting_tile P G (source_tile (ended_within P G n)) t k f =
      start_at P G (source_tile (ended_within P G n)) t 0 (flows_of P t) k f here
      ∙ ap (λ m. starting_tile P G (source_tile (ended_within P G n)) t m f) (omega arith) in
      shape.sizes k ∙ ap (λ o. option_map length o) start
      ∙ start_size (ended_within P G n) (round_sized n) t job
      (λ d i. member_passes (λ (d : Edge). has_outputs (ended_within P G n d.from)) (in_edges P t) all d i) k f here

  -- the tiles that a task leaves have the sizes of its flows
  pub ended_sized : AreSized (ended P G)
  unfolding ended
  ended_sized = round_sized (length (all_tasks P))

  -- the tiles are as many as the task has flows
  pub ended_places : (t : Task) → IsTask P t → (tiles : List (Option (List ℤ))) → ended P G t ≡ Some (Ok tiles) → length tiles ≡ length (flows_of P t)
  ended_places t job tiles e =
      let f = sym (fixed P G con t job) ∙ e in
      let all = has_sources P G con t job (ended P G) (Ok tiles) f in
      let on : ended_on P G (source_tile (ended P G)) t ≡ Some (Ok tiles) = ap (λ b. cond b (ended_on P G (source_tile (ended P G)) t) None) (sym all) ∙ f in
      (ended_shape P G (source_tile (ended P G)) t tiles job on).places ∙ length-starting_tiles P G (source_tile (ended P G)) t

  -- each item of a data flow has a tile
  pub item_sized : (t : Task) → IsTask P t → has_outputs (ended P G t) ≡ true → (i : Item) → IsIn i (items P t)
      → (f : FlowPlan) → slice_get (flows_of P t) (item_flow i) ≡ Some f → is_data (Some f.kind) ≡ true →
      option_map length (output_tile (ended P G t) (item_flow i)) ≡ Some (slice_index P.elems f.datatype)
  item_sized t job outs i among f here carries =
      let o = with_tiles (ended P G t) outs in
      let never : data_source P t (item_flow i) ≢ source.Null = λ null. (con.connected t job).absent_sends_nothing (item_flow i) i null among refl in
      ap (λ r. option_map length (output_tile r (item_flow i))) o.1 ∙ ended_sized t job o.0 o.1 (item_flow i) f here
      ∙ ap (λ b. cond b (size_from P f (data_source P t (item_flow i))) None) carries
      ∙ not_null P f (data_source P t (item_flow i)) never
