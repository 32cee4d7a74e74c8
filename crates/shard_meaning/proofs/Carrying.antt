-- What an item carries: a tile if its flow is a data flow, and otherwise none.
use Rattle.std.proofs.Common.{◌≡◌, ◌⊎◌, ℕ, zero, suc, ℤ, true, false, cond, List, [], ◌∷◌, length, get_or, refl, ap}
use Rattle.std.proofs.Common.{◌∙◌, Option, Some, None, slice_get, Ok, Err, inl, inr}
use Rattle.std.proofs.lemmas.Bool.{false≢true}
use Rattle.std.specs.Prelude.{option_map}
use Rattle.ptg_base.specs.Lists.{IsIn}
use Rattle.ptg_base.specs.Task.{Task}
use Rattle.ptg_base.specs.declared.edge.Edge.{Edge}
use Rattle.ptg_base.specs.declared.edge.Item.TheVariants as item
use Rattle.list_lemmas.proofs.Truth.{by_test}
use Rattle.list_lemmas.proofs.Options.{none_from_option_map}
use Rattle.plan_core.specs.declared.flow.FlowPlan.{FlowPlan}
use Rattle.plan_core.specs.declared.plan.Plan.{Plan}
use Rattle.plan_core.specs.Kinds.{flow_of, is_data}
use Rattle.coll_data.specs.Data.{Data}
use Rattle.dep_iter.specs.Edges.{data_source}
use Rattle.dep_iter.specs.Items.{items}
use Rattle.dep_iter.specs.Tasks.{IsTask, flows_of}
use Rattle.dep_iter.proofs.CallerLemmas.{item_edge}
use Rattle.flow_meaning.specs.Ending.{Ended, ended_on, output_tile}
use Rattle.flow_meaning.specs.Machine.{MachineState, end_in}
use Rattle.flow_meaning.specs.Starting.{Delivery, starting_tiles, tile_from, tiles_from}
use Rattle.flow_meaning.proofs.CallerLemmas.{ended_shape, flow_is}
use Rattle.shard_meaning.proofs.Destinations.{sends_to}

-- the tile that an edge carries
abbrev pub edge_tile : Plan → Data → MachineState → Edge → Option (List ℤ)
edge_tile P G S e = output_tile (end_in P G S e.from) e.out_flow

-- an edge carries no tile, or one for a data flow of its target
abbrev pub Carries : Plan → Data → MachineState → Edge → Type 0
Carries P G S e = (edge_tile P G S e ≡ None) ⊎ ((x : List ℤ) × (f : FlowPlan) × (edge_tile P G S e ≡ Some x)
    × (slice_get (flows_of P e.to) e.in_flow ≡ Some f) × (is_data (Some f.kind) ≡ true))

-- a CTL flow starts without a tile
no_start : (P : Plan) (G : Data) (d : Delivery) (t : Task) (n : ℕ) (fs : List FlowPlan) (k : ℕ) (g : FlowPlan)
    → slice_get fs k ≡ Some g → is_data (Some g.kind) ≡ false → get_or (tiles_from P G d t n fs) k None ≡ None
no_start P G d t n [] k g e ctl = absurd cc
no_start P G d t n (f ∷ fs) zero g e ctl =
    let same : f ≡ g = cc in
    ap (λ b. cond b (tile_from P G d f (data_source P t n)) None) (ap (λ (h : FlowPlan). is_data (Some h.kind)) same ∙ ctl)
no_start P G d t n (f ∷ fs) (suc k) g e ctl = no_start P G d t (suc n) fs k g e ctl

-- and a task leaves none in it
pub no_output : (P : Plan) (G : Data) (d : Delivery) (t : Task) → IsTask P t → (k : ℕ) (g : FlowPlan)
    → slice_get (flows_of P t) k ≡ Some g → is_data (Some g.kind) ≡ false → (o : Option Ended) → ended_on P G d t ≡ o
    → output_tile o k ≡ None
unfolding starting_tiles
no_output P G d t job k g here ctl None is = refl
no_output P G d t job k g here ctl (Some (Err cause)) is = refl
no_output P G d t job k g here ctl (Some (Ok tiles)) is =
    let start : get_or (tiles_from P G d t 0 (flows_of P t)) k None ≡ None = no_start P G d t 0 (flows_of P t) k g here ctl in
    none_from_option_map length _ ((ended_shape P G d t tiles job is).sizes k ∙ ap (λ o. option_map length o) start)

-- an edge that may be sent carries a tile only to a data flow
pub carries : (P : Plan) (G : Data) (S : MachineState) (e : Edge) → IsTask P e.from → IsIn (item.Edge e) (items P e.from) → Carries P G S e
carries P G S e job among =
    let to = sends_to P e.from job e (item_edge (items P e.from) e among) in
    by_test (is_data (Some to.flow.kind))
    (λ d. to_flow (flow_of P.classes e.to.class e.in_flow) (flow_is P e.to e.in_flow) (to.same_kind ∙ d) (edge_tile P G S e) refl)
    (λ ctl. inl (none e.from job e.out_flow to.flow to.here ctl))
  where
    to_flow : (o : Option FlowPlan) → slice_get (flows_of P e.to) e.in_flow ≡ o
        → is_data (option_map (λ (f : FlowPlan). f.kind) o) ≡ true → (x : Option (List ℤ)) → edge_tile P G S e ≡ x
        → Carries P G S e
    to_flow None is d x e = absurd (false≢true d)
    to_flow (Some f) is d None e = inl e
    to_flow (Some f) is d (Some x) e = inr (x, f, e, is, d)

    none : (t : Task) → IsTask P t → (k : ℕ) (g : FlowPlan) → slice_get (flows_of P t) k ≡ Some g
        → is_data (Some g.kind) ≡ false → output_tile (end_in P G S t) k ≡ None
    none t job k g here ctl = no_output P G _ t job k g here ctl (end_in P G S t) refl
