-- The tile of an item is of the type of the flow that it comes to, or that it is written from.
use Rattle.std.proofs.Common.{◌≡◌, ℕ, ℤ, true, false, List, length, refl, ap, sym, ◌∙◌, subst, Option, Some, None}
use Rattle.std.specs.Prelude.{option_map}
use Rattle.std.proofs.lemmas.Bool.{eqb-true, false≢true}
use Rattle.ptg_base.specs.declared.edge.Edge.{Edge}
use Rattle.ptg_base.specs.declared.edge.WriteBack.{WriteBack}
use Rattle.ptg_base.specs.declared.edge.Item.TheVariants as item
use Rattle.plan_core.specs.declared.flow.FlowPlan.{FlowPlan}
use Rattle.plan_core.specs.declared.plan.Plan.{Plan}
use Rattle.plan_core.specs.Kinds.{flow_of, is_data}
use Rattle.coll_data.specs.Data.{Data}
use Rattle.coll_data.specs.WellMade.{IsWellMade}
use Rattle.plan_data.specs.Fit.{DataFit}
use Rattle.dep_iter.specs.Consistent.{IsConsistent}
use Rattle.dep_iter.specs.Items.{items}
use Rattle.dep_iter.specs.Tasks.{IsTask}
use Rattle.dep_iter.proofs.CallerLemmas.{item_edge}
use Rattle.dep_shard.specs.Content.{IsTileOf}
use Rattle.flow_meaning.specs.Backward.{ended}
use Rattle.flow_meaning.specs.Ending.{has_outputs, output_tile}
use Rattle.flow_meaning.specs.Machine.{MachineState, MaySend, end_in}
use Rattle.flow_meaning.specs.Sound.{IsSoundState}
use Rattle.flow_meaning.proofs.CallerLemmas.{ends_so, flow_is, item_sized, known_datatype, writing_flow}
use Rattle.shard_meaning.specs.Reserve.{has_type}
use Rattle.shard_meaning.proofs.Carrying.{no_output}
use Rattle.shard_meaning.proofs.Destinations.{SendsTo, sends_to}

-- a tile with a size is there
sized : (o : Option (List ℤ)) (n : ℕ) → option_map length o ≡ Some n → (x : List ℤ) × (o ≡ Some x) × (length x ≡ n)
sized None n h = absurd cc
sized (Some x) n h = (x, refl, cc)

some_flow : (d : ℕ) (o : Option FlowPlan) → has_type d o ≡ true → (f : FlowPlan) × (o ≡ Some f) × (f.datatype ≡ d)
some_flow d None h = absurd (false≢true h)
some_flow d (Some f) h = (f, refl, eqb-true f.datatype d h)

module _ (P : Plan) (G : Data) (con : IsConsistent P) (S : MachineState) (sound : IsSoundState P G S) where
  module _ (e : Edge) (may : MaySend P G S (item.Edge e)) where
    job : IsTask P e.from
    job = (sound.claimed_have_all e.from may.claimed).task

    so : ended P G e.from ≡ end_in P G S e.from
    so = ends_so P G con S sound e.from (sound.claimed_have_all e.from may.claimed)

    to : SendsTo P e
    to = sends_to P e.from job e (item_edge (items P e.from) e may.is_item)

    -- the flow that an edge goes to
    pub edge_flow : (f : FlowPlan) × (flow_of P.classes e.to.class e.in_flow ≡ Some f)
    edge_flow = let p = some_flow to.flow.datatype (flow_of P.classes e.to.class e.in_flow) to.same_type in (p.0, p.1)

    kinds : (f : FlowPlan) → flow_of P.classes e.to.class e.in_flow ≡ Some f → is_data (Some f.kind) ≡ is_data (Some to.flow.kind)
    kinds f is = ap (λ o. is_data (option_map (λ (g : FlowPlan). g.kind) o)) (sym is) ∙ to.same_kind

    types : (f : FlowPlan) → flow_of P.classes e.to.class e.in_flow ≡ Some f → f.datatype ≡ to.flow.datatype
    types f is = eqb-true f.datatype to.flow.datatype (subst (λ o. has_type to.flow.datatype o ≡ true) is to.same_type)

    -- an edge to a CTL flow carries no tile
    pub edge_empty : (f : FlowPlan) → flow_of P.classes e.to.class e.in_flow ≡ Some f → is_data (Some f.kind) ≡ false
        → output_tile (ended P G e.from) e.out_flow ≡ None
    edge_empty f is ctl = ap (λ o. output_tile o e.out_flow) so
        ∙ no_output P G _ e.from job e.out_flow to.flow to.here (sym (kinds f is) ∙ ctl) (end_in P G S e.from) refl

    -- and one to a data flow a tile of its type
    pub edge_typed : DataFit P G → IsWellMade G → (f : FlowPlan) → flow_of P.classes e.to.class e.in_flow ≡ Some f
        → is_data (Some f.kind) ≡ true → (x : List ℤ) × (output_tile (ended P G e.from) e.out_flow ≡ Some x)
        × IsTileOf P.elems f.datatype x
    edge_typed fit well f is data_flow =
        let d : is_data (Some to.flow.kind) ≡ true = sym (kinds f is) ∙ data_flow in
        let p = sized _ _ (item_sized P G con fit well e.from job (ap has_outputs so ∙ may.outputs) (item.Edge e) may.is_item to.flow to.here d) in (
          p.0,
          p.1,
          subst (λ n. IsTileOf P.elems n p.0) (sym (types f is))
              (record { known = known_datatype P e.from e.out_flow to.flow job to.here; fits = p.2 }),
        )

  -- a write-back has a tile of the type of its flow
  pub write_typed : (w : WriteBack) → MaySend P G S (item.Write w) → DataFit P G → IsWellMade G
      → (f : FlowPlan) × (x : List ℤ) × (flow_of P.classes w.from.class w.flow ≡ Some f)
      × (output_tile (ended P G w.from) w.flow ≡ Some x) × IsTileOf P.elems f.datatype x
  write_typed w may fit well =
      let fed = sound.claimed_have_all w.from may.claimed in
      let from = writing_flow P w.from fed.task w may.is_item in
      let p = sized _ _ (item_sized P G con fit well w.from fed.task
      (ap has_outputs (ends_so P G con S sound w.from fed) ∙ may.outputs) (item.Write w) may.is_item from.flow
      from.here from.carries) in (
        from.flow,
        p.0,
        sym (flow_is P w.from w.flow) ∙ from.here,
        p.1,
        record { known = known_datatype P w.from w.flow from.flow fed.task from.here; fits = p.2 },
      )
