-- The flow from which an item is sent; a tile comes only to a data flow.
use Rattle.std.proofs.Common.{◌≡◌, ℕ, true, false, List, refl, ap, sym, ◌∙◌, subst, Option, Some, None, slice_get, IsSomeAnd, ℤ}
use Rattle.std.proofs.lemmas.Bool.{false≢true, and_parts}
use Rattle.std.specs.Prelude.{flat_map}
use Rattle.ptg_base.specs.Lists.{IsIn}
use Rattle.ptg_base.specs.Task.{Task}
use Rattle.ptg_base.specs.declared.edge.Edge.{Edge}
use Rattle.term_core.specs.declared.flow.FlowKind.{FlowKind}
use Rattle.term_core.specs.declared.flow.FlowKind.TheVariants.{Read, Write, Rw, Ctl}
use Rattle.list_lemmas.proofs.Members.{from_flat_map}
use Rattle.plan_core.specs.declared.flow.FlowPlan.{FlowPlan}
use Rattle.plan_core.specs.declared.plan.Plan.{Plan}
use Rattle.plan_core.specs.declared.target.Target.{Target}
use Rattle.plan_core.specs.declared.target.Target.TheVariants as target
use Rattle.plan_core.specs.Flows.{is_out_target}
use Rattle.plan_core.specs.Kinds.{flow_of, is_control, is_data, kind_of}
use Rattle.plan_core.specs.Targets.{has_datatype}
use Rattle.dep_iter.specs.declared.link.Link.{Link}
use Rattle.dep_iter.specs.Active.{flow_outs}
use Rattle.dep_iter.specs.Arguments.{combinations}
use Rattle.dep_iter.specs.Items.{out_edges}
use Rattle.dep_iter.specs.Links.{links_to}
use Rattle.dep_iter.specs.Tasks.{IsTask, flows_of, locals_of}
use Rattle.dep_iter.proofs.CallerLemmas.{from_links, link_out, out_edge_is}
use Rattle.flow_meaning.proofs.CallerLemmas.{destination}
use Rattle.shard_meaning.specs.Reserve.{has_type}
pub use Rattle.flow_meaning.proofs.CallerLemmas.{flow_is, writing_flow as writes_from}

module _ (P : Plan) (t : Task) (job : IsTask P t) (n : ℕ) (g : FlowPlan) (here : slice_get (flows_of P t) n ≡ Some g) where
  may_be : (x : Target) → IsIn x (flow_outs (locals_of P t) g) → is_out_target P.classes g.kind x ≡ true
  may_be x i = (and_parts _ _ (destination P t job n g here x i)).1

  same_type : (x : Target) → IsIn x (flow_outs (locals_of P t) g) → has_datatype P.classes P.colls g.datatype x ≡ true
  same_type x i = (and_parts _ _ (and_parts _ _ (destination P t job n g here x i)).0).1

-- a link out of a flow with a tile leads to a flow with a tile, and any other link to a flow without
data_target : (P : Plan) (k : FlowKind) (x : Target) → is_out_target P.classes k x ≡ true
    → (l : Link) (env : List ℤ) (n : ℕ) → IsIn l (links_to env n x)
    → is_data (kind_of P.classes l.far.class l.far_flow) ≡ is_data (Some k)
data_target P k (target.Task c m args) h l env n i =
    let p = from_links n c m (combinations args env) l i in
    ap (λ (z : ℕ). is_data (kind_of P.classes z l.far_flow)) p.0 ∙ (ap (λ (z : ℕ). is_data (kind_of P.classes c z)) p.1 ∙ by k h)
  where
    no_data : (o : Option FlowKind) → is_control o ≡ true → is_data o ≡ false
    no_data None h = refl
    no_data (Some Read) h = absurd (false≢true h)
    no_data (Some Write) h = absurd (false≢true h)
    no_data (Some Rw) h = absurd (false≢true h)
    no_data (Some Ctl) h = refl

    by : (k : FlowKind) → is_out_target P.classes k (target.Task c m args) ≡ true → is_data (kind_of P.classes c m) ≡ is_data (Some k)
    by Read h = h
    by Write h = h
    by Rw h = h
    by Ctl h = no_data (kind_of P.classes c m) h
data_target P k (target.Element coll indices) h l env n i = absurd i
data_target P k target.New h l env n i = absurd i
data_target P k target.Null h l env n i = absurd i

-- and to one of its type
typed_target : (P : Plan) (d : ℕ) (x : Target) → has_datatype P.classes P.colls d x ≡ true
    → (l : Link) (env : List ℤ) (n : ℕ) → IsIn l (links_to env n x)
    → has_type d (flow_of P.classes l.far.class l.far_flow) ≡ true
typed_target P d (target.Task c m args) h l env n i =
    let p = from_links n c m (combinations args env) l i in
    ap (λ (z : ℕ). has_type d (flow_of P.classes z l.far_flow)) p.0 ∙ (ap (λ (z : ℕ). has_type d (flow_of P.classes c z)) p.1 ∙ h)
typed_target P d (target.Element coll indices) h l env n i = absurd i
typed_target P d target.New h l env n i = absurd i
typed_target P d target.Null h l env n i = absurd i

-- the flow that an edge comes from: it has a tile if and only if the flow that the edge goes to has one, and it has
-- that flow's type
pub record SendsTo (P : Plan) (e : Edge) : Type 0 where
  pub flow : FlowPlan
  pub here : slice_get (flows_of P e.from) e.out_flow ≡ Some flow
  pub same_kind : is_data (kind_of P.classes e.to.class e.in_flow) ≡ is_data (Some flow.kind)
  pub same_type : has_type flow.datatype (flow_of P.classes e.to.class e.in_flow) ≡ true

pub sends_to : (P : Plan) (t : Task) → IsTask P t → (e : Edge) → IsIn e (out_edges P t) → SendsTo P e
sends_to P t job e among =
    let p = (out_edge_is P t e).0 among in
    by (slice_get (flows_of P t) e.out_flow) refl p.0 p.1
  where
    by : (o : Option FlowPlan) → slice_get (flows_of P t) e.out_flow ≡ o → e.from ≡ t
        → IsSomeAnd o (λ f. IsIn (link_out e) (flat_map (links_to (locals_of P t) e.out_flow)
        (flow_outs (locals_of P t) f))) → SendsTo P e
    by None is from h = absurd h
    by (Some g) is from h =
        let q = from_flat_map (links_to (locals_of P t) e.out_flow) (flow_outs (locals_of P t) g) (link_out e) h in
        record {
          flow = g;
          here = subst (λ s. slice_get (flows_of P s) e.out_flow ≡ Some g) (sym from) is;
          same_kind = data_target P g.kind q.0 (may_be P t job e.out_flow g is q.0 q.1) (link_out e) (locals_of P t) e.out_flow q.2;
          same_type = typed_target P g.datatype q.0 (same_type P t job e.out_flow g is q.0 q.1) (link_out e) (locals_of P t) e.out_flow q.2;
        }
