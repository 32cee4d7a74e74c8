-- The sizes of the tiles that the flows of a task read.
use Rattle.std.proofs.Common.{◌≡◌, ℕ, true, false, eqb, List, ap, ◌∙◌, Option, Some, None, slice_get, slice_index}
use Rattle.std.proofs.lemmas.Bool.{eqb-true, false≢true}
use Rattle.std.specs.Option.{option_map_or}
use Rattle.std.specs.Prelude.{IfSome}
use Rattle.ptg_base.specs.Task.{Task}
use Rattle.ptg_base.specs.declared.place.Place.{Place}
use Rattle.plan_core.specs.declared.flow.FlowPlan.{FlowPlan}
use Rattle.plan_core.specs.declared.plan.Plan.{Plan}
use Rattle.plan_core.specs.declared.shape.Shape.{Shape}
use Rattle.plan_core.specs.Kinds.{is_data}
use Rattle.dep_iter.specs.declared.source.Source.TheVariants as source
use Rattle.dep_iter.specs.Tasks.{IsTask, flows_of}
use Rattle.dep_iter.specs.Edges.{data_source}
use Rattle.dep_iter.specs.Consistent.{IsConsistent}
use Rattle.flow_meaning.proofs.CallerLemmas.{coll_type}
pub use Rattle.flow_meaning.proofs.CallerLemmas.{known_datatype as known}

-- a tile that a flow reads from a place is of the type of the flow
sized : (elems : List ℕ) (datatype size : ℕ) (o : Option Shape)
    → option_map_or (λ (s : Shape). eqb s.datatype datatype) o false ≡ true
    → IfSome o (λ (s : Shape). size ≡ slice_index elems s.datatype) → size ≡ slice_index elems datatype
sized elems datatype size None same h = absurd (false≢true same)
sized elems datatype size (Some s) same h = h ∙ ap (slice_index elems) (eqb-true s.datatype datatype same)

pub place_size : (P : Plan) (t : Task) (n : ℕ) (f : FlowPlan) (p : Place) (size : ℕ) → IsConsistent P → IsTask P t
    → slice_get (flows_of P t) n ≡ Some f → is_data (Some f.kind) ≡ true → data_source P t n ≡ source.Place p
    → IfSome (slice_get P.colls p.coll) (λ (s : Shape). size ≡ slice_index P.elems s.datatype)
    → size ≡ slice_index P.elems f.datatype
place_size P t n f p size con job here carries from h = sized P.elems f.datatype size (slice_get P.colls p.coll)
    (coll_type P con t job n f here carries p from) h
