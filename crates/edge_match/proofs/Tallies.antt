-- How the counts grow by an edge, an item or a place.
use Rattle.std.proofs.Common.{◌≡◌, ◌↔◌, ◌+◌, Bool, List, [], ◌∷◌, ◌++◌, IsTrue, refl, ap, ◌∙◌, Some}
use Rattle.std.proofs.Common.{length-append, arith}
use Rattle.ptg_base.specs.Lists.{IsIn}
use Rattle.ptg_base.specs.declared.edge.Edge.{Edge}
use Rattle.ptg_base.specs.declared.place.Place.{Place}
use Rattle.term_core.specs.declared.direction.Direction.{Direction}
use Rattle.term_core.specs.declared.direction.Direction.TheVariants.{In, Out}
use Rattle.plan_core.specs.declared.plan.Plan.{Plan}
use Rattle.plan_core.specs.Kinds.{is_data, kind_of}
use Rattle.plan_core.specs.Place.{HasPlace}
use Rattle.dep_iter.specs.Consistent.{is_data_edge}
use Rattle.dep_iter.specs.Directions.{near_flow, near_task}
use Rattle.edge_match.specs.Sets.{IsSetOf}
use Rattle.edge_match.proofs.TakenEdges.{kind_of-here}
use Rattle.edge_match.specs.declared.counted.Counted.{Counted}
use Rattle.edge_match.specs.declared.fault.MatchCode.TheVariants as code
use Rattle.edge_match.specs.declared.flow_at.FlowAt.{FlowAt}
use Rattle.edge_match.specs.Counted.{Decides}
use Rattle.edge_match.specs.FirstFault.{code_of}
use Rattle.edge_match.specs.FlowParts.{plan_of, task_of}
use Rattle.edge_match.specs.Marks.{IsNewPlace, counts}

module _ (P : Plan) (s u : Counted) where
  -- a place, by what the set to which it is added returns
  pub one_more_place : (p : Place) → HasPlace P.colls p → u.ins ≡ s.ins → u.data_edges ≡ s.data_edges
      → u.items ≡ s.items → u.writes ≡ s.writes + 1 → (new : Bool)
      → ((ps : List Place) → HasPlace P.colls p → IsSetOf P.colls s.written ps → IsTrue new ↔ (IsIn p ps → ⊥))
      → ((ps : List Place) → HasPlace P.colls p → IsSetOf P.colls s.written ps → IsSetOf P.colls u.written (ps ++ p ∷ []))
      → Decides P s u new (IsNewPlace p)
  one_more_place p there ins edges items writes new fresh added = record {
    passes = λ b k. fresh b.places there k.written;
    counted = λ t b k.
        let l = length-append b.places (p ∷ []) in
        let m = k.writes in
        record {
          ins = ins ∙ k.ins;
          data_edges = edges ∙ k.data_edges;
          items = items ∙ k.items;
          writes = omega arith;
          written = added b.places there k.written;
        };
  }

-- an edge that is one too many has the same code in each direction
pub counts_code : (d : Direction) (e : Edge) → code_of (counts d e) ≡ code.TooManyEdges
counts_code In e = refl
counts_code Out e = refl

-- whether an edge into a flow carries a tile
pub is_data-here : (at : FlowAt) (e : Edge) (d : Direction) → near_task d e ≡ (task_of at) → near_flow d e ≡ at.number → d ≡ In
    → is_data_edge (plan_of at) e ≡ is_data (Some at.flow.now.kind)
is_data-here at e Out task flow h = absurd cc
is_data-here at e In task flow h =
    let here = kind_of-here (plan_of at) (task_of at) at.number at.flow.now at.here in
    let kind : kind_of (plan_of at).classes e.to.class e.in_flow ≡ Some at.flow.now.kind = rw (task, flow) here in
    ap is_data kind
