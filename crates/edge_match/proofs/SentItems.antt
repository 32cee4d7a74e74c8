-- What is sent, one item after another.
use Rattle.std.proofs.Common.{◌≡◌, ◌+◌, List, [], ◌∷◌, ◌++◌, length, length-append, map, refl, ap, sym, ◌∙◌}
use Rattle.std.proofs.Common.{subst, append_assoc, inl, inr, arith}
use Rattle.std.proofs.lemmas.List.{append-nil, map-append, nil_from_length}
use Rattle.std.proofs.lemmas.List.Elements.{filter_map-append}
use Rattle.std.specs.List.{filter_map}
use Rattle.std.proofs.Math.Seq.{take-length}
use Rattle.ptg_base.specs.Lists.{IsIn}
use Rattle.ptg_base.specs.Task.{Task}
use Rattle.ptg_base.specs.declared.edge.Edge.{Edge}
use Rattle.ptg_base.specs.declared.edge.Item.{Item}
use Rattle.ptg_base.specs.declared.edge.Item.TheVariants as item
use Rattle.ptg_base.specs.declared.edge.WriteBack.{WriteBack}
use Rattle.term_core.specs.declared.direction.Direction.TheVariants.{Out}
use Rattle.plan_core.specs.declared.flow.FlowPlan.{FlowPlan}
use Rattle.plan_core.specs.declared.plan.Plan.{Plan}
use Rattle.plan_core.specs.declared.shape.Shape.{Shape}
use Rattle.list_lemmas.proofs.Members.{from_append}
use Rattle.dep_iter.specs.Directions.{IsNearFlow, edges_before}
use Rattle.dep_iter.specs.Items.{edge_of, out_edges, write_of}
use Rattle.dep_iter.proofs.CallerLemmas.{IsGiven, before-by, edge-by}
use Rattle.edge_match.specs.declared.outs.Outs.{Outs}
use Rattle.edge_match.specs.Tallies.{AreSent, IsOnceIn, places_of}
use Rattle.edge_match.proofs.TaskFlows.{length-items}

-- the edges of a list of edges that was made into items
pub edges_only : (es : List Edge) → filter_map edge_of (map item.Edge es) ≡ es
edges_only [] = refl
edges_only (e ∷ es) = ap (λ l. e ∷ l) (edges_only es)

no_writes : (es : List Edge) → filter_map write_of (map item.Edge es) ≡ []
no_writes [] = refl
no_writes (e ∷ es) = no_writes es

module _ (colls : List Shape) where
  pub sent_nil : (s : Outs) → AreSent colls s s []
  sent_nil s = record { edges = omega arith; writes = omega arith; exist = λ p h. absurd h; added = λ ps k. rw append-nil k }

  pub sent_edges : (s u : Outs) (es : List Edge) → u.edges ≡ s.edges + length es → u.writes ≡ s.writes → u.written ≡ s.written
      → AreSent colls s u (map item.Edge es)
  sent_edges s u es edges writes written =
      let l = ap length (edges_only es) in
      let none = no_writes es in
      let n = ap length none in
      record {
        edges = omega arith;
        writes = omega arith;
        exist = λ p h. absurd (rw none at h);
        added = λ ps k. rw (none, append-nil ps, written) k;
      }

  pub sent_append : (s u v : Outs) (xs ys : List Item) → AreSent colls s u xs → AreSent colls u v ys → AreSent colls s v (xs ++ ys)
  sent_append s u v xs ys a b =
      let place = λ (w : WriteBack). w.place in
      let es = ap length (filter_map-append edge_of xs ys) ∙ length-append (filter_map edge_of xs) (filter_map edge_of ys) in
      let ws = ap length (filter_map-append write_of xs ys) ∙ length-append (filter_map write_of xs) (filter_map write_of ys) in
      let both : places_of (xs ++ ys) ≡ places_of xs ++ places_of ys =
      ap (map place) (filter_map-append write_of xs ys) ∙ map-append place (filter_map write_of xs) (filter_map write_of ys) in
      let e = a.edges in
      let f = b.edges in
      let g = a.writes in
      let h = b.writes in
      record {
        edges = omega arith;
        writes = omega arith;
        exist = λ p k. elim (from_append p (places_of xs) (places_of ys) (rw both at k)) [ inl i ↦ a.exist p i | inr i ↦ b.exist p i ];
        added = λ ps k.
            subst (IsOnceIn colls v.written) (append_assoc ps (places_of xs) (places_of ys) ∙ ap (λ l. ps ++ l) (sym both))
            (b.added (ps ++ places_of xs) (a.added ps k));
      }

  -- if the count of items did not grow, there are none
  pub sent_nothing : (s u : Outs) (is : List Item) → AreSent colls s u is → u.edges + u.writes ≡ s.edges + s.writes → is ≡ []
  sent_nothing s u is a same =
      let e = a.edges in
      let w = a.writes in
      let l = length-items is in
      nil_from_length is (omega arith)

-- an edge from one of all out dependences of its flow is an edge out of the task
pub by_all_dependences : (P : Plan) (t : Task) (e : Edge) (f : FlowPlan) → IsNearFlow Out P t e f
    → IsIn e (edges_before Out P t e.out_flow (length f.outs)) → IsIn e (out_edges P t)
by_all_dependences P t e f near h =
    (edge-by Out P t e f near).1 (subst (IsGiven Out P t e f) (take-length f.outs) ((before-by P t e f (length f.outs) Out near).0 h))
