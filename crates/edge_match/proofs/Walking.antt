-- The walk over tasks, one task after another.
use Rattle.std.proofs.Common.{◌≡◌, ℕ, suc, ℤ, List, [], ◌∷◌, ◌++◌, sym, subst, zero-add, Some, slice_get}
use Rattle.std.proofs.Common.{inl, inr}
use Rattle.std.proofs.lemmas.List.{append-nil}
use Rattle.std.proofs.lemmas.List.Concat.{flat_map-append}
use Rattle.std.specs.List.{flat_map}
use Rattle.ptg_base.specs.Task.{Task}
use Rattle.plan_core.specs.declared.flow.FlowPlan.{FlowPlan}
use Rattle.plan_core.specs.declared.plan.Plan.{Plan}
use Rattle.plan_core.specs.Place.{HasPlace}
use Rattle.list_lemmas.proofs.Members.{from_append}
use Rattle.dep_iter.specs.Edges.{in_edges}
use Rattle.dep_iter.specs.Hints.{affinity}
use Rattle.dep_iter.specs.Items.{items}
use Rattle.dep_iter.specs.Tasks.{flows_of, locals_of}
use Rattle.dep_iter.specs.Well.{IsWellTask}
use Rattle.edge_match.specs.declared.tally.Tally.{Tally}
use Rattle.dep_iter.specs.Active.{by_number}
use Rattle.edge_match.specs.Flows.{AreTakenOnce, HasSoundSource, IsSoundFlow, IsSoundTask, edges_into_flow}
use Rattle.edge_match.specs.Flows.{items_of_flow}
use Rattle.edge_match.specs.Tallies.{Accepts, AreSent, WentOver}
use Rattle.edge_match.proofs.SentItems.{sent_append, sent_nil}
use Rattle.edge_match.proofs.TakenEdges.{taken_append, taken_nil}
use Rattle.edge_match.proofs.TaskFlows.{each_more, in_edges-flows, items-flows}

module _ (P : Plan) (t : Task) (env : List ℤ) where
  pub accepts_more : (s u v : Tally) (n : ℕ) (f : FlowPlan) (fs : List FlowPlan) → HasSoundSource P t env n f
      → AreTakenOnce P [] s.ins u.ins (edges_into_flow t env n f) → AreSent P.colls s.outs u.outs (items_of_flow t env n f)
      → Accepts P t env u v (suc n) fs → Accepts P t env s v n (f ∷ fs)
  accepts_more s u v n f fs source ins sent later = record {
    sound = each_more (IsSoundFlow P t env) n f fs (record { source = source; once = ins.once }) later.sound;
    taken = taken_append P [] s.ins u.ins v.ins (edges_into_flow t env n f) (by_number (edges_into_flow t env) (suc n) fs) ins.taken later.taken;
    sent = sent_append P.colls s.outs u.outs v.outs (items_of_flow t env n f) (by_number (items_of_flow t env) (suc n) fs) sent later.sent;
  }

module _ (P : Plan) where
  pub went_nil : (s : Tally) → WentOver P s s []
  went_nil s = record { sound = λ t h. absurd h; taken = taken_nil P [] s.ins; sent = sent_nil P.colls s.outs }

  pub went_one : (s u : Tally) (t : Task) → IsWellTask P t → HasPlace P.colls (affinity P t)
      → Accepts P t (locals_of P t) s u 0 (flows_of P t) → WentOver P s u (t ∷ [])
  went_one s u t well place a =
      let flows = λ (n : ℕ) (f : FlowPlan) (h : slice_get (flows_of P t) n ≡ Some f).
      subst (λ m. IsSoundFlow P t (locals_of P t) m f) (zero-add n) (a.sound n f h) in
      let sound : IsSoundTask P t = record { well = well; affinity_exists = place; flows = flows } in
      record {
        sound = λ x h. elim h [ inl e ↦ subst (IsSoundTask P) (sym e) sound | inr none ↦ absurd none ];
        taken = rw (append-nil (in_edges P t), in_edges-flows) a.taken;
        sent = rw (append-nil (items P t), items-flows) a.sent;
      }

  pub went_then : (s u v : Tally) (xs ys : List Task) → WentOver P s u xs → WentOver P u v ys → WentOver P s v (xs ++ ys)
  went_then s u v xs ys a b = record {
    sound = λ t h. elim (from_append t xs ys h) [ inl k ↦ a.sound t k | inr k ↦ b.sound t k ];
    taken =
        rw (flat_map-append (in_edges P) xs ys)
        (taken_append P [] s.ins u.ins v.ins (flat_map (in_edges P) xs) (flat_map (in_edges P) ys) a.taken b.taken);
    sent =
        rw (flat_map-append (items P) xs ys)
        (sent_append P.colls s.outs u.outs v.outs (flat_map (items P) xs) (flat_map (items P) ys) a.sent b.sent);
  }
