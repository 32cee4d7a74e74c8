-- A world is quiescent if and only if its state of the event machine is.
use Rattle.std.proofs.Common.{◌≡◌, ◌↔◌, ℕ, true, sym, ◌∙◌, subst, inl, inr}
use Rattle.std.proofs.lemmas.Bool.{false≢true}
use Rattle.ptg_base.specs.Lists.{IsIn}
use Rattle.ptg_base.specs.Task.{Task}
use Rattle.ptg_base.specs.declared.edge.Edge.{Edge}
use Rattle.ptg_base.specs.declared.edge.Item.{Item}
use Rattle.ptg_base.specs.declared.edge.Item.TheVariants as item
use Rattle.plan_core.specs.declared.plan.Plan.{Plan}
use Rattle.coll_data.specs.Data.{Data}
use Rattle.list_lemmas.proofs.Members.{IsIn-flat_map, IsIn-map}
use Rattle.list_lemmas.proofs.Truth.{by_test}
use Rattle.dep_iter.specs.Consistent.{IsConsistent}
use Rattle.dep_iter.specs.Items.{items}
use Rattle.flow_meaning.specs.Backward.{ended}
use Rattle.flow_meaning.specs.Ending.{has_outputs}
use Rattle.flow_meaning.specs.Machine.{IsQuiescent, is_sent}
use Rattle.flow_meaning.specs.Sound.{IsAtRest}
use Rattle.flow_meaning.proofs.CallerLemmas.{rests}
use Rattle.rank_core.specs.declared.message.Message.{Message}
use Rattle.rank_core.specs.World.{IsQuiet, WorldState, edges_between, message_from, messages_by}
use Rattle.rank_core.specs.Sound.{IsSoundWorld}
use Rattle.rank_core.proofs.Items.{between_is_out, out_is_item, within_or_between}
use Rattle.rank_core.proofs.Happening.{message_is, messages_with}

module _ (P : Plan) (G : Data) (con : IsConsistent P) (r : ℕ) (w : WorldState) (sound : IsSoundWorld P G r w) where
  -- an edge to another rank of a task that ran and has outputs is a message
  pub is_message : (t : Task) → IsIn t w.machine.claims → has_outputs (ended P G t) ≡ true → (b : Edge)
      → IsIn b (edges_between P r t) → IsIn (message_from (ended P G t) b) w.messages
  is_message t c o b h =
      let m : Message = message_from (ended P G t) b in
      subst (λ ms. IsIn (message_from (ended P G t) b) ms) (sym sound.messages)
      (IsIn-flat_map (λ u. messages_by P r u (ended P G u)) w.machine.claims t (message_from (ended P G t) b) c
      (subst (λ ms. IsIn (message_from (ended P G t) b) ms) (sym (messages_with P r t (ended P G t) o))
      (IsIn-map (message_from (ended P G t)) (edges_between P r t) b h)))

  module _ (quiet : IsQuiet P w) where
    each_sent : (t : Task) → IsIn t w.machine.claims → has_outputs (ended P G t) ≡ true → (i : Item)
        → IsIn i (items P t) → is_sent w.machine i ≡ true
    each_sent t c o i m = elim (within_or_between P t r i m) [
      | inl here ↦ sound.within t i c o here
      | inr away ↦ subst (λ j. is_sent w.machine j ≡ true) (sym away.is)
          (quiet.all_delivered (message_from (ended P G t) away.edge) (is_message t c o away.edge away.among))
    ]

    quiet_rests : IsAtRest P G w.machine
    quiet_rests = record {
      none_ready = quiet.none_may_run;
      all_finished = λ t c. by_test (has_outputs (ended P G t))
          (λ o. inr (λ i m. each_sent t c o i m)) (λ o. inl o);
    }

  rest_quiet : IsAtRest P G w.machine → IsQuiet P w
  rest_quiet rest = record {
    none_may_run = rest.none_ready;
    all_delivered = λ m h.
        let is = message_is P G con r w sound m h in
        elim (rest.all_finished m.edge.from is.claimed) [
          | inl trap ↦ absurd (false≢true (sym trap ∙ is.outputs))
          | inr all ↦ all (item.Edge m.edge) (out_is_item P m.edge.from m.edge
              (between_is_out P m.edge.from r m.edge is.among))
        ];
  }

  pub quiet_iff : IsQuiet P w ↔ IsQuiescent P G w.machine
  quiet_iff = let iff = rests P G con w.machine sound.state in
      (λ quiet. iff.1 (quiet_rests quiet), λ quiet. rest_quiet (iff.0 quiet))
