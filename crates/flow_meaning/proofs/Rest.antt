-- A sound state is quiescent if and only if no task may be claimed and each claimed task is finished.
use Rattle.std.proofs.Common.{◌≡◌, ◌↔◌, ℕ, ℤ, List, ap, sym, ◌∙◌, subst, inl, inr, arith}
use Rattle.std.proofs.lemmas.Bool.{false≢true, ltb-true}
use Rattle.ptg_base.specs.Lists.{IsIn}
use Rattle.ptg_base.specs.Task.{Task}
use Rattle.ptg_base.specs.declared.edge.WriteBack.{WriteBack}
use Rattle.ptg_base.specs.declared.edge.Item.{Item}
use Rattle.ptg_base.specs.declared.edge.Item.TheVariants as item
use Rattle.plan_core.specs.declared.plan.Plan.{Plan}
use Rattle.plan_core.specs.declared.target.Target.{Target}
use Rattle.plan_core.specs.declared.target.Target.TheVariants as target
use Rattle.coll_data.specs.Data.{Data}
use Rattle.list_lemmas.proofs.Members.{from_flat_map, from_map}
use Rattle.list_lemmas.proofs.Truth.{by_test}
use Rattle.dep_iter.specs.Tasks.{locals_of, task}
use Rattle.dep_iter.specs.Active.{active_outs}
use Rattle.dep_iter.specs.Arguments.{combinations}
use Rattle.dep_iter.specs.Edges.{edge}
use Rattle.dep_iter.specs.Items.{items, items_to, write_backs}
use Rattle.dep_iter.specs.Consistent.{IsConsistent}
use Rattle.dep_iter.proofs.CallerLemmas.{write_item}
use Rattle.flow_meaning.specs.Ending.{has_outputs}
use Rattle.flow_meaning.specs.Backward.{ended}
use Rattle.flow_meaning.specs.Machine.{Claim, Event, IsPossible, IsQuiescent, MachineState, Send, send_count, sender}
use Rattle.flow_meaning.specs.Sound.{IsAtRest, IsSoundState}
use Rattle.flow_meaning.proofs.Events.{ends_so}
use Rattle.flow_meaning.proofs.Quiet.{all_sent}

-- the items of a task are sent by it
sent_by : (t : Task) (env : List ℤ) (n : ℕ) (x : Target) (i : Item) → IsIn i (items_to t env n x) → sender i ≡ t
sent_by t env n (target.Task class flow args) i h =
    let p = from_map (λ params. item.Edge (edge t n (task class params) flow)) (combinations args env) i h in ap sender p.2
sent_by t env n (target.Element coll indices) i h = elim h [ inl e ↦ ap sender e | inr never ↦ absurd never ]
sent_by t env n target.New i h = absurd h
sent_by t env n target.Null i h = absurd h

pub item_sender : (P : Plan) (t : Task) (i : Item) → IsIn i (items P t) → sender i ≡ t
unfolding items
item_sender P t i h =
    let p = from_flat_map (λ (a : ℕ × Target). items_to t (locals_of P t) a.0 a.1) (active_outs P t) i h in
    sent_by t (locals_of P t) p.0.0 p.0.1 i p.2

-- a write-back of a task comes from it
pub write_from : (P : Plan) (t : Task) (w : WriteBack) → IsIn w (write_backs P t) → w.from ≡ t
write_from P t w i = item_sender P t (item.Write w) (write_item (items P t) w i)

module _ (P : Plan) (G : Data) (con : IsConsistent P) (S : MachineState) (sound : IsSoundState P G S) where
  at_rest : IsQuiescent P G S → IsAtRest P G S
  at_rest quiet = record {
    none_ready = λ t may. quiet (Claim t) may;
    all_finished = λ t c.
        by_test (has_outputs (ended P G t))
        (λ o. inr (λ i m.
        let same = item_sender P t i m in
        all_sent P G con S sound quiet i (subst (λ u. IsIn u S.claims) (sym same) c)
        (subst (λ u. IsIn i (items P u)) (sym same) m) (ap (λ u. has_outputs (ended P G u)) same ∙ o)))
        (λ o. inl o);
  }

  at_event : IsAtRest P G S → (e : Event) → IsPossible P G S e → ⊥
  at_event rest (Claim t) may = rest.none_ready t may
  at_event rest (Send i) may =
      let so = ends_so P G con S sound (sender i) (sound.claimed_have_all (sender i) may.claimed) in
      elim (rest.all_finished (sender i) may.claimed) [
        | inl trap ↦ false≢true (sym trap ∙ ap has_outputs so ∙ may.outputs)
        | inr all ↦ let some = ltb-true 0 (send_count S i) (all i may.is_item) in absurd (omega (arith, may.unsent))
      ]

  pub rests : IsQuiescent P G S ↔ IsAtRest P G S
  rests = (at_rest, λ rest e may. at_event rest e may)
