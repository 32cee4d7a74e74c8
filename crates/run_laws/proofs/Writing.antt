-- The place of a write-back that may be sent was not written.
use Rattle.std.proofs.Common.{◌≡◌, ℕ, ℤ, Bool, true, false, cond, List, refl, ap, sym, ◌∙◌, arith, Option, Some, None}
use Rattle.std.proofs.lemmas.Bool.{false_from_ne_true, false≢true}
use Rattle.ptg_base.specs.Lists.{IsIn}
use Rattle.ptg_base.specs.declared.place.Place.{Place}
use Rattle.ptg_base.specs.declared.edge.WriteBack.{WriteBack}
use Rattle.ptg_base.specs.declared.edge.Item.{Item}
use Rattle.ptg_base.specs.declared.edge.Item.TheVariants as item
use Rattle.list_lemmas.proofs.Members.{IsIn-flat_map, IsIn-filter_map}
use Rattle.list_lemmas.proofs.Counts.{count-some, weigh-zero}
use Rattle.list_lemmas.proofs.Distinct.{one_from_map}
use Rattle.plan_core.specs.declared.plan.Plan.{Plan}
use Rattle.coll_data.specs.Data.{Data}
use Rattle.dep_iter.specs.Consistent.{IsConsistent, all_writes}
use Rattle.dep_iter.specs.Items.{items, write_backs, write_of}
use Rattle.dep_iter.specs.Tasks.{all_tasks}
use Rattle.dep_iter.proofs.CallerLemmas.{listed}
use Rattle.dep_shard.specs.Content.{Content}
use Rattle.flow_meaning.specs.Comparing.{same_item}
use Rattle.list_lemmas.specs.Counting.{as_number}
use Rattle.flow_meaning.specs.Machine.{MaySend, is_sent, sender}
use Rattle.flow_meaning.specs.Sound.{IsSoundState}
use Rattle.flow_meaning.proofs.CallerLemmas.{member_send, same_item-decides}
use Rattle.shard_meaning.specs.Moment.{Moment}
use Rattle.shard_meaning.specs.Share.{IsShardOf, Placement, is_of, write_weight, written_weight}
use Rattle.shard_meaning.proofs.CallerLemmas.{unsent_yet}

module _ (P : Plan) (G : Data) (con : IsConsistent P) (of : Placement) (k : ℕ) (R : Moment) (sound : IsSoundState P G R.state) where
  write_listed : (v : WriteBack) → IsIn (sender (item.Write v)) R.state.claims → IsIn (item.Write v) (items P v.from) → IsIn v (all_writes P)
  write_listed v claimed among = IsIn-flat_map (write_backs P) (all_tasks P) v.from v
      ((listed P v.from).0 (sound.claimed_have_all v.from claimed).task)
      (IsIn-filter_map write_of (items P v.from) (item.Write v) v among refl)

  -- no two write-backs that were sent go to one place
  module _ (w : WriteBack) (may : MaySend P G R.state (item.Write w)) where
    -- whether a place is that of w: whether w at this place is w
    abbrev is_here : Place → Bool
    is_here p = same_item (item.Write (record { from = w.from; flow = w.flow; place = p })) (item.Write w)

    abbrev write_in : Item → WriteBack
    write_in (item.Edge e) = w
    write_in (item.Write v) = v

    here_is : (p : Place) → is_here p ≡ true → p ≡ w.place
    here_is p h = ap (λ i. (write_in i).place) ((same_item-decides (item.Write (record { from = w.from; flow = w.flow; place = p })) (item.Write w)).0 h)

    is_at : (p : Place) → p ≡ w.place → is_here p ≡ true
    is_at p e = (same_item-decides (item.Write (record { from = w.from; flow = w.flow; place = p })) (item.Write w)).1
        (ap (λ (q : Place). item.Write (record { from = w.from; flow = w.flow; place = q })) e)

    abbrev at_place : WriteBack × List ℤ → ℕ
    at_place p = as_number (is_here p.0.place)

    other_place : (v : WriteBack) → is_sent R.state (item.Write v) ≡ true → IsIn v (all_writes P) → v.place ≡ w.place → ⊥
    other_place v sent among same =
        let one : v ≡ w = one_from_map (λ (u : WriteBack). u.place) (all_writes P) con.written_once v w among (write_listed w may.claimed may.is_item) same in
        false≢true (sym (unsent_yet P G R (item.Write w) may) ∙ (ap (λ u. is_sent R.state (item.Write u)) (sym one) ∙ sent))

    no_weight : (i : Item) (o : Option (List ℤ)) → is_sent R.state i ≡ true → IsIn (sender i) R.state.claims
        → IsIn i (items P (sender i)) → written_weight of k at_place i o ≡ 0
    no_weight (item.Edge e) o sent claimed among = refl
    no_weight (item.Write v) None sent claimed among = refl
    no_weight (item.Write v) (Some x) sent claimed among = by (is_of of k v.from)
      where
        by : (b : Bool) → cond b (at_place (v, x)) 0 ≡ 0
        by true = ap as_number (false_from_ne_true (is_here v.place) (λ q. other_place v sent (write_listed v claimed among) (here_is v.place q)))
        by false = refl

    pub unwritten : (y : Content) → IsShardOf P G of k R y → (p : WriteBack × List ℤ) → IsIn p y.written → p.0.place ≡ w.place → ⊥
    unwritten y h p i same =
        let none = weigh-zero (write_weight of k at_place) R.state.sends
        (λ x j. let out = sound.sent_are_outputs x j in no_weight x.item x.tile (member_send R.state x j)
        out.claimed out.is_item) in
        absurd (omega (arith, h.written at_place, none, count-some (λ (q : WriteBack × List ℤ). is_here q.0.place) y.written p i (is_at p.0.place same)))
