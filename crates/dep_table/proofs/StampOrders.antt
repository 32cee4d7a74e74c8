-- Claims in the order of their stamps are a legal order.
use Rattle.std.proofs.Common.{◌≡◌, ℕ, suc, ◌<◌, ◌≤◌, List, [], ◌∷◌, ◌++◌, map, refl, sym, ap, ◌∙◌, subst, inl, inr, arith, append_assoc}
use Rattle.std.proofs.lemmas.List.Sorted.{IsNonDecreasingBy-drop}
use Rattle.std.specs.List.Sorted.{IsNonDecreasingBy}
use mathlib.Core.Logic.{dite}
use native.Mathlib.Decide.{ℕ_discrete}
use Rattle.ptg_base.specs.Lists.{IsIn}
use Rattle.ptg_base.specs.Task.{Task}
use Rattle.ptg_base.specs.TaskComparing.{same_task}
use Rattle.ptg_base.specs.TaskLaws.{same_task-decides}
use Rattle.ptg_base.specs.declared.edge.Edge.{Edge}
use Rattle.ptg_base.specs.declared.edge.Item.TheVariants as item
use Rattle.list_lemmas.proofs.Members.{IsIn-append_right, IsIn-map}
use Rattle.std.proofs.lemmas.List.{map-append}
use Rattle.std.specs.Map.{keys_of}
use Rattle.list_lemmas.proofs.Counts.{count-some, weigh-append, same_counts, same_in, HasSameMembers-sym, count-map}
use Rattle.plan_core.specs.declared.plan.Plan.{Plan}
use Rattle.coll_data.specs.Data.{Data}
use Rattle.dep_iter.specs.Edges.{in_edges}
use Rattle.list_lemmas.specs.Counting.{HasSameMembers, as_number, count}
use Rattle.list_lemmas.proofs.Places.{index_of_member}
use Rattle.flow_meaning.specs.Machine.{claim_count, sender}
use Rattle.flow_meaning.specs.Order.{IsLegalAfter, MayFollow}
use Rattle.flow_meaning.specs.Sound.{IsSoundState}
use Rattle.flow_meaning.proofs.CallerLemmas.{claim_member, each_arrived, in_edge_to, send_member}
use Rattle.shard_meaning.specs.Moment.{Moment}
use Rattle.table_rule.specs.Live.{AreStamps}
use Rattle.table_rule.proofs.CallerLemmas.{same_stamp, same_stamp-decides}
use Rattle.dep_table.specs.StampOrders.{AreInStampOrder, IsClaimOrder, number_of}
use Rattle.work_board.specs.Stamps.{StampedTask}

-- in a list by rising stamps, a stamp below another comes before it
earlier : (before after : List StampedTask) (x y : StampedTask) → IsNonDecreasingBy number_of (before ++ x ∷ after)
    → IsIn y (before ++ x ∷ after) → y.1 < x.1 → IsIn y before
earlier [] after x y rise among low = elim among [
  | inl e ↦ absurd (omega (arith, ap number_of e))
  | inr i ↦
      let p = index_of_member y after i in
      absurd (omega (arith, low, rise 0 (suc p.0) x (omega arith) (omega (arith, p.1)), ap number_of (p.2 x)))
]
earlier (b ∷ before) after x y rise among low = elim among [
  | inl e ↦ inl e
  | inr i ↦ inr (earlier before after x y (IsNonDecreasingBy-drop number_of 1 (b ∷ (before ++ x ∷ after)) rise) i low)
]

-- the stamps are those of the claims of a sound moment, each with its own
module _ (P : Plan) (G : Data) (R : Moment) (stamps : List StampedTask) (word : ℕ) (sound : IsSoundState P G R.state) (drawn : AreStamps P R stamps word)
    (mine : (t : Task) → count (λ (x : StampedTask). same_task t x.0) stamps ≤ claim_count R.state t)
    (stamped : (t : Task) → IsIn t R.state.claims → (s : ℕ) × IsIn (t, s) stamps) where
  -- each claim has one stamp
  one_each : (t : Task) → count (λ (x : StampedTask). same_task t x.0) stamps ≡ claim_count R.state t
  one_each t = dite (ℕ_discrete (claim_count R.state t) 0)
      (λ none. omega (arith, mine t, none))
      (λ some.
      let s = stamped t (claim_member R.state t (omega (arith, some))) in
      omega (arith, mine t, sound.claimed_once t, count-some (λ (x : StampedTask). same_task t x.0) stamps (t, s.0) s.1 ((same_task-decides t t).1 refl)))

  -- the source of an edge into a claimed task has a stamp
  source_stamped : (t : Task) → IsIn t R.state.claims → (e : Edge) → IsIn e (in_edges P t) → (s : ℕ) × IsIn (e.from, s) stamps
  source_stamped t claimed e among =
      let fed = sound.claimed_have_all t claimed in
      let x = send_member R.state (item.Edge e) (each_arrived P R.state t fed.all_arrived e among) in
      let own = drawn.senders x.0 x.1 in
      (own.0, subst (λ i. IsIn (sender i, own.0) stamps) x.2 own.1)

  module _ (ordered : List StampedTask) (same : HasSameMembers ordered stamps) (rise : IsNonDecreasingBy number_of ordered) where
    into : (x : StampedTask) → IsIn x stamps → IsIn x ordered
    into x i = same_in same_stamp same_stamp-decides stamps ordered (HasSameMembers-sym ordered stamps same) x i

    back : (x : StampedTask) → IsIn x ordered → IsIn x stamps
    back x i = same_in same_stamp same_stamp-decides ordered stamps same x i

    as_often : (t : Task) → count (same_task t) (keys_of ordered) ≡ claim_count R.state t
    as_often t = omega (arith, count-map (same_task t) (λ (x : StampedTask). x.0) ordered, same (λ (x : StampedTask). as_number (same_task t x.0)), one_each t)

    claimed : (x : StampedTask) → IsIn x ordered → IsIn x.0 R.state.claims
    claimed x i = claim_member R.state x.0 (omega (
      arith,
      one_each x.0,
      count-some
          (λ (y : StampedTask). same_task x.0 y.0) stamps x (back x i) ((same_task-decides x.0 x.0).1 refl),
    ))

    may_follow : (before after : List StampedTask) (x : StampedTask) → ordered ≡ before ++ x ∷ after → MayFollow P (keys_of before) x.0
    may_follow before after x is =
        let here : IsIn x ordered = subst (IsIn x) (sym is) (IsIn-append_right x before (x ∷ after) (inl refl)) in record {
          task = (sound.claimed_have_all x.0 (claimed x here)).task;
          first_time = λ again.
              let twice = count-some (same_task x.0) (keys_of before) x.0 again ((same_task-decides x.0 x.0).1 refl) in
              absurd (omega (
                arith,
                twice,
                as_often x.0,
                sound.claimed_once x.0,
                ap (λ (l : List StampedTask). count (same_task x.0) (keys_of l)) is,
                ap (count (same_task x.0)) (map-append (λ (y : StampedTask). y.0) before (x ∷ after)),
                weigh-append (λ (t : Task). as_number (same_task x.0 t)) (keys_of before) (keys_of (x ∷ after)),
                ap as_number ((same_task-decides x.0 x.0).1 refl),
              ));
          after_sources = λ e among.
              let to : e.to ≡ x.0 = in_edge_to P x.0 e among in
              let s = source_stamped x.0 (claimed x here) e among in
              let low : s.0 < x.1 = drawn.above_sources e s.0 x.1
              (subst (λ (t : Task). IsIn e (in_edges P t)) (sym to) among) s.1
              (subst (λ (t : Task). IsIn (t, x.1) stamps) (sym to) (back x here)) in
              IsIn-map (λ (y : StampedTask). y.0) before (e.from, s.0)
              (earlier before after x (e.from, s.0) (subst (IsNonDecreasingBy number_of) is rise)
              (subst (IsIn (e.from, s.0)) is (into (e.from, s.0) s.1)) low);
        }

    legal_after : (before after : List StampedTask) → ordered ≡ before ++ after → IsLegalAfter P (keys_of before) (keys_of after)
    legal_after before [] is = tt
    legal_after before (x ∷ after) is = (
      may_follow before after x is,
      subst (λ (l : List Task). IsLegalAfter P l (keys_of after))
          (map-append (λ (y : StampedTask). y.0) before (x ∷ []))
          (legal_after (before ++ x ∷ []) after (is ∙ sym (append_assoc before (x ∷ []) after))),
    )

    pub in_order : IsClaimOrder P R.state (keys_of ordered)
    in_order = record { legal = legal_after [] ordered refl; all = (same_counts same_task same_task-decides (keys_of ordered) R.state.claims).1 as_often }

  pub stamp_order : (ts : List Task) → AreInStampOrder stamps ts → IsClaimOrder P R.state ts
  stamp_order ts o = subst (IsClaimOrder P R.state) (sym o.tasks) (in_order o.ordered o.same o.rise)
