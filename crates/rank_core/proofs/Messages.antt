-- How many messages are sent, and that none is sent twice.
use Rattle.std.proofs.Common.{◌≡◌, ◌↔◌, ℕ, ◌≤◌, Bool, false, ◌&&◌, cond, List, [], ◌∷◌, map, length, refl, ap, sym, ◌∙◌}
use Rattle.std.proofs.Common.{subst, IsTrue, is_some, inl, inr, Option, Some, None, arith}
use Rattle.std.proofs.lemmas.Bool.{cases_eq, false≢true}
use Rattle.std.proofs.lemmas.List.{length-append, length-map}
use Rattle.std.specs.List.{filter, flat_map}
use Rattle.ptg_base.specs.Lists.{HasNoRepeats, IsIn}
use Rattle.ptg_base.specs.Task.{Task}
use Rattle.ptg_base.specs.declared.edge.Edge.{Edge}
use Rattle.plan_core.specs.declared.plan.Plan.{Plan}
use Rattle.coll_data.specs.Data.{Data}
use Rattle.list_lemmas.proofs.Members.{from_map}
use Rattle.list_lemmas.proofs.Truth.{by_test}
use Rattle.list_lemmas.proofs.Counts.{count-some, some_passes, same_counts, length-filter, weigh-same, weigh-zero}
use Rattle.list_lemmas.proofs.Counts.{count-once, weigh-flat_map}
use Rattle.list_lemmas.proofs.Distinct.{HasNoRepeats-flat_map, HasNoRepeats-map}
use Rattle.list_lemmas.proofs.Tasks.{distinct_once}
use Rattle.dep_iter.specs.Consistent.{IsConsistent, all_in, all_out}
use Rattle.dep_iter.specs.Items.{out_edges}
use Rattle.dep_iter.specs.Tasks.{all_tasks}
use Rattle.flow_meaning.specs.Answer.{ran}
use Rattle.flow_meaning.specs.Backward.{ended}
use Rattle.flow_meaning.specs.Comparing.{same_edge}
use Rattle.list_lemmas.specs.Counting.{HasSameMembers, as_number, count, weigh}
use Rattle.flow_meaning.specs.Ending.{Ended, has_outputs, output_tile}
use Rattle.ptg_base.proofs.CallerLemmas.{same_edge-decides}
use Rattle.flow_meaning.proofs.CallerLemmas.{claims_members, out_edge_from}
use Rattle.rank_core.specs.declared.message.Message.{Message}
use Rattle.rank_core.specs.World.{IsQuiet, WorldState, edges_between, is_between, message_from, messages_by}
use Rattle.rank_core.specs.Sound.{IsSoundWorld, message_count}
use Rattle.rank_core.proofs.Items.{between_is_out, between_once}
use Rattle.rank_core.proofs.Quiet.{quiet_iff}
use Rattle.rank_core.proofs.Happening.{message_is, messages_with, messages_without}

-- in a list without repeats nothing occurs twice, so two such lists of the same things have the same members
module _ {A : Type 0} (same : A → A → Bool) (decides : (a b : A) → IsTrue (same a b) ↔ (a ≡ b)) where
  none_of : (xs : List A) (x : A) → (IsIn x xs → ⊥) → count (same x) xs ≡ 0
  none_of xs x h = elim (cases_eq (count (same x) xs) 0) [
    | inl z ↦ z
    | inr more ↦ let p = some_passes (same x) xs (omega (arith, more)) in absurd
        (h (subst (λ y. IsIn y xs) (sym ((decides x p.0).0 p.2)) p.1))
  ]

  one_at_most : (xs : List A) → HasNoRepeats xs → (x : A) → count (same x) xs ≤ 1
  one_at_most xs h x = count-once same (λ a b k. (decides a b).0 k) xs h x

  there : (xs : List A) (x : A) → IsIn x xs → 1 ≤ count (same x) xs
  there xs x i = omega (arith, count-some (same x) xs x i ((decides x x).1 refl))

  pub same_members : (xs ys : List A) → HasNoRepeats xs → HasNoRepeats ys → ((x : A) → IsIn x xs ↔ IsIn x ys)
      → HasSameMembers xs ys
  same_members xs ys h k iff = (same_counts same decides xs ys).1 (λ x. elim (cases_eq (count (same x) xs) 0) [
    | inl none ↦ none ∙ sym (none_of ys x (λ i. absurd (omega (arith, none, there xs x ((iff x).1 i)))))
    | inr some ↦
        let p = some_passes (same x) xs (omega (arith, some)) in
        let i : IsIn x xs = subst (λ y. IsIn y xs) (sym ((decides x p.0).0 p.2)) p.1 in
        omega (arith, one_at_most xs h x, one_at_most ys k x, there xs x i, there ys x ((iff x).0 i))
  ])

-- lengths as weights
length-joined : {A B : Type 0} (f : A → List B) (xs : List A) → length (flat_map f xs) ≡ weigh (λ x. length (f x)) xs
length-joined f [] = refl
length-joined f (x ∷ xs) = omega (arith, length-joined f xs, length-append (f x) (flat_map f xs))

weigh-filter : {A : Type 0} (g : A → ℕ) (test : A → Bool) → ((x : A) → test x ≡ false → g x ≡ 0) → (xs : List A)
    → weigh g (filter test xs) ≡ weigh g xs
weigh-filter g test none [] = refl
weigh-filter g test none (x ∷ xs) =
    by_test (test x)
    (λ k. let e = ap (λ b. weigh g (cond b (x ∷ filter test xs) (filter test xs))) k in omega
    (arith, e, weigh-filter g test none xs))
    (λ k. let e = ap (λ b. weigh g (cond b (x ∷ filter test xs) (filter test xs))) k in omega
    (arith, e, none x k, weigh-filter g test none xs))

no_end : (end : Option Ended) → is_some end ≡ false → has_outputs end ≡ false
no_end None h = refl
no_end (Some e) h = absurd (false≢true (sym h))

module _ (P : Plan) (G : Data) (r : ℕ) where
  -- whether an edge is a message of a run
  counts : Edge → Bool
  counts e = has_outputs (ended P G e.from) && is_between P r e

  -- as many messages are sent by a task as edges out of it count
  by_task : (t : Task) → length (messages_by P r t (ended P G t)) ≡ count counts (out_edges P t)
  unfolding counts
  by_task t =
      by_test (has_outputs (ended P G t))
      (λ o.
      ap length (messages_with P r t (ended P G t) o)
      ∙ length-map (edges_between P r t) (message_from (ended P G t))
      ∙ length-filter (is_between P r) (out_edges P t)
      ∙ weigh-same (λ e. as_number (has_outputs (ended P G e.from) && is_between P r e))
      (λ e. as_number (is_between P r e)) (out_edges P t)
      (λ e h. ap (λ b. as_number (b && is_between P r e))
      (sym (ap (λ u. has_outputs (ended P G u)) (out_edge_from P t e h) ∙ o))))
      (λ o.
      ap length (messages_without P r t (ended P G t) o)
      ∙ sym (weigh-zero (λ e. as_number (has_outputs (ended P G e.from) && is_between P r e)) (out_edges P t)
      (λ e h. ap (λ b. as_number (b && is_between P r e))
      (ap (λ u. has_outputs (ended P G u)) (out_edge_from P t e h) ∙ o))))

  module _ (con : IsConsistent P) (w : WorldState) (sound : IsSoundWorld P G r w) where
    pub messages_counted : IsQuiet P w → length w.messages ≡ message_count P G r
    unfolding message_count ran counts
    messages_counted quiet =
        let sent : Task → ℕ = λ t. length (messages_by P r t (ended P G t)) in
        ap length sound.messages
        ∙ length-joined (λ t. messages_by P r t (ended P G t)) w.machine.claims
        ∙ claims_members P G con w.machine sound.state ((quiet_iff P G con r w sound).0 quiet)
        (λ t. length (messages_by P r t (ended P G t)))
        ∙ weigh-filter (λ t. length (messages_by P r t (ended P G t))) (λ t. is_some (ended P G t))
        (λ t h. ap length (messages_without P r t (ended P G t) (no_end (ended P G t) h))) (all_tasks P)
        ∙ weigh-same (λ t. count counts (out_edges P t)) (λ t. length (messages_by P r t (ended P G t))) (all_tasks P)
        (λ t h. by_task t)
        ∙ sym (weigh-flat_map (λ (e : Edge). as_number (counts e)) (out_edges P) (all_tasks P))
        ∙ same_members same_edge same_edge-decides (all_out P) (all_in P) con.no_out_edge_twice con.no_in_edge_twice
        (λ e. let iff = con.same_edges e in (iff.1, iff.0)) (λ e. as_number (counts e))

    from_of : (t : Task) (m : Message) → IsIn m (messages_by P r t (ended P G t)) → m.edge.from ≡ t
    from_of t m h =
        by_test (has_outputs (ended P G t))
        (λ o.
        let q = from_map (message_from (ended P G t)) (edges_between P r t) m
        (subst (λ ms. IsIn m ms) (messages_with P r t (ended P G t) o) h) in
        ap (λ (x : Message). x.edge.from) q.2 ∙ out_edge_from P t q.0 (between_is_out P t r q.0 q.1))
        (λ o. let never : IsIn m [] = subst (λ ms. IsIn m ms) (messages_without P r t (ended P G t) o) h in absurd
        never)

    once_by : (t : Task) → IsIn t w.machine.claims → HasNoRepeats (messages_by P r t (ended P G t))
    once_by t c =
        by_test (has_outputs (ended P G t))
        (λ o.
        subst HasNoRepeats (sym (messages_with P r t (ended P G t) o))
        (HasNoRepeats-map (message_from (ended P G t)) (edges_between P r t)
        (between_once P con t (sound.state.claimed_have_all t c).task r) (λ d e q. ap (λ (x : Message). x.edge) q)))
        (λ o. subst HasNoRepeats (sym (messages_without P r t (ended P G t) o)) tt)

    pub messages_once : HasNoRepeats w.messages
    messages_once =
        subst HasNoRepeats (sym sound.messages)
        (HasNoRepeats-flat_map (λ t. messages_by P r t (ended P G t)) w.machine.claims
        (distinct_once w.machine.claims sound.state.claimed_once) once_by
        (λ t u m h k. sym (from_of t m h) ∙ from_of u m k))

    -- two messages of one edge are one message
    same_message : (a b : Message) → IsIn a w.messages → IsIn b w.messages → a.edge ≡ b.edge → a ≡ b
    same_message a b i j e =
        let x = message_is P G con r w sound a i in
        let y = message_is P G con r w sound b j in
        λ k. record {
          edge = e k;
          tile = (x.tile ∙ ap (λ (d : Edge). output_tile (ended P G d.from) d.out_flow) e
              ∙ sym y.tile) k;
        }

    distinct_edges : (ms : List Message) → ((m : Message) → IsIn m ms → IsIn m w.messages) → HasNoRepeats ms
        → HasNoRepeats (map (λ (m : Message). m.edge) ms)
    distinct_edges [] among h = tt
    distinct_edges (m ∷ ms) among h = (
      λ i. let p = from_map (λ (x : Message). x.edge) ms m.edge i in
          h.0 (subst (λ x. IsIn x ms) (sym (same_message m p.0 (among m (inl refl)) (among p.0 (inr p.1)) p.2)) p.1),
      distinct_edges ms (λ x i. among x (inr i)) h.1,
    )

    -- no edge is sent by two messages
    pub edges_once : HasNoRepeats (map (λ (m : Message). m.edge) w.messages)
    edges_once = distinct_edges w.messages (λ m i. i) messages_once
