-- What the passes of a table have done together once a run has ended.
use Rattle.std.proofs.Common.{◌≡◌, ◌≤◌, Bool, true, cond, List, [], ◌∷◌, map, refl, ap, sym, ◌∙◌, subst, inl, inr, arith}
use Rattle.std.proofs.lemmas.Bool.{cases_eq}
use Rattle.std.specs.List.{filter_map, flat_map}
use Rattle.std.specs.Cmp.{first_so}
use Rattle.ptg_base.specs.Lists.{IsIn}
use Rattle.ptg_base.specs.Task.{Task}
use Rattle.ptg_base.specs.declared.edge.Edge.{Edge}
use Rattle.ptg_base.specs.declared.edge.WriteBack.{WriteBack}
use Rattle.ptg_base.specs.declared.edge.Item.{Item}
use Rattle.ptg_base.specs.declared.edge.Item.TheVariants as item
use Rattle.ptg_base.proofs.CallerLemmas.{same_edge-decides}
use Rattle.list_lemmas.proofs.Members.{IsIn-flat_map, IsIn-map, from_flat_map, from_map}
use Rattle.list_lemmas.proofs.Truth.{by_test}
use Rattle.list_lemmas.proofs.Counts.{count-le, count-some, one_le, some_passes, weigh-append, same_counts, count-once}
use Rattle.list_lemmas.proofs.Distinct.{HasNoRepeats-from_map}
use Rattle.plan_core.specs.declared.plan.Plan.{Plan}
use Rattle.coll_data.specs.Data.{Data}
use Rattle.dep_shard.specs.Content.{Content}
use Rattle.dep_iter.specs.Consistent.{IsConsistent, all_items, all_out, all_writes}
use Rattle.dep_iter.specs.Items.{edge_of, items, out_edges, write_backs, write_of}
use Rattle.dep_iter.specs.Tasks.{IsTask, all_tasks}
use Rattle.dep_iter.proofs.CallerLemmas.{listed}
use Rattle.flow_meaning.specs.Backward.{ended}
use Rattle.flow_meaning.specs.Comparing.{same_edge, same_item}
use Rattle.list_lemmas.specs.Counting.{as_number, count}
use Rattle.flow_meaning.specs.Ending.{has_outputs}
use Rattle.flow_meaning.specs.Machine.{IsQuiescent, MachineState, SentItem, same_sent_item, same_tile, sender}
use Rattle.flow_meaning.specs.Sound.{IsSoundState, with_its_tile}
use Rattle.flow_meaning.proofs.CallerLemmas.{claims_members, has_inputs, item_sender, same_item-decides, same_sent_item-decides, send_member, sent_are_items}
use Rattle.shard_meaning.specs.Calm.{HaveNoWork}
use Rattle.work_board.specs.declared.record.PassRecord.{PassRecord}
use Rattle.table_rule.specs.declared.table_job.TableJob.{TableJob}
use Rattle.table_rule.specs.Records.{joined}
use Rattle.dep_table.specs.ClosedMeaning.{HasTheMeaning, all_sent, sent_by}
use Rattle.dep_table.specs.Closing.{IsClosedAt}
use Rattle.dep_table.proofs.Quiets.{closed_calm, closed_quiescent}

-- edges and write-backs among items
edges_among : (e : Edge) (is : List Item) → count (same_item (item.Edge e)) is ≡ count (same_edge e) (filter_map edge_of is)
edges_among e [] = refl
edges_among e (item.Edge d ∷ is) = omega (arith, edges_among e is)
edges_among e (item.Write w ∷ is) = omega (arith, edges_among e is)

same_write : WriteBack → WriteBack → Bool
same_write v w = same_item (item.Write v) (item.Write w)

writes_among : (v : WriteBack) (is : List Item) → count (same_item (item.Write v)) is ≡ count (same_write v) (filter_map write_of is)
unfolding same_write
writes_among v [] = refl
writes_among v (item.Edge d ∷ is) = omega (arith, writes_among v is)
writes_among v (item.Write w ∷ is) = omega (arith, writes_among v is)

one_write : (v w : WriteBack) → same_write v w ≡ true → v ≡ w
unfolding same_write
one_write v w k = let e = (same_item-decides (item.Write v) (item.Write w)).0 k in cc

module _ (P : Plan) where
  edges_of : (e : Edge) (ts : List Task) → count (same_item (item.Edge e)) (flat_map (items P) ts) ≡ count (same_edge e) (flat_map (out_edges P) ts)
  edges_of e [] = refl
  edges_of e (t ∷ ts) =
      omega (
        arith,
        edges_of e ts,
        edges_among e (items P t),
        weigh-append (λ i. as_number (same_item (item.Edge e) i)) (items P t) (flat_map (items P) ts),
        weigh-append (λ d. as_number (same_edge e d)) (out_edges P t) (flat_map (out_edges P) ts),
      )

  writes_of : (v : WriteBack) (ts : List Task) → count (same_item (item.Write v)) (flat_map (items P) ts) ≡ count (same_write v) (flat_map (write_backs P) ts)
  writes_of v [] = refl
  writes_of v (t ∷ ts) =
      omega (
        arith,
        writes_of v ts,
        writes_among v (items P t),
        weigh-append (λ i. as_number (same_item (item.Write v) i)) (items P t) (flat_map (items P) ts),
        weigh-append (λ d. as_number (same_write v d)) (write_backs P t) (flat_map (write_backs P) ts),
      )

  -- no item of a consistent job occurs twice
  items_once : IsConsistent P → (i : Item) → count (same_item i) (all_items P) ≤ 1
  items_once con (item.Edge e) = omega (
    arith,
    edges_of e (all_tasks P),
    count-once same_edge
        (λ a b k. (same_edge-decides a b).0 k) (all_out P) con.no_out_edge_twice e,
  )
  items_once con (item.Write w) =
      omega (
        arith,
        writes_of w (all_tasks P),
        count-once same_write one_write (all_writes P)
            (HasNoRepeats-from_map (λ (v : WriteBack). v.place) (all_writes P) con.written_once) w,
      )

  module _ (G : Data) where
    -- what is sent is at most the items
    sent_among : (x : SentItem) (is : List Item) → count (same_sent_item x) (map (with_its_tile P G) is) ≤ count (same_item x.item) is
    sent_among x [] = omega arith
    sent_among x (i ∷ is) =
        omega (
          arith,
          sent_among x is,
          one_le (same_sent_item x (with_its_tile P G i)) (same_item x.item i)
              (λ k. first_so (same_item x.item i) (same_tile x.tile (with_its_tile P G i).tile) k),
        )

    by_among : (x : SentItem) (t : Task) → count (same_sent_item x) (sent_by P G t) ≤ count (same_item x.item) (items P t)
    by_among x t =
        by_test (has_outputs (ended P G t))
        (λ k. let e = ap (λ b. count (same_sent_item x) (cond b (map (with_its_tile P G) (items P t)) [])) k in omega (arith, e, sent_among x (items P t)))
        (λ k. let e = ap (λ b. count (same_sent_item x) (cond b (map (with_its_tile P G) (items P t)) [])) k in omega (arith, e))

    all_among : (x : SentItem) (ts : List Task) → count (same_sent_item x) (flat_map (sent_by P G) ts) ≤ count (same_item x.item) (flat_map (items P) ts)
    all_among x [] = omega arith
    all_among x (t ∷ ts) =
        omega (
          arith,
          all_among x ts,
          by_among x t,
          weigh-append (λ y. as_number (same_sent_item x y)) (sent_by P G t) (flat_map (sent_by P G) ts),
          weigh-append (λ i. as_number (same_item x.item i)) (items P t) (flat_map (items P) ts),
        )

    -- what all tasks send are the items of the tasks with outputs
    among_sent : (t : Task) (i : Item) → IsTask P t → IsIn i (items P t) → has_outputs (ended P G t) ≡ true → IsIn (with_its_tile P G i) (all_sent P G)
    among_sent t i job m o =
        IsIn-flat_map (sent_by P G) (all_tasks P) t (with_its_tile P G i) ((listed P t).0 job)
        (subst (λ b. IsIn (with_its_tile P G i) (cond b (map (with_its_tile P G) (items P t)) [])) (sym o) (IsIn-map (with_its_tile P G) (items P t) i m))

    record IsSentBy (x : SentItem) : Type 0 where
      task : IsTask P (sender x.item)
      is_item : IsIn x.item (items P (sender x.item))
      outputs : has_outputs (ended P G (sender x.item)) ≡ true
      tile : x ≡ with_its_tile P G x.item

    from_task : (t : Task) (x : SentItem) → IsTask P t → IsIn x (sent_by P G t) → IsSentBy x
    from_task t x job h =
        by_test (has_outputs (ended P G t))
        (λ k.
        let p = from_map (with_its_tile P G) (items P t) x (subst (λ b. IsIn x (cond b (map (with_its_tile P G) (items P t)) [])) k h) in
        let same : x.item ≡ p.0 = ap (λ (y : SentItem). y.item) p.2 in
        let by : sender x.item ≡ t = ap sender same ∙ item_sender P t p.0 p.1 in
        record {
          task = subst (IsTask P) (sym by) job;
          is_item = subst (λ u. IsIn x.item (items P u)) (sym by) (subst (λ i. IsIn i (items P t)) (sym same) p.1);
          outputs = ap (λ u. has_outputs (ended P G u)) by ∙ k;
          tile = p.2 ∙ ap (with_its_tile P G) (sym same);
        })
        (λ k. let never : IsIn x [] = subst (λ b. IsIn x (cond b (map (with_its_tile P G) (items P t)) [])) k h in absurd never)

    from_sent : (x : SentItem) → IsIn x (all_sent P G) → IsSentBy x
    from_sent x h = let p = from_flat_map (sent_by P G) (all_tasks P) x h in from_task p.0 x ((listed P p.0).1 p.1) p.2

    module _ (con : IsConsistent P) (S : MachineState) (sound : IsSoundState P G S) (quiet : IsQuiescent P G S) where
      -- what was sent is what its task sends
      its_tile : (x : SentItem) → IsIn x S.sends → x ≡ with_its_tile P G x.item
      its_tile x h = let o = sound.sent_are_outputs x h in λ k. record { item = x.item; tile = o.tile k }

      sent_there : (x : SentItem) → IsIn x S.sends → IsIn x (all_sent P G)
      sent_there x h =
          let o = sound.sent_are_outputs x h in
          subst (λ y. IsIn y (all_sent P G)) (sym (its_tile x h))
          (among_sent (sender x.item) x.item (sound.claimed_have_all (sender x.item) o.claimed).task o.is_item
          o.outputs)

      sent_back : (x : SentItem) → IsIn x (all_sent P G) → IsIn x S.sends
      sent_back x h =
          let o = from_sent x h in
          let y = send_member S x.item ((sent_are_items P G con S sound quiet x.item o.task).1 (o.is_item, o.outputs)) in
          let same : y.0 ≡ x = its_tile y.0 y.1 ∙ ap (with_its_tile P G) y.2 ∙ sym o.tile in
          subst (λ z. IsIn z S.sends) same y.1

      at_most_once : (x : SentItem) → count (same_sent_item x) S.sends ≤ 1
      at_most_once x =
          omega (
            arith,
            sound.sent_once x.item,
            count-le (same_sent_item x) (λ (y : SentItem). same_item x.item y.item)
                S.sends (λ y i k. first_so (same_item x.item y.item) (same_tile x.tile y.tile) k),
          )

      same_times : (x : SentItem) → count (same_sent_item x) S.sends ≡ count (same_sent_item x) (all_sent P G)
      same_times x =
          let more = all_among x (all_tasks P) in
          elim (cases_eq (count (same_sent_item x) S.sends) 0) [
            | inl none ↦ elim (cases_eq (count (same_sent_item x) (all_sent P G)) 0) [
              | inl zero ↦ none ∙ sym zero
              | inr some ↦
                  let p = some_passes (same_sent_item x) (all_sent P G) (omega (arith, some)) in
                  absurd (omega (arith, none, count-some (same_sent_item x) S.sends p.0 (sent_back p.0 p.1) p.2))
            ]
            | inr some ↦
                let p = some_passes (same_sent_item x) S.sends (omega (arith, some)) in
                omega (arith, some, at_most_once x, count-some (same_sent_item x) (all_sent P G) p.0 (sent_there p.0 p.1) p.2, more, items_once con x.item)
          ]

      pub quiescent_meaning : HasTheMeaning P G S
      quiescent_meaning = record {
        claims = claims_members P G con S sound quiet;
        sends = (same_counts same_sent_item same_sent_item-decides S.sends (all_sent P G)).1 same_times;
        inputs = λ t i. has_inputs P G con S sound t (sound.claimed_have_all t i);
      }

-- so it is with the passes of a table that was closed after the run had ended
pub closed_meaning : (j : TableJob) (vs : List PassRecord) (ys : List Content) → IsClosedAt j vs ys → HaveNoWork ys
    → HasTheMeaning j.matched j.given (joined vs).state
closed_meaning j vs ys c none = quiescent_meaning j.matched j.given c.consistent (joined vs).state c.sound
    (closed_quiescent j vs ys c (closed_calm j vs ys c none))
