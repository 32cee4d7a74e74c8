-- When a run that fits its job may go on, and that it still fits afterwards.
use Rattle.std.proofs.Common.{◌≡◌, ℕ, ◌+◌, ◌<◌, ◌≤◌, Bool, true, false, cond, is_some, List, [], ◌∷◌, ◌++◌, refl, ap}
use Rattle.std.proofs.Common.{sym, ◌∙◌, subst, Option, Some, None, Ok, Err, IsTrue, ◌↔◌, nat_eq, eq-eqb, ltb-true}
use Rattle.std.proofs.Common.{lt-ltb, inl, inr, arith}
use Rattle.std.proofs.lemmas.Bool.{eqb-true, false≢true}
use Rattle.std.specs.Prelude.{unwrap_or}
use Rattle.std.specs.Map.{keys_of, lookup, set_value}
use Rattle.indexmap.specs.IndexMap.{insert_entry}
use Rattle.indexmap.proofs.MapLemmas.{absent_from_lookup, insert_entry-absent}
use Rattle.ptg_base.specs.Lists.{IsIn}
use Rattle.ptg_base.specs.Task.{Task}
use Rattle.ptg_base.specs.TaskComparing.{same_task}
use Rattle.ptg_base.specs.TaskLaws.{same_task-decides}
use Rattle.ptg_base.specs.declared.edge.Edge.{Edge}
use Rattle.ptg_base.specs.declared.edge.WriteBack.{WriteBack}
use Rattle.ptg_base.specs.declared.edge.Item.{Item}
use Rattle.ptg_base.specs.declared.edge.Item.TheVariants as item
use Rattle.plan_core.specs.declared.plan.Plan.{Plan}
use Rattle.coll_data.specs.Data.{Data}
use Rattle.list_lemmas.proofs.Truth.{by_test}
use Rattle.list_lemmas.proofs.Lookups.{apart, set_other, set_same, turned}
use Rattle.std.proofs.lemmas.List.{map-append}
use Rattle.list_lemmas.proofs.Members.{length-part}
use Rattle.list_lemmas.proofs.Counts.{count-at_most, weigh-push}
use Rattle.dep_iter.specs.Tasks.{IsTask, all_tasks}
use Rattle.dep_iter.specs.Edges.{goal, in_edges}
use Rattle.dep_iter.specs.Items.{items, out_edges, write_backs}
use Rattle.dep_iter.specs.Consistent.{IsConsistent}
use Rattle.dep_iter.proofs.CallerLemmas.{edge_item, item_edge, item_write, listed, write_item}
use Rattle.list_lemmas.specs.Counting.{as_number, count}
use Rattle.flow_meaning.specs.Ending.{Ended, has_outputs}
use Rattle.flow_meaning.specs.Backward.{ended}
use Rattle.flow_meaning.specs.Comparing.{same_item}
use Rattle.flow_meaning.specs.Machine.{Claim, MachineState, MayClaim, Send, SentItem, arrived, end_in, is_sent, send_count, sender, state_after, item_from}
use Rattle.flow_meaning.specs.Sound.{IsSoundState}
use Rattle.flow_meaning.proofs.CallerLemmas.{arrives, ends_so, event_sound, with_outputs, with_tiles as ended_with}
use Rattle.flow_core.specs.RunState.{HasLetGo, IsRunning, KeepsTiles, RunState, Tiles, end_of, machine, mark_of}
use Rattle.flow_core.specs.RunState.{send_of, with_claim, with_end, with_send, with_tiles}
use Rattle.flow_core.specs.Fits.{Fits, HasSentAll, MaySendNow}
use Rattle.flow_core.specs.SentItems.{IsUnsent}
use Rattle.flow_core.specs.Arrivals.{CountsArrivals, edge_count_to, is_edge_to}
use Rattle.flow_core.specs.Possible.{GoesToWaiting, IsOutputItem, KeepsTilesFor, goes_to_claimed}
use Rattle.flow_core.specs.Kept.{is_read}
use Rattle.flow_core.proofs.Lookups.{end_push, found_in, found_key, key_count, key_found, keys_set, none_before}
use Rattle.flow_core.proofs.Arriving.{arrived_are}
use Rattle.flow_meaning.specs.Numbers.{number_for}

pub claim_event : (P : Plan) (G : Data) (r : RunState) (t : Task) → machine (with_claim t r) ≡ state_after P G (machine r) (Claim t)
claim_event P G r t = λ i. record { claims = map-append (λ (c : Task × Option Ended). c.0) r.claims ((t, None) ∷ []) i; sends = r.sends }

pub end_event : (r : RunState) (t : Task) (end : Ended) → machine (with_end t end r) ≡ machine r
end_event r t end = λ i. record { claims = keys_set (same_task t) r.claims (Some end) i; sends = r.sends }

-- how often an item was sent after one more send
pub send_counts : (r : RunState) (i j : Item) → send_count (machine (with_send i r)) j ≡ send_count (machine r) j + as_number (same_item j i)
send_counts r i j = weigh-push (λ (x : SentItem). as_number (same_item j x.item)) r.sends (send_of r i)

pub sends_stay : (r : RunState) (i j : Item) → is_sent (machine r) j ≡ true → is_sent (machine (with_send i r)) j ≡ true
sends_stay r i j h =
    let was = ltb-true 0 (send_count (machine r) j) h in
    lt-ltb 0 (send_count (machine (with_send i r)) j) (omega (arith, send_counts r i j))

-- the tiles that are kept after an end: those of the task that has ended, and the others as before
kept_now : (t : Task) (end : Ended) (tiles : Tiles) (outputs : List (Task × Tiles)) → end ≡ Ok tiles
    → lookup (same_task t) (with_tiles t end outputs) ≡ Some tiles
kept_now t (Ok own) tiles outputs h =
    let one : own ≡ tiles = cc in
    found_in t t outputs own ∙ ap (λ b. cond b (Some own) (lookup (same_task t) outputs)) ((same_task-decides t t).1 refl) ∙ ap Some one
kept_now t (Err cause) tiles outputs h = absurd cc

kept_still : (t u : Task) (end : Ended) (outputs : List (Task × Tiles)) → same_task u t ≡ false
    → lookup (same_task u) (with_tiles t end outputs) ≡ lookup (same_task u) outputs
kept_still t u (Ok own) outputs k = found_in u t outputs own ∙ ap (λ b. cond b (Some own) (lookup (same_task u) outputs)) k
kept_still t u (Err cause) outputs k = refl

-- what is known of a task that has ended
marked : (m : Option (Option Ended)) (end : Ended) → unwrap_or m None ≡ Some end → m ≡ Some (Some end)
marked None end h = absurd cc
marked (Some None) end h = absurd cc
marked (Some (Some e)) end h = ap Some h

module _ (P : Plan) (G : Data) (con : IsConsistent P) (r : RunState) (fits : Fits P G r) where
  -- a running task is one of the job
  pub running_task : (t : Task) → IsRunning r t → IsTask P t
  running_task t h = (fits.sound.claimed_have_all t (found_key t r.claims None h)).task

  -- a task that has ended has done so on the tiles that were sent to it
  pub end_known : (t : Task) (end : Ended) → end_of r t ≡ Some end → end_in P G (machine r) t ≡ Some end
  end_known t end h =
      let claimed = found_key t r.claims (Some end) (marked (mark_of r t) end h) in
      sym (ends_so P G con (machine r) fits.sound t (fits.sound.claimed_have_all t claimed)) ∙ fits.ends t end h

  -- a running task ends as it does on the tiles that were sent to it
  pub running_end : (t : Task) → IsRunning r t → ended P G t ≡ end_in P G (machine r) t
  running_end t h = ends_so P G con (machine r) fits.sound t (fits.sound.claimed_have_all t (found_key t r.claims None h))

  -- when a task may be claimed
  pub claimable : (t : Task) → (IsTask P t × (mark_of r t ≡ None) × (edge_count_to t r.sends ≡ goal P t)) ↔ MayClaim P (machine r) t
  claimable t = (
    λ h. record { task = h.0; unclaimed = (key_count t r.claims).0 h.1; all_arrived = arrived_are P G con (machine r) fits.sound t h.0 ∙ h.2 },
    λ may. (may.task, (key_count t r.claims).1 may.unclaimed, sym (arrived_are P G con (machine r) fits.sound t may.task) ∙ may.all_arrived),
  )

  -- the same, by the count of the edges that were sent to it
  pub counted : (t : Task) → IsTask P t → mark_of r t ≡ None → (sent all : ℕ) → sent ≡ edge_count_to t r.sends
      → all ≡ goal P t → IsTrue (nat_eq sent all) ↔ MayClaim P (machine r) t
  counted t job none sent all sent_is all_is = (
    λ k. (claimable t).0 (job, none, sym sent_is ∙ eqb-true sent all k ∙ all_is),
    λ may. eq-eqb sent all (sent_is ∙ ((claimable t).1 may).2 ∙ sym all_is),
  )

  pub claimed_already : (t : Task) → is_some (mark_of r t) ≡ true → IsTrue false ↔ MayClaim P (machine r) t
  claimed_already t h = (λ k. absurd (false≢true k), λ may. ap is_some (sym ((claimable t).1 may).1) ∙ h)

  pub claim_fits : (t : Task) → MayClaim P (machine r) t → Fits P G (with_claim t r)
  claim_fits t may = record {
    sound = subst (IsSoundState P G) (sym (claim_event P G r t)) (event_sound P G con (machine r) fits.sound (Claim t) may);
    ends = λ u end h. fits.ends u end (sym (end_push u t r.claims) ∙ h);
    kept = λ u tiles h. fits.kept u tiles (sym (end_push u t r.claims) ∙ h);
  }

  pub end_fits : (t : Task) (end : Ended) → IsRunning r t → ended P G t ≡ Some end → Fits P G (with_end t end r)
  end_fits t end running meant = record {
    sound = subst (IsSoundState P G) (sym (end_event r t end)) fits.sound;
    ends = λ u other h.
        by_test (same_task t u)
        (λ k.
        let one : t ≡ u = (same_task-decides t u).0 k in
        let here : lookup (same_task t) (set_value (same_task t) r.claims (Some end))
        ≡ Some (Some end) = set_same (same_task t) r.claims None (Some end) running in
        let there : end_of (with_end t end r) u ≡ Some end = subst (λ v. end_of (with_end t end r) v ≡ Some end) one (ap (λ m. unwrap_or m None) here) in
        subst (λ v. ended P G v ≡ Some other) one (meant ∙ sym there ∙ subst (λ v. end_of (with_end t end r) u ≡ Some other) one h))
        (λ k. fits.ends u other (sym (ap (λ m. unwrap_or m None) (set_other (same_task t) (same_task u) (apart t u k) r.claims (Some end))) ∙ h));
    kept = λ u tiles h.
        by_test (same_task t u)
        (λ k.
        let one : t ≡ u = (same_task-decides t u).0 k in
        let here : lookup (same_task t) (set_value (same_task t) r.claims (Some end))
        ≡ Some (Some end) = set_same (same_task t) r.claims None (Some end) running in
        let there : end_of (with_end t end r) t ≡ Some end = ap (λ m. unwrap_or m None) here in
        let at : end_of (with_end t end r) t ≡ Some (Ok tiles) = subst (λ v. end_of (with_end t end r) v ≡ Some (Ok tiles)) (sym one) h in
        let own : end ≡ Ok tiles = inside end tiles (sym there ∙ at) in
        inl (subst (λ v. KeepsTiles (with_end t end r) v tiles) one (kept_now t end tiles r.outputs own)))
        (λ k. elim (fits.kept u tiles (sym (ap (λ m. unwrap_or m None) (set_other (same_task t) (same_task u) (apart t u k) r.claims (Some end))) ∙ h)) [
          | inl still ↦ inl (kept_still t u end r.outputs (turned t u k) ∙ still)
          | inr all ↦ inr all
        ]);
  }
    where
      inside : (end : Ended) (tiles : Tiles) → Some end ≡ Some (Ok tiles) → end ≡ Ok tiles
      inside end tiles q = cc

  -- when an item may be sent
  pub sendable : (i : Item) → ((has_outputs (end_of r (sender i)) ≡ true) × IsUnsent r.sends i × IsIn i (items P (sender i))) ↔ MaySendNow P G r i
  sendable i = (
    λ h.
        let e = with_outputs (end_of r (sender i)) h.0 in
        record {
          may = record {
            unsent = h.1;
            claimed = found_key (sender i) r.claims (Some e.0) (marked (mark_of r (sender i)) e.0 e.1);
            is_item = h.2;
            outputs = ap has_outputs (end_known (sender i) e.0 e.1) ∙ sym (ap has_outputs e.1) ∙ h.0;
          };
          done = λ running. false≢true (sym (ap (λ m. has_outputs (unwrap_or m None)) running) ∙ h.0);
        },
    λ now.
        let known = key_found (sender i) r.claims now.may.claimed in
        (ended_well i now known.0 known.1, now.may.unsent, now.may.is_item),
  )
    where
      ended_well : (i : Item) → MaySendNow P G r i → (m : Option Ended) → mark_of r (sender i) ≡ Some m → has_outputs (end_of r (sender i)) ≡ true
      ended_well i now None h = absurd (now.done h)
      ended_well i now (Some e) h =
          let is : end_of r (sender i) ≡ Some e = ap (λ m. unwrap_or m None) h in
          ap has_outputs is ∙ sym (ap has_outputs (end_known (sender i) e is)) ∙ now.may.outputs

  -- an item that may be sent is an output, and an output may be sent if it was not
  pub output_before : (i : Item) → MaySendNow P G r i → IsOutputItem P r i
  output_before i now = record { outputs = ((sendable i).1 now).0; is_item = now.may.is_item }

  pub output_now : (i : Item) → IsOutputItem P r i → IsUnsent r.sends i → MaySendNow P G r i
  output_now i output unsent = (sendable i).0 (output.outputs, unsent, output.is_item)

  -- it is sent with the tile that its task left
  pub send_event : (i : Item) → MaySendNow P G r i → machine (with_send i r) ≡ state_after P G (machine r) (Send i)
  send_event i now =
      let known = with_outputs (end_of r (sender i)) ((sendable i).1 now).0 in
      let same : end_of r (sender i) ≡ end_in P G (machine r) (sender i) = known.1 ∙ sym (end_known (sender i) known.0 known.1) in
      λ j. record { claims = keys_of r.claims; sends = r.sends ++ item_from (same j) i ∷ [] }

  pub send_fits : (i : Item) → MaySendNow P G r i → Fits P G (with_send i r)
  send_fits i now = record {
    sound = subst (IsSoundState P G) (sym (send_event i now)) (event_sound P G con (machine r) fits.sound (Send i) now.may);
    ends = fits.ends;
    kept = λ t tiles h. elim (fits.kept t tiles h) [ inl still ↦ inl still | inr all ↦ inr (λ j mine. sends_stay r i j (all j mine)) ];
  }

  -- the tiles of a task are kept while an item of it is unsent
  pub kept_for : (i : Item) → IsOutputItem P r i → IsUnsent r.sends i → KeepsTilesFor r i
  kept_for i output unsent =
      let o = ended_with (end_of r (sender i)) output.outputs in
      elim (fits.kept (sender i) o.0 o.1) [
        | inl still ↦ record { tiles = o.0; end = o.1; kept = still }
        | inr all ↦ let was = ltb-true 0 (send_count (machine r) i) (all i output.is_item) in absurd (omega (arith, was, unsent))
      ]

  -- the tiles of a task may be dropped once each of its items was sent
  pub let_go_fits : (t : Task) (new : RunState) → HasLetGo t r new → HasSentAll P r t → Fits P G new
  let_go_fits t new gone all = record {
    sound = subst (IsSoundState P G) (sym same) fits.sound;
    ends = λ u end h. fits.ends u end (sym (end_as u) ∙ h);
    kept = λ u tiles h.
        by_test (same_task u t)
        (λ k. inr (subst (HasSentAll P new) (sym ((same_task-decides u t).0 k)) (λ i mine. sent_as i (all i mine))))
        (λ k. elim (fits.kept u tiles (sym (end_as u) ∙ h)) [ inl still ↦ inl (gone.others u k ∙ still) | inr sent ↦ inr (λ i mine. sent_as i (sent i mine)) ]);
  }
    where
      same : machine new ≡ machine r
      same = λ i. record { claims = keys_of (gone.claims i); sends = gone.sends i }

      end_as : (u : Task) → end_of new u ≡ end_of r u
      end_as u = ap (λ cs. unwrap_or (lookup (same_task u) cs) None) gone.claims

      sent_as : (i : Item) → is_sent (machine r) i ≡ true → is_sent (machine new) i ≡ true
      sent_as i h = ap (λ (S : MachineState). is_sent S i) same ∙ h

  -- the sender of an output is a task of the job
  pub sender_task : (i : Item) → has_outputs (end_of r (sender i)) ≡ true → IsTask P (sender i)
  sender_task i h =
      let e = with_outputs (end_of r (sender i)) h in
      (fits.sound.claimed_have_all (sender i) (found_key (sender i) r.claims (Some e.0) (marked (mark_of r (sender i)) e.0 e.1))).task

module _ (P : Plan) (G : Data) (con : IsConsistent P) (r : RunState) (fits : Fits P G r) (e : Edge) (now : MaySendNow P G r (item.Edge e)) where
  -- an edge that may be sent is not yet counted at its target
  not_full : IsTask P e.to × (edge_count_to e.to r.sends < goal P e.to) × (arrived P (machine r) e.to < goal P e.to)
  not_full =
      let job = (fits.sound.claimed_have_all e.from now.may.claimed).task in
      let target = (con.connected e.from job).to_tasks e (item_edge (items P e.from) e now.may.is_item) in
      let one_more = arrives P G con (machine r) fits.sound e now.may in
      let most : arrived P (state_after P G (machine r) (Send (item.Edge e))) e.to ≤ goal P e.to = count-at_most _ (in_edges P e.to) in
      (target, omega (arith, one_more, most, arrived_are P G con (machine r) fits.sound e.to target), omega (arith, one_more, most))

  -- its target is not claimed
  pub target_unclaimed : mark_of r e.to ≡ None
  target_unclaimed = by (mark_of r e.to) refl
    where
      by : (m : Option (Option Ended)) → mark_of r e.to ≡ m → m ≡ None
      by None h = refl
      by (Some x) h = let full = (fits.sound.claimed_have_all e.to (found_key e.to r.claims x h)).all_arrived in absurd (omega (arith, full, not_full.2))

  -- and fewer edges were sent to it than a job may have
  pub target_count : edge_count_to e.to r.sends < 4000000
  target_count =
      let part = length-part (in_edges P) (all_tasks P) e.to ((listed P e.to).0 not_full.0) in
      omega (arith, part, con.in_edges_at_most, not_full.1)

-- an item that may be sent goes to a task that waits for it, if it is an edge
pub goes_to_waiting : (P : Plan) (G : Data) → IsConsistent P → (r : RunState) → Fits P G r → (i : Item) → MaySendNow P G r i → GoesToWaiting r i
goes_to_waiting P G con r fits (item.Edge e) now u h =
    let same : u ≡ e.to = (same_task-decides u e.to).0 h in
    let few : edge_count_to e.to r.sends ≤ 4000000 = let k = target_count P G con r fits e now in omega arith in
    subst (λ t. (mark_of r t ≡ None) × (edge_count_to t r.sends ≤ 4000000)) (sym same) (target_unclaimed P G con r fits e now, few)
goes_to_waiting P G con r fits (item.Write w) now u h = absurd (false≢true h)

-- an output that goes to a claimed task was sent
pub claimed_sent : (P : Plan) (G : Data) → IsConsistent P → (r : RunState) → Fits P G r → (i : Item)
    → IsOutputItem P r i → goes_to_claimed r i ≡ true → IsUnsent r.sends i → ⊥
claimed_sent P G con r fits (item.Edge e) output there un =
    let none = target_unclaimed P G con r fits e (output_now P G con r fits (item.Edge e) output un) in
    false≢true (sym (ap is_some none) ∙ there)
claimed_sent P G con r fits (item.Write w) output there un = false≢true there

-- an item that goes to no claimed task was not read
pub unclaimed_unread : (r : RunState) (i : Item) → goes_to_claimed r i ≡ false → is_read r.claims i ≡ false
unclaimed_unread r (item.Edge e) h = by (mark_of r e.to) h
  where
    by : (m : Option (Option Ended)) → is_some m ≡ false → is_some (unwrap_or m None) ≡ false
    by None k = refl
    by (Some x) k = absurd (false≢true (sym k))
unclaimed_unread r (item.Write w) h = refl

-- whether an item is one of its task, by whether it is one of the task's edges or write-backs
pub edge_by : (P : Plan) (i : Item) (e : Edge) (b : Bool) → i ≡ item.Edge e → IsTrue b ↔ IsIn e (out_edges P e.from) → IsTrue b ↔ IsIn i (items P (sender i))
edge_by P i e b is h =
    subst (λ j. IsTrue b ↔ IsIn j (items P (sender j))) (sym is) (λ k. edge_item (items P e.from) e (h.0 k), λ k. h.1 (item_edge (items P e.from) e k))

pub write_by : (P : Plan) (i : Item) (w : WriteBack) (left : List WriteBack) (b : Bool) → i ≡ item.Write w
    → left ≡ write_backs P w.from → IsTrue b ↔ IsIn w left → IsTrue b ↔ IsIn i (items P (sender i))
write_by P i w left b is all h =
    let own = subst (λ l. IsTrue b ↔ IsIn w l) all h in
    subst (λ j. IsTrue b ↔ IsIn j (items P (sender j))) (sym is) (λ k. write_item (items P w.from) w (own.0 k), λ k. own.1 (item_write (items P w.from) w k))

-- the counts of a table after one more item is sent
pub counts_push : (old new : List (Task × ℕ)) (claims : List (Task × Option Ended)) (sends : List SentItem) (x : SentItem) → CountsArrivals old claims sends
    → ((u : Task) → number_for new u ≡ number_for old u + as_number (is_edge_to u x.item)) → CountsArrivals new claims (sends ++ x ∷ [])
counts_push old new claims sends x counts more u none =
    omega (arith, more u, counts u none, weigh-push (λ (y : SentItem). as_number (is_edge_to u y.item)) sends x)

-- the counts of a table after a claim, if the other tasks keep their numbers
pub counts_claim : (old new : List (Task × ℕ)) (claims : List (Task × Option Ended)) (sends : List SentItem) (t : Task) → CountsArrivals old claims sends
    → ((u : Task) → same_task u t ≡ false → lookup (same_task u) new ≡ lookup (same_task u) old) → CountsArrivals new (claims ++ (t, None) ∷ []) sends
counts_claim old new claims sends t counts others u none =
    let before = none_before (same_task u) claims t None none in
    ap (λ o. unwrap_or o 0) (others u before.1) ∙ counts u before.0

-- the counts of a table after a task has ended
pub counts_end : (table : List (Task × ℕ)) (claims : List (Task × Option Ended)) (sends : List SentItem) (t : Task)
    (end : Ended) → CountsArrivals table claims sends
    → CountsArrivals table (set_value (same_task t) claims (Some end)) sends
counts_end table claims sends t end counts u none =
    let zero = (key_count u (set_value (same_task t) claims (Some end))).0 none in
    counts u ((key_count u claims).1 (sym (ap (count (same_task u)) (keys_set (same_task t) claims (Some end))) ∙ zero))

-- the claims after a new task is entered, and the run then
pub grown : (claims new : List (Task × Option Ended)) (sends : List SentItem) (outputs : List (Task × Tiles))
    (r : RunState) (t key : Task) → record { claims = claims; sends = sends; outputs = outputs } ≡ r
    → mark_of r t ≡ None → key ≡ t
    → new ≡ insert_entry same_task claims key None → new ≡ claims ++ (t, None) ∷ []
grown claims new sends outputs r t key view none same e =
    let here : lookup (same_task key) claims ≡ None = ap (λ k. lookup (same_task k) claims) same ∙ ap (λ (s : RunState). mark_of s t) view ∙ none in
    e ∙ insert_entry-absent same_task key None claims (absent_from_lookup (same_task key) claims here) ∙ ap (λ k. claims ++ (k, None) ∷ []) same

pub entered : (claims new : List (Task × Option Ended)) (sends : List SentItem) (outputs : List (Task × Tiles))
    (r : RunState) (t key : Task) → record { claims = claims; sends = sends; outputs = outputs } ≡ r
    → mark_of r t ≡ None → key ≡ t
    → new ≡ insert_entry same_task claims key None → record { claims = new; sends = sends; outputs = outputs } ≡ with_claim t r
entered claims new sends outputs r t key view none same e =
    let now : record { claims = new; sends = sends; outputs = outputs }
    ≡ with_claim t (record { claims = claims; sends = sends; outputs = outputs }) = λ i.
    record { claims = grown claims new sends outputs r t key view none same e i; sends = sends; outputs = outputs }
    in
    now ∙ ap (with_claim t) view

-- the run after a task is marked with its end
pub ended_run : (claims new : List (Task × Option Ended)) (sends then : List SentItem)
    (outputs left : List (Task × Tiles)) (r : RunState) (t : Task) (end : Ended)
    → record { claims = claims; sends = sends; outputs = outputs } ≡ r
    → new ≡ set_value (same_task t) claims (Some end) → then ≡ sends → left ≡ with_tiles t end outputs
    → record { claims = new; sends = then; outputs = left } ≡ with_end t end r
ended_run claims new sends then outputs left r t end view e s o =
    let now : record { claims = new; sends = then; outputs = left } ≡ with_end t end
    (record { claims = claims; sends = sends; outputs = outputs }) = λ i.
    record { claims = e i; sends = s i; outputs = o i } in
    now ∙ ap (with_end t end) view
