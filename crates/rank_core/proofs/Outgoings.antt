-- What a task will send, edge after edge.
use Rattle.std.proofs.Common.{◌≡◌, ◌+◌, ◌<◌, ◌≤◌, ℕ, ℤ, true, false, not, cond, List, [], ◌∷◌, ◌++◌, length, map, refl}
use Rattle.std.proofs.Common.{ap, sym, ◌∙◌, subst, append_assoc, inl, Option, Some, None, Ok, slice_index, arith}
use Rattle.std.proofs.lemmas.List.{append-nil, length-append, map-append, length-map}
use Rattle.std.proofs.lemmas.List.Elements.{filter-append}
use Rattle.std.specs.Map.{lookup}
use Rattle.std.specs.Prelude.{nat_eq, option_map}
use Rattle.ptg_base.specs.Lists.{IsIn}
use Rattle.ptg_base.specs.declared.edge.Edge.{Edge}
use Rattle.ptg_base.specs.declared.edge.Item.TheVariants as item
use Rattle.list_lemmas.proofs.Members.{IsIn-append_right, IsIn-flat_map, from_map}
use Rattle.list_lemmas.proofs.Truth.{by_test}
use Rattle.list_lemmas.proofs.Distinct.{no_longer}
use Rattle.plan_core.specs.declared.plan.Plan.{Plan}
use Rattle.plan_core.specs.Kinds.{is_data}
use Rattle.coll_data.specs.Data.{Data}
use Rattle.dep_iter.specs.Consistent.{IsConsistent, all_in, all_out}
use Rattle.dep_iter.specs.Items.{items, out_edges}
use Rattle.dep_iter.specs.Tasks.{IsTask, all_tasks}
use Rattle.dep_iter.proofs.CallerLemmas.{listed}
use Rattle.flow_meaning.specs.Backward.{ended}
use Rattle.flow_meaning.specs.Ending.{has_outputs, output_tile}
use Rattle.flow_meaning.specs.Machine.{MaySend, claim_count, end_in, send_count}
use Rattle.shard_meaning.proofs.CallerLemmas.{edge_empty, edge_flow, edge_typed}
use Rattle.rank_core.specs.declared.message.Message.{Message}
use Rattle.rank_core.specs.Sound.{IsSoundWorld}
use Rattle.rank_core.specs.World.{Run, WorldState, edges_between, is_between, items_within, message_from, messages_by}
use Rattle.rank_core.proofs.Items.{between_is_out, out_from, out_is_item}
use Rattle.rank_core.proofs.Messages.{edges_once}
use Rattle.rank_core.proofs.Happening.{message_is, messages_with, messages_without, unclaimed_unsent}
use Rattle.rank_core.proofs.Worlds.{event_sound}
use Rattle.rank_core.specs.declared.mail.Mail.{Mail}
use Rattle.rank_core.specs.declared.room.Outgoing.{Outgoing}
use Rattle.rank_core.specs.declared.running_task.RunningTask.{RunningTask}
use Rattle.indexmap.specs.IndexMap.{spare}
use Rattle.rank_core.specs.Keeping.{IsMailOf, IsUnderWay}
use Rattle.rank_core.specs.Outgoings.{AddsBlank, AddsWithin}
use Rattle.rank_core.specs.RunningTasks.{AreBlank, HasShape, IsRunningTask, after, before, data_of, part_way, plan_of}
use Rattle.rank_core.specs.RunningTasks.{task_of}
use Rattle.rank_core.proofs.Parts.{between_among, ends_so, part_sound, within_among}
use Rattle.rank_core.proofs.Posted.{between_waits, mail_kept, one_posted}

blank_push : (P : Plan) (es : List Edge) (ms : List Message) (e : Edge) (m : Message) → AreBlank P es ms → m.edge ≡ e
    → HasShape P m → AreBlank P (es ++ e ∷ []) (ms ++ m ∷ [])
blank_push P [] [] e m are same shape = (same, shape, tt)
blank_push P [] (x ∷ xs) e m are same shape = absurd are
blank_push P (d ∷ ds) [] e m are same shape = absurd are
blank_push P (d ∷ ds) (x ∷ xs) e m are same shape = (are.0, are.1, blank_push P ds xs e m are.2 same shape)

-- what will be sent of the edges so far
pub record OutgoingSoFar (v : RunningTask) (whole left : List Edge) (o : Outgoing) : Type 0 where
  pub done : List Edge
  pub split : whole ≡ done ++ left
  pub blank : AreBlank (plan_of v) (between_among v done) o.messages.items
  pub within : o.within ≡ length (within_among v done)

-- the messages that are posted so far
pub record PostedSoFar (v : RunningTask) (tiles : List (Option (List ℤ))) (left : List Message) (m : Mail) : Type 0
  where
    pub done : List Edge
    pub rest : List Edge
    pub split : edges_between (plan_of v) v.ranks (task_of v) ≡ done ++ rest
    pub blank : AreBlank (plan_of v) rest left
    pub under_way : IsUnderWay (after v).machine ((before v).messages ++ map (message_from (Some (Ok tiles))) done)
        m.under_way.entries
    pub sent : m.sent ≡ length ((before v).messages ++ map (message_from (Some (Ok tiles))) done)
    pub room : length left ≤ spare m.under_way

module _ (v : RunningTask) (h : IsRunningTask v) where
  module _ (whole : List Edge) (are : whole ≡ out_edges (plan_of v) (task_of v)) (e : Edge) (left : List Edge)
      (o : Outgoing) (l : OutgoingSoFar v whole (e ∷ left) o) where
    pub outgoing_among : IsIn e (out_edges (plan_of v) (task_of v))
    outgoing_among = subst (IsIn e) (sym l.split ∙ are) (IsIn-append_right e l.done (e ∷ left) (inl refl))

    pub outgoing_from : e.from ≡ (task_of v)
    outgoing_from = out_from (plan_of v) (task_of v) e outgoing_among

    pub outgoing_to : IsTask (plan_of v) e.to
    outgoing_to = (h.consistent.connected (task_of v) h.may.task).to_tasks e outgoing_among

    between_more : between_among v (l.done ++ e ∷ []) ≡ between_among v l.done ++ cond
        (is_between (plan_of v) v.ranks e) (e ∷ []) []
    between_more = filter-append (is_between (plan_of v) v.ranks) l.done (e ∷ [])

    within_more : within_among v (l.done ++ e ∷ []) ≡ within_among v l.done ++ cond
        (not (is_between (plan_of v) v.ranks e)) (e ∷ []) []
    within_more = filter-append (λ x. not (is_between (plan_of v) v.ranks x)) l.done (e ∷ [])

    pub outgoing_next : (z : Outgoing) → (is_between (plan_of v) v.ranks e ≡ true → AddsBlank (plan_of v) e o z)
        → (is_between (plan_of v) v.ranks e ≡ false → AddsWithin o z) → OutgoingSoFar v whole left z
    outgoing_next z away near =
        by_test (is_between (plan_of v) v.ranks e)
        (λ k.
        let a = away k in
        record {
          done = l.done ++ e ∷ [];
          split = l.split ∙ sym (append_assoc l.done (e ∷ []) left);
          blank = subst (λ es. AreBlank (plan_of v) es z.messages.items)
              (sym (between_more ∙ ap (λ b. between_among v l.done ++ cond b (e ∷ []) []) k))
              (subst (AreBlank (plan_of v) (between_among v l.done ++ e ∷ [])) (sym a.messages)
              (blank_push (plan_of v) (between_among v l.done) o.messages.items e a.message l.blank a.edge
              a.shape));
          within = a.within ∙ l.within ∙ ap length (sym (within_more
              ∙ ap (λ b. within_among v l.done ++ cond (not b) (e ∷ []) []) k ∙ append-nil (within_among v l.done)));
        })
        (λ k.
        let a = near k in
        record {
          done = l.done ++ e ∷ [];
          split = l.split ∙ sym (append_assoc l.done (e ∷ []) left);
          blank = subst (λ es. AreBlank (plan_of v) es z.messages.items)
              (sym (between_more ∙ ap (λ b. between_among v l.done ++ cond b (e ∷ []) []) k
              ∙ append-nil (between_among v l.done)))
              (subst (AreBlank (plan_of v) (between_among v l.done)) (sym a.messages) l.blank);
          within = omega (
            arith,
            a.within,
            l.within,
            ap length
                (within_more ∙ ap (λ b. within_among v l.done ++ cond (not b) (e ∷ []) []) k),
            length-append
                (within_among v l.done) (e ∷ []),
          );
        })

  outgoing_all : (whole : List Edge) → whole ≡ out_edges (plan_of v) (task_of v)
      → (o : Outgoing) (l : OutgoingSoFar v whole [] o) → l.done ≡ out_edges (plan_of v) (task_of v)
  outgoing_all whole are o l = sym (append-nil l.done) ∙ sym l.split ∙ are

  pub outgoing_blank : (whole : List Edge) → whole ≡ out_edges (plan_of v) (task_of v) → (o : Outgoing)
      → OutgoingSoFar v whole [] o → AreBlank (plan_of v) (between_among v (out_edges (plan_of v) (task_of v)))
      o.messages.items
  outgoing_blank whole are o l = subst (λ es. AreBlank (plan_of v) (between_among v es) o.messages.items)
      (outgoing_all whole are o l) l.blank

  pub outgoing_within : (whole : List Edge) → whole ≡ out_edges (plan_of v) (task_of v) → (o : Outgoing)
      → OutgoingSoFar v whole [] o → o.within ≡ length (within_among v (out_edges (plan_of v) (task_of v)))
  outgoing_within whole are o l = l.within ∙ ap (λ es. length (within_among v es)) (outgoing_all whole are o l)

-- no more messages are sent than a job may have edges
pub messages_at_most : (P : Plan) (G : Data) (r : ℕ) (w : WorldState) → IsConsistent P → IsSoundWorld P G r w
    → length w.messages ≤ 4000000
messages_at_most P G r w con sound =
    let edges = map (λ (m : Message). m.edge) w.messages in
    let few : length (map (λ (m : Message). m.edge) w.messages) ≤ length (all_in P) =
    no_longer (map (λ (m : Message). m.edge) w.messages) (all_in P) (edges_once P G r con w sound) (λ e i.
    let p = from_map (λ (m : Message). m.edge) w.messages e i in
    let is = message_is P G con r w sound p.0 p.1 in
    let out = between_is_out P p.0.edge.from r p.0.edge is.among in
    let job = (sound.state.claimed_have_all p.0.edge.from is.claimed).task in
    (con.same_edges e).1 (subst (λ d. IsIn d (all_out P)) (sym p.2)
    (IsIn-flat_map (out_edges P) (all_tasks P) p.0.edge.from p.0.edge ((listed P p.0.edge.from).0 job) out))) in
    omega (arith, few, con.in_edges_at_most, length-map w.messages (λ (m : Message). m.edge))

module _ (v : RunningTask) (h : IsRunningTask v) (tiles : List (Option (List ℤ)))
    (ends : ended (plan_of v) (data_of v) (task_of v) ≡ Some (Ok tiles)) where
  outputs : has_outputs (ended (plan_of v) (data_of v) (task_of v)) ≡ true
  outputs = ap has_outputs ends

  pub posted_first : (left : List Message) (m : Mail) → AreBlank (plan_of v)
      (edges_between (plan_of v) v.ranks (task_of v)) left → IsMailOf (before v) m → length left ≤ spare m.under_way
      → PostedSoFar v tiles left m
  posted_first left m blank mail room = record {
    done = [];
    rest = edges_between (plan_of v) v.ranks (task_of v);
    split = refl;
    blank = blank;
    under_way = subst (λ ms. IsUnderWay (after v).machine ms m.under_way.entries) (sym (append-nil (before v).messages))
        (mail_kept v h m.under_way.entries mail.under_way);
    sent = mail.sent ∙ ap length (sym (append-nil (before v).messages));
    room = room;
  }

  -- the messages after the run
  messages_then : (after v).messages ≡ (before v).messages ++ map (message_from (Some (Ok tiles)))
      (edges_between (plan_of v) v.ranks (task_of v))
  messages_then = ap (λ ms. (before v).messages ++ ms) (ap (messages_by (plan_of v) v.ranks (task_of v))
      (sym (ends_so v h) ∙ ends) ∙ messages_with (plan_of v) v.ranks (task_of v) (Some (Ok tiles)) refl)

  sound_then : IsSoundWorld (plan_of v) (data_of v) v.ranks (after v)
  sound_then = event_sound (plan_of v) (data_of v) h.consistent v.ranks (before v) h.sound (Run (task_of v)) h.may

  -- an edge to another rank may be sent once its task is claimed
  between_may : (e : Edge) → IsIn e (edges_between (plan_of v) v.ranks (task_of v))
      → MaySend (plan_of v) (data_of v) (part_way v []).state (item.Edge e)
  between_may e i =
      let out = between_is_out (plan_of v) (task_of v) v.ranks e i in
      let from : e.from ≡ (task_of v) = out_from (plan_of v) (task_of v) e out in
      let none = unclaimed_unsent (plan_of v) (data_of v) (before v).machine h.sound.state (item.Edge e)
      (ap (claim_count (before v).machine) from ∙ h.may.unclaimed) in
      record {
        unsent = ap (λ xs. send_count record { claims = (before v).machine.claims ++ (task_of v) ∷ []; sends = xs }
            (item.Edge e)) (append-nil (before v).machine.sends) ∙ none;
        claimed = subst (λ u. IsIn u ((before v).machine.claims ++ (task_of v) ∷ [])) (sym from)
            (IsIn-append_right (task_of v) (before v).machine.claims ((task_of v) ∷ []) (inl refl));
        is_item = subst (λ u. IsIn (item.Edge e) (items (plan_of v) u)) (sym from)
            (out_is_item (plan_of v) (task_of v) e out);
        outputs = ap (λ S. has_outputs (end_in (plan_of v) (data_of v) S e.from))
            (λ k. record {
              claims = (before v).machine.claims ++ (task_of v) ∷ [];
              sends = append-nil
                  (before v).machine.sends k;
            })
            ∙ ap (λ u. has_outputs (end_in (plan_of v) (data_of v) (before v).machine u)) from
            ∙ ap has_outputs (sym (ends_so v h)) ∙ outputs;
      }

  -- its tile has the size of the blank one
  shape_fits : (e : Edge) → IsIn e (edges_between (plan_of v) v.ranks (task_of v)) → (m : Message) → m.edge ≡ e
      → HasShape (plan_of v) m → option_map length m.tile ≡ option_map length
      (output_tile (Some (Ok tiles)) m.edge.out_flow)
  shape_fits e i m same shape =
      let among : IsIn m.edge (edges_between (plan_of v) v.ranks (task_of v)) = subst
      (λ d. IsIn d (edges_between (plan_of v) v.ranks (task_of v))) (sym same) i in
      let may = between_may m.edge among in
      let sound = part_sound v h outputs [] (items_within (plan_of v) v.ranks (task_of v)) refl in
      let f = edge_flow (plan_of v) (data_of v) h.consistent (part_way v []).state sound m.edge may in
      let out : ended (plan_of v) (data_of v) m.edge.from ≡ Some (Ok tiles) = ap (ended (plan_of v) (data_of v))
      (out_from (plan_of v) (task_of v) m.edge (between_is_out (plan_of v) (task_of v) v.ranks m.edge among))
      ∙ ends in
      let sized = shape f.0 f.1 in
      by_test (is_data (Some f.0.kind))
      (λ d.
      let x = edge_typed (plan_of v) (data_of v) h.consistent (part_way v []).state sound m.edge may h.fit h.well f.0
      f.1 d in
      sized ∙ ap (λ b. cond b (Some (slice_index (plan_of v).elems f.0.datatype)) None) d
      ∙ sym (ap (option_map length) (ap (λ o. output_tile o m.edge.out_flow) (sym out) ∙ x.1)
      ∙ ap (λ n. Some n) x.2.fits))
      (λ d.
      let none = edge_empty (plan_of v) (data_of v) h.consistent (part_way v []).state sound m.edge may f.0 f.1 d in
      sized ∙ ap (λ b. cond b (Some (slice_index (plan_of v).elems f.0.datatype)) None) d
      ∙ sym (ap (option_map length) (ap (λ o. output_tile o m.edge.out_flow) (sym out) ∙ none)))

  -- the next of the messages that are left
  module _ (m : Message) (left : List Message) (x : Mail) (l : PostedSoFar v tiles (m ∷ left) x) where
    record IsNextEdge : Type 0 where
      edge : Edge
      later : List Edge
      rest_is : l.rest ≡ edge ∷ later
      same : m.edge ≡ edge
      shape : HasShape (plan_of v) m
      blank : AreBlank (plan_of v) later left

    next_edge : (es : List Edge) → l.rest ≡ es → AreBlank (plan_of v) es (m ∷ left) → IsNextEdge
    next_edge [] is b = absurd b
    next_edge (e ∷ es) is b = record { edge = e; later = es; rest_is = is; same = b.0; shape = b.1; blank = b.2 }

    the_edge : IsNextEdge
    the_edge = next_edge l.rest refl l.blank

    split_at : (n : IsNextEdge) → edges_between (plan_of v) v.ranks (task_of v) ≡ l.done ++ n.edge ∷ n.later
    split_at n = l.split ∙ ap (λ es. l.done ++ es) n.rest_is

    among_at : (n : IsNextEdge) → IsIn n.edge (edges_between (plan_of v) v.ranks (task_of v))
    among_at n = subst (IsIn n.edge) (sym (split_at n)) (IsIn-append_right n.edge l.done (n.edge ∷ n.later) (inl refl))

    pub post_shape : option_map length m.tile ≡ option_map length (output_tile (Some (Ok tiles)) m.edge.out_flow)
    post_shape = shape_fits the_edge.edge (among_at the_edge) m the_edge.same the_edge.shape

    pub post_few : x.sent < 4000000
    post_few =
        let n = the_edge in
        let most = messages_at_most (plan_of v) (data_of v) v.ranks (after v) h.consistent sound_then in
        let whole = ap length (messages_then ∙ ap (λ es. (before v).messages ++ map (message_from (Some (Ok tiles))) es)
        (split_at the_edge)) in
        omega (
          arith,
          most,
          whole,
          l.sent,
          length-append (before v).messages (map (message_from (Some (Ok tiles)))
              (l.done ++ the_edge.edge ∷ the_edge.later)),
          length-append (before v).messages (map (message_from (Some (Ok tiles))) l.done),
          length-map (l.done ++ the_edge.edge ∷ the_edge.later) (message_from (Some (Ok tiles))),
          length-map l.done (message_from (Some (Ok tiles))),
          length-append l.done (the_edge.edge ∷ the_edge.later),
        )

    pub post_room : 0 < spare x.under_way
    post_room = omega (arith, l.room)

    pub post_then : (z : Mail) → ((q : ℕ) → lookup (nat_eq q) z.under_way.entries
        ≡ cond (nat_eq x.sent q) (Some (record { edge = m.edge; tile = output_tile (Some (Ok tiles)) m.edge.out_flow }))
        (lookup (nat_eq q) x.under_way.entries))
        → z.sent ≡ x.sent + 1 → spare x.under_way ≤ spare z.under_way + 1 → PostedSoFar v tiles left z
    post_then z changes sent room =
        let n = the_edge in
        let filled : record { edge = m.edge; tile = output_tile (Some (Ok tiles)) m.edge.out_flow }
        ≡ message_from (Some (Ok tiles)) the_edge.edge = ap (message_from (Some (Ok tiles))) the_edge.same in
        let posted : (before v).messages ++ map (message_from (Some (Ok tiles))) (l.done ++ the_edge.edge ∷ [])
        ≡ ((before v).messages ++ map (message_from (Some (Ok tiles))) l.done) ++ message_from (Some (Ok tiles))
        the_edge.edge ∷ [] =
        ap (λ ms. (before v).messages ++ ms) (map-append (message_from (Some (Ok tiles))) l.done (the_edge.edge ∷ []))
        ∙ sym (append_assoc (before v).messages (map (message_from (Some (Ok tiles))) l.done)
        (message_from (Some (Ok tiles)) the_edge.edge ∷ [])) in
        record {
          done = l.done ++ the_edge.edge ∷ [];
          rest = the_edge.later;
          split = split_at the_edge ∙ sym (append_assoc l.done (the_edge.edge ∷ []) the_edge.later);
          blank = the_edge.blank;
          under_way = subst (λ ms. IsUnderWay (after v).machine ms z.under_way.entries) (sym posted)
              (one_posted (after v).machine ((before v).messages ++ map (message_from (Some (Ok tiles))) l.done)
              (message_from (Some (Ok tiles)) the_edge.edge) x.sent x.under_way.entries z.under_way.entries
              l.under_way l.sent
              (between_waits v h (Some (Ok tiles)) the_edge.edge (among_at the_edge))
              (λ q. changes q ∙ ap (λ y. cond (nat_eq x.sent q) (Some y) (lookup (nat_eq q) x.under_way.entries))
              filled));
          sent = omega (
            arith,
            sent,
            l.sent,
            ap length posted,
            length-append
                ((before v).messages ++ map (message_from (Some (Ok tiles))) l.done)
                (message_from (Some (Ok tiles)) the_edge.edge ∷ []),
          );
          room = omega (arith, room, l.room);
        }

  none_blank : (es : List Edge) → AreBlank (plan_of v) es [] → es ≡ []
  none_blank [] b = refl
  none_blank (e ∷ es) b = absurd b

  pub posted_last : (m : Mail) → PostedSoFar v tiles [] m → IsMailOf (after v) m
  posted_last m l =
      let all : edges_between (plan_of v) v.ranks (task_of v) ≡ l.done = l.split
      ∙ ap (λ es. l.done ++ es) (none_blank l.rest l.blank) ∙ append-nil l.done in
      let same : (after v).messages ≡ (before v).messages ++ map (message_from (Some (Ok tiles))) l.done = messages_then
      ∙ ap (λ es. (before v).messages ++ map (message_from (Some (Ok tiles))) es) all in
      record {
        under_way = subst (λ ms. IsUnderWay (after v).machine ms m.under_way.entries) (sym same) l.under_way;
        sent = l.sent ∙ ap length (sym same);
      }

-- a trap sends nothing
pub trap_mail : (v : RunningTask) (h : IsRunningTask v) → has_outputs (ended (plan_of v) (data_of v) (task_of v))
    ≡ false → (m : Mail) → IsMailOf (before v) m → IsMailOf (after v) m
trap_mail v h none m mail =
    let same : (after v).messages ≡ (before v).messages = ap (λ ms. (before v).messages ++ ms)
    (ap (messages_by (plan_of v) v.ranks (task_of v)) (sym (ends_so v h))
    ∙ messages_without (plan_of v) v.ranks (task_of v) (ended (plan_of v) (data_of v) (task_of v)) none)
    ∙ append-nil (before v).messages in
    record {
      under_way = subst (λ ms. IsUnderWay (after v).machine ms m.under_way.entries) (sym same)
          (mail_kept v h m.under_way.entries mail.under_way);
      sent = mail.sent ∙ ap length (sym same);
    }
