-- A send on a turn: what the shard that was taken has for the item, what allows the send, and the pass after it.
use Rattle.std.proofs.Common.{◌≡◌, ℕ, ℤ, ◌+◌, ◌<◌, ◌==◌, true, List, [], ◌∷◌, ◌++◌, length, sym, ap, ◌∙◌, subst, refl}
use Rattle.std.proofs.Common.{arith, eq-eqb, ne_eqb, Option, Some, None, is_some, if◌then◌else◌}
use Rattle.std.specs.Option.{IfSome, option_map_or, unwrap_or}
use Rattle.table_rule.specs.Seats.{rest}
use Rattle.ptg_base.specs.Entry.{Entry}
use Rattle.ptg_base.specs.TaskComparing.{same_task}
use Rattle.ptg_base.specs.TaskLaws.{same_task-decides}
use Rattle.ptg_base.specs.declared.edge.Edge.{Edge}
use Rattle.ptg_base.specs.declared.edge.Item.{Item}
use Rattle.ptg_base.specs.declared.edge.Item.TheVariants as item
use Rattle.list_lemmas.proofs.Truth.{by_test}
use Rattle.list_lemmas.proofs.Counts.{weigh-push}
use Rattle.list_lemmas.proofs.Options.{some_value}
use Rattle.plan_core.specs.declared.plan.Plan.{Plan}
use Rattle.plan_core.specs.Kinds.{is_data}
use Rattle.coll_data.specs.Data.{Data}
use Rattle.dep_iter.specs.Edges.{goal}
use Rattle.dep_iter.specs.Hints.{priority}
use Rattle.dep_shard.specs.Content.{Content, Entries, IsTileOf, IsUnchanged, IsWaiting, Updates, Uses, entry_before, entry_in, entry_of, fresh, with_arrival}
use Rattle.list_lemmas.specs.Counting.{as_number, weigh}
use Rattle.flow_meaning.specs.Machine.{MaySend, sender}
use Rattle.shard_meaning.specs.Moment.{Moment}
use Rattle.shard_meaning.specs.Share.{Placement}
use Rattle.shard_meaning.proofs.CallerLemmas.{edge_empty, edge_flow, edge_typed, spare-edge_tile, spare-entry, spare-write, spare-write_tile, target_entry}
use Rattle.shard_meaning.proofs.CallerLemmas.{target_flow, target_goal, target_is_task, target_waits, write_typed}
use Rattle.work_board.specs.Records.{IsClean}
use Rattle.work_board.specs.Sends.{AnswersFor, HasSent, IsNext, arrived_in, shard_of_item}
use Rattle.work_board.specs.declared.answers.Sent.{Sent as Answer}
use Rattle.work_board.specs.declared.answers.Sent.TheVariants as answer
use Rattle.work_board.specs.declared.record.PassRecord.{PassRecord}
use Rattle.table_rule.specs.declared.table_job.TableJob.{TableJob}
use Rattle.table_rule.specs.Changes.{turn_left, with_own_send, with_turn}
use Rattle.table_rule.specs.Live.{own_stamps}
use Rattle.shard_meaning.specs.Placing.{shard_of}
use Rattle.table_rule.specs.Plays.{HasName, Seated, fires}
use Rattle.table_rule.specs.Records.{joined}
use Rattle.table_rule.specs.Rule.{Parts, Reserve, Share}
use Rattle.table_rule.proofs.CallerLemmas.{joined_parts, seen_next, seen_reserve, seen_share}
use Rattle.table_rule.specs.GivingBack.{MayGiveBack, MayGiveSend, TakesItem, spends}
use Rattle.dep_table.specs.declared.turn.Turn.{Turn}
use Rattle.dep_table.specs.Passes.{IsPassOf}
use Rattle.dep_table.specs.Sending.{HasSpareForItem, MayTakeItem, credit_after, credited}
use Rattle.dep_table.specs.Tables.{id_of, job_of}
use Rattle.dep_table.specs.Turns.{IsTurnOf}
use Rattle.dep_table.specs.Views.{PassView, shown}
use Rattle.dep_table.proofs.Turns.{has_turn}
use Rattle.work_board.specs.Stamps.{StampedTask}

-- what an edge finds in a list of entries
abbrev found_in : Plan → Edge → Entries → Entry
found_in P e es = unwrap_or (entry_in es e.to) (fresh (goal P e.to) (priority P e.to))

-- what an edge finds waits for as many edges as the plan says, if an entry that is there does
goal_found : (o : Option Entry) (g : ℕ) (p : ℤ) → ((x : Entry) → o ≡ Some x → x.goal ≡ g) → (unwrap_or o (fresh g p)).goal ≡ g
goal_found None g p h = refl
goal_found (Some x) g p h = h x refl

-- as many edges have come to what an edge finds as to the entry, or none
arrived_before : (o : Option Entry) (g : ℕ) (p : ℤ) → (unwrap_or o (fresh g p)).arrived ≡ option_map_or (λ (x : Entry). x.arrived) o 0
arrived_before None g p = refl
arrived_before (Some x) g p = refl

-- a result depends on the entries alone
answers_along : (P : Plan) (i : Item) (a : Answer) (y d : Content) → d.entries ≡ y.entries → AnswersFor P d i a → AnswersFor P y i a
answers_along P (item.Edge e) answer.Waits y d same h = subst
    (λ (es : Entries). option_map_or (λ (x : Entry). x.arrived) (entry_in es e.to) 0 + 1 < goal P e.to) same h
answers_along P (item.Edge e) answer.Fired y d same h = subst
    (λ (es : Entries). option_map_or (λ (x : Entry). x.arrived) (entry_in es e.to) 0 + 1 ≡ goal P e.to) same h
answers_along P (item.Edge e) answer.Kept y d same h = absurd h
answers_along P (item.Edge e) answer.Busy y d same h = absurd h
answers_along P (item.Write w) answer.Kept y d same h = tt
answers_along P (item.Write w) answer.Waits y d same h = absurd h
answers_along P (item.Write w) answer.Fired y d same h = absurd h
answers_along P (item.Write w) answer.Busy y d same h = absurd h

-- and the pass's credit after the result is what the send spends
fires_if : (P : Plan) (e : Edge) (y : Content) → (entry_before y e.to (goal P e.to) (priority P e.to)).goal
    ≡ goal P e.to → fires P y e ≡ ((arrived_in y e.to + 1) == goal P e.to)
fires_if P e y same = (λ k. (arrived_before (entry_of y e.to) (goal P e.to) (priority P e.to) k + 1) == same k)

credit_is : (P : Plan) (i : Item) (a : Answer) (y : Content) (tile : Option (List ℤ)) → MayTakeItem P i tile y
    → AnswersFor P y i a → credit_after a 0 ≡ spends P y i
credit_is P (item.Edge e) answer.Waits y tile may h = sym (ap as_number
    (fires_if P e y may.1 ∙ ne_eqb (arrived_in y e.to + 1) (goal P e.to) (λ q. absurd (omega (arith, h, q)))))
credit_is P (item.Edge e) answer.Fired y tile may h = sym (ap as_number (fires_if P e y may.1 ∙ eq-eqb (arrived_in y e.to + 1) (goal P e.to) h))
credit_is P (item.Edge e) answer.Kept y tile may h = absurd h
credit_is P (item.Edge e) answer.Busy y tile may h = absurd h
credit_is P (item.Write w) answer.Kept y tile may h = refl
credit_is P (item.Write w) answer.Waits y tile may h = absurd h
credit_is P (item.Write w) answer.Fired y tile may h = absurd h
credit_is P (item.Write w) answer.Busy y tile may h = absurd h

-- what an item needs depends on the entries and the lengths of tiles alone
may_along : (P : Plan) (i : Item) (tile : Option (List ℤ)) (y d : Content) → d.entries ≡ y.entries → d.elems ≡ y.elems
    → MayTakeItem P i tile y → MayTakeItem P i tile d
may_along P (item.Edge e) tile y d entries elems m =
    let may = m.0 in (
      record {
        task = may.task;
        flow = may.flow;
        is_flow = may.is_flow;
        flow_number = may.flow_number;
        some_goal = may.some_goal;
        waits = subst (λ (es : Entries). IsWaiting (found_in P e es)) (sym entries) may.waits;
        fits = subst (λ (ns : List ℕ). IfSome tile (IsTileOf ns may.flow.datatype)) (sym elems) may.fits;
      },
      subst (λ (es : Entries). (found_in P e es).goal ≡ goal P e.to) (sym entries) m.1,
    )
may_along P (item.Write w) tile y d entries elems m = record {
  task = m.task;
  flow = m.flow;
  is_flow = m.is_flow;
  carries = m.carries;
  fits = subst
      (λ (ns : List ℕ). IfSome tile (IsTileOf ns m.flow.datatype)) (sym elems) m.fits;
}

-- spares that have grown are still enough
spare_along : (P : Plan) (i : Item) (tile : Option (List ℤ)) (y d : Content) → d.entries ≡ y.entries
    → Uses y.spare d.spare 0 None 0 0 → HasSpareForItem P i tile y → HasSpareForItem P i tile d
spare_along P (item.Edge e) tile y d entries uses h = record {
  entry = λ none. omega (arith, h.entry (ap (λ (es : Entries). entry_in es e.to) (sym entries) ∙ none), uses.entries);
  tiles = λ t typed some. omega (arith, h.tiles t typed some, uses.tiles t);
}
spare_along P (item.Write w) tile y d entries uses h = record
    { place = omega (arith, h.place, uses.writes); tiles = λ t typed. omega (arith, h.tiles t typed, uses.tiles t) }

-- what an item changes, counted from the shard as it was taken
takes_since : (P : Plan) (i : Item) (tile : Option (List ℤ)) (y d w : Content) → IsUnchanged y d
    → Uses y.spare d.spare 0 None 0 0 → TakesItem P i tile d w → TakesItem P i tile y w
takes_since P (item.Edge e) tile y d w same grown t = record {
  datatype = t.datatype;
  typed = t.typed;
  entries = subst (λ (es : Entries). Updates es w.entries e.to (Some (with_arrival (found_in P e es) e.in_flow tile))) same.entries t.entries;
  rest = record {
    written = t.rest.written ∙ same.written;
    trapped = t.rest.trapped
        ∙ same.trapped;
    running = t.rest.running ∙ same.running;
    ended = t.rest.ended ∙ same.ended;
    elems = t.rest.elems
        ∙ same.elems;
  };
  uses = let used = subst (λ (es : Entries). Uses d.spare w.spare (if is_some (entry_in es e.to) then 0 else 1)
      (if is_some tile then Some t.datatype else None) 0 0) same.entries t.uses in
      record {
        entries = omega (arith, grown.entries, used.entries);
        tiles = λ k. omega
            (arith, grown.tiles k, used.tiles k);
        writes = omega (arith, grown.writes, used.writes);
        traps = omega
            (arith, grown.traps, used.traps);
      };
}
takes_since P (item.Write b) tile y d w same grown t = record {
  datatype = t.datatype;
  typed = t.typed;
  content = t.content;
  carried = t.carried;
  written = t.written ∙ ap (λ l. l ++ (b, t.content) ∷ []) same.written;
  rest = record {
    entries = t.rest.entries ∙ same.entries;
    trapped = t.rest.trapped
        ∙ same.trapped;
    running = t.rest.running ∙ same.running;
    ended = t.rest.ended ∙ same.ended;
    elems = t.rest.elems
        ∙ same.elems;
  };
  uses = record {
    entries = omega (arith, grown.entries, t.uses.entries);
    tiles = λ k. omega
        (arith, grown.tiles k, t.uses.tiles k);
    writes = omega (arith, grown.writes, t.uses.writes);
    traps = omega
        (arith, grown.traps, t.uses.traps);
  };
}

-- the shard of a send that was refused is the one that was taken, but for spares that have grown
pub refused : (t : Turn) (v : PassRecord) (y z : Content) → IsTurnOf t v y z → (p : PassView) → p ≡ t.pass.now
    → (d w : Content) → d ≡ z → IsUnchanged d w → Uses d.spare w.spare 0 None 0 0
    → MayGiveBack t.shard (p.me.0, (t.shard, w) ∷ rest p.me.1)
refused t v y z h p is d w here same grown = record {
  before = y;
  after = w;
  turn = let turn = has_turn t v y z p h is in record {
    slot = ap (λ l. (t.shard, w) ∷ rest l) turn.slot;
    turn = turn.turn;
    named = turn.named;
    credit = turn.credit;
  };
  same = record {
    entries = same.entries ∙ (ap (λ (c : Content). c.entries) here ∙ h.same.entries);
    written = same.written ∙ (ap (λ (c : Content). c.written) here ∙ h.same.written);
    trapped = same.trapped
        ∙ (ap (λ (c : Content). c.trapped) here ∙ h.same.trapped);
    running = same.running
        ∙ (ap (λ (c : Content). c.running) here ∙ h.same.running);
    ended = same.ended
        ∙ (ap (λ (c : Content). c.ended) here ∙ h.same.ended);
    elems = same.elems
        ∙ (ap (λ (c : Content). c.elems) here ∙ h.same.elems);
  };
  spares = let used = subst (λ (c : Content). Uses c.spare w.spare 0 None 0 0) here grown in
      record {
        entries = omega (arith, h.spares.entries, used.entries);
        tiles = λ k. omega
            (arith, h.spares.tiles k, used.tiles k);
        writes = omega (arith, h.spares.writes, used.writes);
        traps = omega
            (arith, h.spares.traps, used.traps);
      };
}

module _ (t : Turn) (v : PassRecord) (y z : Content) (h : IsTurnOf t v y z) where
  abbrev job : TableJob
  job = job_of t.table.now

  abbrev moment : Moment
  moment = joined h.seen.table.views

  parts : Parts (job_of t.table.now) h.seen.table (joined h.seen.table.views)
  parts = joined_parts job h.seen.table h.seen.rule

  share : Share (job_of t.table.now) (joined h.seen.table.views) t.shard y
  share = seen_share job t.shard v y h.seen

  -- what the shard had for the item when its turn was taken
  may_take : (i : Item) (tile : Option (List ℤ)) → IsNext (job_of t.table.now).matched (job_of t.table.now).given i tile
      v → shard_of_item (shard_of (job_of t.table.now).matched (job_of t.table.now).shards) i ≡ t.shard
      → MayTakeItem (job_of t.table.now).matched i tile y
  may_take (item.Edge e) tile next at =
      let P : Plan = job.matched in let G : Data = job.given in let of : Placement = shard_of P job.shards in
      let may : MaySend P G moment.state (item.Edge e) = seen_next job t.shard v y h.seen (item.Edge e) tile next in
      let flow = edge_flow P G parts.consistent moment.state parts.sound e may in (
        record {
          task = target_is_task P G parts.consistent of t.shard moment parts.sound e may;
          flow = flow.0;
          is_flow = flow.1;
          flow_number = target_flow P G parts.consistent of t.shard moment parts.sound e may;
          some_goal = target_goal P G parts.consistent of t.shard moment parts.sound e may;
          waits = target_waits P G parts.consistent of t.shard moment parts.sound e may y at share;
          fits = by_test (is_data (Some flow.0.kind))
              (λ carries. let p = edge_typed P G parts.consistent moment.state parts.sound e may t.table.now.fit t.table.now.well_made flow.0 flow.1 carries in
              subst (λ (o : Option (List ℤ)). IfSome o (IsTileOf y.elems flow.0.datatype)) (sym (next.tile ∙ p.1))
              (subst (λ (ns : List ℕ). IsTileOf ns flow.0.datatype p.0) (sym share.elems) p.2))
              (λ none. subst (λ (o : Option (List ℤ)). IfSome o (IsTileOf y.elems flow.0.datatype))
              (sym (next.tile ∙ edge_empty P G parts.consistent moment.state parts.sound e may flow.0 flow.1 none))
              tt);
        },
        goal_found (entry_of y e.to) (goal P e.to) (priority P e.to)
            (λ x is. (target_entry P G parts.consistent of t.shard moment parts.sound e may y at share x is).0),
      )
  may_take (item.Write w) tile next at =
      let P : Plan = job.matched in let G : Data = job.given in
      let may : MaySend P G moment.state (item.Write w) = seen_next job t.shard v y h.seen (item.Write w) tile next in
      let p = write_typed P G parts.consistent moment.state parts.sound w may t.table.now.fit t.table.now.well_made in record {
        task = (parts.sound.claimed_have_all w.from may.claimed).task;
        flow = p.0;
        is_flow = p.2;
        carries = ap is_some (next.tile ∙ p.3);
        fits = subst (λ (o : Option (List ℤ)). IfSome o (IsTileOf y.elems p.0.datatype)) (sym (next.tile ∙ p.3))
            (subst (λ (ns : List ℕ). IsTileOf ns p.0.datatype p.1) (sym share.elems) p.4);
      }

  -- and its spares for it, in a preloaded table
  has_spare : (i : Item) (tile : Option (List ℤ)) → IsNext (job_of t.table.now).matched (job_of t.table.now).given i
      tile v → shard_of_item (shard_of (job_of t.table.now).matched (job_of t.table.now).shards) i ≡ t.shard
      → (job_of t.table.now).preloaded ≡ true → HasSpareForItem (job_of t.table.now).matched i tile y
  has_spare (item.Edge e) tile next at pre =
      let P : Plan = job.matched in let G : Data = job.given in let of : Placement = shard_of P job.shards in
      let may : MaySend P G moment.state (item.Edge e) = seen_next job t.shard v y h.seen (item.Edge e) tile next in
      let spares : Reserve job moment t.shard y = seen_reserve job t.shard v y h.seen pre in record {
        entry = λ none. spare-entry P G parts.consistent of t.shard moment parts.sound e may at y spares none;
        tiles = λ d typed some. let x = some_value tile some in spare-edge_tile P G parts.consistent of t.shard moment
            parts.sound e may at y d x.0 spares typed (sym next.tile ∙ x.1);
      }
  has_spare (item.Write w) tile next at pre =
      let P : Plan = job.matched in let G : Data = job.given in let of : Placement = shard_of P job.shards in
      let may : MaySend P G moment.state (item.Write w) = seen_next job t.shard v y h.seen (item.Write w) tile next in
      let spares : Reserve job moment t.shard y = seen_reserve job t.shard v y h.seen pre in record {
        place = spare-write P G parts.consistent of t.shard moment parts.sound w may at y spares;
        tiles = λ d typed. spare-write_tile P G parts.consistent of t.shard moment parts.sound w may at y d spares typed;
      }

  module _ (i : Item) (tile : Option (List ℤ)) (next : IsNext (job_of t.table.now).matched (job_of t.table.now).given i
      tile (shown t.pass.now)) (at : shard_of_item (shard_of (job_of t.table.now).matched (job_of t.table.now).shards) i
      ≡ t.shard) where
    -- the item was already the next one before the pass took the turn
    next_at_first : IsNext (job_of t.table.now).matched (job_of t.table.now).given i tile v
    next_at_first = let n = subst (λ (m : Seated). IsNext job.matched job.given i tile m.0) h.me
        next in record { runs = n.runs; is_item = n.is_item; outputs = n.outputs; unsent = n.unsent; tile = n.tile }

    pub send_may : (d : Content) → d ≡ z → MayTakeItem (job_of t.table.now).matched i tile d
    send_may d is = may_along job.matched i tile y d (ap (λ (c : Content). c.entries) is ∙ h.same.entries)
        (ap (λ (c : Content). c.elems) is ∙ h.same.elems) (may_take i tile next_at_first at)

    pub send_spare : (job_of t.table.now).preloaded ≡ true → (d : Content) → d ≡ z → HasSpareForItem (job_of t.table.now).matched i tile d
    send_spare pre d is = spare_along job.matched i tile y d (ap (λ (c : Content). c.entries) is ∙ h.same.entries)
        (subst (λ (c : Content). Uses y.spare c.spare 0 None 0 0) (sym is) h.spares)
        (has_spare i tile next_at_first at pre)

    stamped : 0 < own_stamps v (sender i)
    stamped = let s = h.stamp (sender i) next_at_first.runs in omega (
      arith,
      ap (λ l. weigh (λ (x : StampedTask). as_number (same_task (sender i) x.0)) l) s.is_last,
      weigh-push (λ (x : StampedTask). as_number (same_task (sender i) x.0)) s.earlier (sender i, t.pass.now.stamp),
      ap as_number ((same_task-decides (sender i) (sender i)).1 refl),
    )

    module _ (p : PassView) (is : p ≡ t.pass.now) where
      me0 : p.me.0 ≡ with_turn v t.shard y
      me0 = ap (λ (q : PassView). q.me.0) is ∙ ap (λ (m : Seated). m.0) h.me

      -- the pass has room for a credit, and a name
      pub send_room : p.me.0.credit < length p.me.0.turns
      send_room = omega (arith, ap (λ (u : PassRecord). u.credit) me0, ap (λ (u : PassRecord). length u.turns) me0, h.clean.no_credit)

      pub send_named : HasName p.me.0
      send_named = subst HasName (sym me0) (omega (arith, h.one_name))

      -- the send is allowed after the live word was raised as the answer says
      pub sends_item : (a : Answer) (d w : Content) → d ≡ z → AnswersFor (job_of t.table.now).matched d i a
          → TakesItem (job_of t.table.now).matched i tile d w → (m : Seated)
          → m ≡ (credited a p.me.0, (t.shard, w) ∷ rest p.me.1) → MayGiveSend (job_of t.table.now) t.shard i tile m
      sends_item a d w here answers takes m raised = subst (MayGiveSend job t.shard i tile) (sym raised)
          (subst (λ (u : PassRecord). MayGiveSend job t.shard i tile (credited a u, (t.shard, w) ∷ rest p.me.1))
          (sym me0) (record {
            before = y;
            after = w;
            turn = record {
              slot = ap (λ l. (t.shard, w) ∷ l) (ap (λ (q : PassView). rest q.me.1) is ∙ ap (λ (k : Seated). rest k.1) h.me);
              turn = ap (λ l. (t.shard, y) ∷ l) h.clean.no_turn;
              named = omega (arith, h.one_name);
              credit = ap (credit_after a) h.clean.no_credit ∙ credit_is job.matched i a y tile
                  (may_take i tile next_at_first at) (answers_along job.matched i a y d
                  (ap (λ (c : Content). c.entries) here ∙ h.same.entries) answers);
            };
            next = record {
              runs = next_at_first.runs;
              is_item = next_at_first.is_item;
              outputs = next_at_first.outputs;
              unsent = next_at_first.unsent;
              tile = next_at_first.tile;
            };
            at = at;
            stamped = stamped;
            takes = takes_since job.matched i tile y d w
                (record {
                  entries = ap (λ (c : Content). c.entries) here
                      ∙ h.same.entries;
                  written = ap (λ (c : Content). c.written) here
                      ∙ h.same.written;
                  trapped = ap (λ (c : Content). c.trapped) here
                      ∙ h.same.trapped;
                  running = ap (λ (c : Content). c.running) here
                      ∙ h.same.running;
                  ended = ap (λ (c : Content). c.ended) here
                      ∙ h.same.ended;
                  elems = ap (λ (c : Content). c.elems) here ∙ h.same.elems;
                })
                (subst (λ (c : Content). Uses y.spare c.spare 0 None 0 0) (sym here) h.spares) takes;
          }))

      -- the pass after the send
      module _ (a : Answer) (q : PassView) (r : List (ℕ × Content))
          (me : q.me ≡ (turn_left (with_own_send (credited a p.me.0) record { item = i; tile = tile }), r)) where
        is_final : shown q ≡ turn_left (with_own_send (with_turn v t.shard y) record { item = i; tile = tile })
        is_final = ap (λ (m : Seated). m.0) me ∙ ap (λ (u : PassRecord). turn_left (with_own_send (credited a u) record { item = i; tile = tile })) me0

        pub send_pass : q.table ≡ p.table → q.stamp ≡ p.stamp → r ≡ [] → IsPassOf (id_of t.table.now) q
        send_pass of stamp empty = record {
          of = of ∙ (ap (λ (k : PassView). k.table) is ∙ h.of);
          clean = record {
            no_shard = ap (λ (m : Seated). m.1) me ∙ empty;
            clean = subst IsClean (sym is_final) (record { no_turn = h.clean.no_turn; no_credit = refl; stamped = h.clean.stamped });
            one_name = ap (λ (u : PassRecord). length u.names) is_final ∙ h.one_name;
          };
          stamp = λ x runs. let s = h.stamp x (sym (ap (λ (u : PassRecord). u.running) is_final) ∙ runs) in record {
            earlier = s.earlier;
            is_last = ap (λ (u : PassRecord). u.stamps) is_final
                ∙ (s.is_last ∙ ap (λ n. s.earlier ++ (x, n) ∷ []) (sym (stamp ∙ ap (λ (k : PassView). k.stamp) is)));
          };
        }

        pub has_sent : (d : Content) → d ≡ z → AnswersFor (job_of t.table.now).matched d i a → HasSent (job_of t.table.now).matched t.shard i tile a v (shown q)
        has_sent d here answers = subst (λ (u : PassRecord). HasSent job.matched t.shard i tile a v u) (sym is_final) (record {
          shard = y;
          took = record { look = refl; looks = refl; last = refl };
          answer = answers_along job.matched i a y d (ap (λ (c : Content). c.entries) here ∙ h.same.entries) answers;
          added = record {
            sends = refl;
            claims = refl;
            stamps = refl;
            handed = refl;
            running = refl;
            kept = record { names = refl; turns = refl; quiet = refl; halts = refl; credit = sym h.clean.no_credit };
          };
        })

        pub send_last : (shown q).last ≡ (t.shard, y) ∷ []
        send_last = ap (λ (u : PassRecord). u.last) is_final
