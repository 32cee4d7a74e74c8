-- A turn is given back with a send.
use Rattle.std.proofs.Common.{◌≡◌, ℕ, ℤ, ◌+◌, ◌<◌, ◌≢◌, true, List, [], ◌∷◌, ◌++◌, length, get_or, sym, refl, ap, ◌∙◌}
use Rattle.std.proofs.Common.{subst, inl, inr, ⊎_elim, arith, eq-eqb, eqb-true, Option, Some, None, IsTrue, is_some}
use Rattle.std.proofs.Common.{if◌then◌else◌}
use Rattle.std.proofs.lemmas.Bool.{false≢true}
use mathlib.Core.Logic.{dite}
use mathlib.Core.Option.{none, some, some-injective}
use native.Mathlib.Decide.{ℕ_discrete}
use lib.ListN.{get_elem?}
use Rattle.atomic_table.specs.Table.{Allows, gives, rest, step, stepped}
use Rattle.ptg_base.specs.Lists.{IsIn}
use Rattle.ptg_base.specs.Task.{Task}
use Rattle.ptg_base.specs.TaskComparing.{same_task}
use Rattle.ptg_base.specs.TaskLaws.{same_task-decides}
use Rattle.ptg_base.specs.declared.edge.Edge.{Edge}
use Rattle.ptg_base.specs.declared.edge.Item.{Item}
use Rattle.ptg_base.specs.declared.edge.Item.TheVariants as item
use Rattle.ptg_base.specs.declared.edge.WriteBack.{WriteBack}
use Rattle.list_lemmas.proofs.Members.{from_append}
use Rattle.list_lemmas.proofs.Truth.{by_test}
use Rattle.list_lemmas.proofs.Counts.{count-some, some_passes, weigh-one}
use Rattle.plan_core.specs.declared.plan.Plan.{Plan}
use Rattle.plan_core.specs.Kinds.{flow_of}
use Rattle.coll_data.specs.Data.{Data}
use Rattle.dep_iter.specs.Consistent.{IsConsistent}
use Rattle.dep_iter.specs.Edges.{goal}
use Rattle.dep_iter.specs.Hints.{priority}
use Rattle.dep_iter.specs.Items.{item_flow}
use Rattle.dep_shard.specs.Content.{Content, KeepsAllButEntries, KeepsAllButWritten, Updates, Uses, entry_before, entry_of, with_arrival}
use Rattle.flow_meaning.specs.Comparing.{same_item}
use Rattle.list_lemmas.specs.Counting.{as_number, count, weigh}
use Rattle.flow_meaning.specs.Ending.{output_tile}
use Rattle.flow_meaning.specs.Machine.{MaySend, SentItem, end_in, send_count, sender, sent_with}
use Rattle.flow_meaning.specs.Sound.{IsSoundState}
use Rattle.flow_meaning.specs.Table.{ready_tasks}
use Rattle.flow_meaning.proofs.CallerLemmas.{claim_member, ends_so, same_item-decides, send_sound}
use Rattle.shard_meaning.specs.Moment.{Moment, with_send}
use Rattle.shard_meaning.specs.Reserve.{has_type}
use Rattle.shard_meaning.specs.Share.{Placement}
use Rattle.shard_meaning.proofs.CallerLemmas.{edge_away, edge_here, finished-send, next_may, ready-fires, ready-waits, ready-write, ready_count, reserve-edge}
use Rattle.shard_meaning.proofs.CallerLemmas.{reserve-send_away, reserve-write, target_fires, write_away, write_here}
use Rattle.work_board.specs.Records.{done_by}
use Rattle.work_board.specs.Sends.{IsNext}
use Rattle.work_board.specs.declared.record.PassRecord.{PassRecord}
use Rattle.table_rule.specs.declared.table_job.TableJob.{TableJob}
use Rattle.table_rule.specs.Changes.{turn_left, with_own_send}
use Rattle.table_rule.specs.Live.{OwnsLives, own_claims, own_stamps}
use Rattle.table_rule.specs.Owning.{OwnsWork}
use Rattle.shard_meaning.specs.Placing.{shard_of}
use Rattle.table_rule.specs.Plays.{GivesSend, HasName, HasTurn, Seated, fires}
use Rattle.table_rule.specs.Rule.{Parts, Reserve, Rule, Share, Table}
use Rattle.table_rule.specs.Words.{live_word, stamp_word, turn_word}
use Rattle.table_rule.proofs.Ending.{it_runs, own_run, sound_moment}
use Rattle.table_rule.proofs.Giving.{holds_turn}
use Rattle.table_rule.proofs.Living.{live_kept}
use Rattle.table_rule.proofs.Moving.{given_back}
use Rattle.table_rule.proofs.Naming.{named_not_empty}
use Rattle.table_rule.proofs.Passes.{send_records}
use Rattle.table_rule.proofs.Weighing.{terms_le, weightless}
use Rattle.work_board.specs.Stamps.{StampedTask}

-- how often a pass sent an item
abbrev own_sends : Item → PassRecord → ℕ
own_sends i v = weigh (λ (x : SentItem). as_number (same_item i x.item)) v.sends

-- the item that a pass may send next, by its own record, may be sent
module _ (j : TableJob) (s : Table) (R : Moment) (r : Parts j s R) (id : ℕ) (v : PassRecord)
    (me : get_elem? s.views id ≡ some v) (i : Item) (tile : Option (List ℤ)) (next : IsNext j.matched j.given i tile v)
  where
    own_claimed : 0 < own_claims v (sender i)
    own_claimed = omega (
      arith,
      own_run s.views R r.records id v me (sender i) next.runs,
      (r.owned.each id v me).running
          (λ u. as_number (same_task (sender i) u)),
    )

    -- what a pass sent belongs to a task that it claimed
    sent_claimed : (u : PassRecord) → OwnsWork u → 0 < own_sends i u → 0 < own_claims u (sender i)
    sent_claimed u o h =
        let p = some_passes (λ (x : SentItem). same_item i x.item) u.sends h in
        let x : SentItem = p.0 in
        let is_i : i ≡ x.item = (same_item-decides i x.item).0 p.2 in
        count-some (same_task (sender i)) u.claims (sender x.item) (o.sends x p.1) ((same_task-decides (sender i) (sender x.item)).1 (ap sender is_i))

    -- so no other pass sent it
    unsent_yet : send_count R.state i ≡ 0
    unsent_yet = r.records.sends (λ (x : SentItem). as_number (same_item i x.item)) ∙ weightless (own_sends i) s.views (λ n u e. dite (ℕ_discrete n id)
        (λ q. let is_v : u ≡ v = some-injective u v (sym e ∙ (ap (λ k. get_elem? s.views k) q ∙ me)) in ap (own_sends i) is_v ∙ next.unsent)
        (λ ne. dite (ℕ_discrete (own_sends i u) 0) (λ z. z) (λ nz.
        absurd (omega (
          arith,
          own_claimed,
          sent_claimed u (r.owned.each n u e) (omega arith),
          terms_le
              (λ (w : PassRecord). own_claims w (sender i)) s.views id n v u ne me e,
          r.records.claims
              (λ z. as_number (same_task (sender i) z)),
          r.sound.claimed_once (sender i),
        )))))

    pub may_send : MaySend j.matched j.given R.state i
    may_send = next_may j.matched j.given r.consistent R (sound_moment j s R r) i
        (record {
          runs = it_runs s.views R r.records id v me (sender i) next.runs;
          unsent = unsent_yet;
          is_item = next.is_item;
          outputs = next.outputs;
        })

    -- and its tile is that of the event
    pub sent_is : record { item = i; tile = tile } ≡ sent_with j.matched j.given R.state i
    sent_is = let tile_is : tile ≡ output_tile (end_in j.matched j.given R.state (sender i)) (item_flow i) = next.tile
        ∙ ap (λ o. output_tile o (item_flow i)) (ends_so j.matched j.given r.consistent R.state r.sound (sender i)
        (r.sound.claimed_have_all (sender i) may_send.claimed)) in
        λ n. record { item = i; tile = tile_is n }

-- the pass after the send
send_owns : (v : PassRecord) (x : SentItem) → HasName v → v.running ≡ sender x.item ∷ [] → OwnsWork v → OwnsWork (turn_left (with_own_send v x))
send_owns v x named runs o = record {
  running = o.running;
  sends = λ y i. ⊎_elim (λ old. o.sends y old) (λ new. ⊎_elim
      (λ (e : y ≡ x). subst (λ (t : Task). IsIn t v.claims) (sym (ap (λ (z : SentItem). sender z.item) e)) mine)
      (λ never. absurd never) new) (from_append y v.sends (x ∷ []) i);
  nameless = λ e. absurd (named_not_empty v.names named e);
}
  where
    mine : IsIn (sender x.item) v.claims
    mine = claim_member (done_by v) (sender x.item) (omega (
      arith,
      o.running
          (λ u. as_number (same_task (sender x.item) u)),
      ap (weigh (λ u. as_number (same_task (sender x.item) u))) runs,
      ap as_number ((same_task-decides (sender x.item) (sender x.item)).1 refl),
    ))

send_lives : (v : PassRecord) (x : SentItem) (k : ℕ) (y₀ : Content) → v.turns ≡ (k, y₀) ∷ [] → OwnsWork v → OwnsLives v
    → OwnsLives (turn_left (with_own_send v x))
send_lives v x k y₀ turn o l = record {
  credit = omega (
    arith,
    o.running (λ _. 1),
    weigh-one v.running,
    weigh-one
        v.claims,
  );
  stamps = l.stamps;
  stamped = l.stamped;
}

-- a task with a stamp has one in the list
stamp_in : (v : PassRecord) (t : Task) → 0 < own_stamps v t → (s : ℕ) × IsIn (t, s) v.stamps
stamp_in v t h =
    let p = some_passes (λ (x : StampedTask). same_task t x.0) v.stamps h in
    let x : StampedTask = p.0 in
    (x.1, subst (λ (u : Task). IsIn (u, x.1) v.stamps) (sym ((same_task-decides t x.0).0 p.2)) p.1)

-- what a send changes in the shards and in the number of ready tasks
record Sending (j : TableJob) (R : Moment) (i : Item) (k credits : ℕ) (y₀ y : Content) : Type 0 where
  here : Share j R k y₀ → Share j (with_send j.matched j.given R i) k y
  others : (x : ℕ) (z : Content) → x ≢ k → Share j R x z → Share j (with_send j.matched j.given R i) x z
  spare : j.preloaded ≡ true → Reserve j R k y₀ → Reserve j (with_send j.matched j.given R i) k y
  ready : Share j R k y₀ → length (ready_tasks j.matched (with_send j.matched j.given R i).state) ≡ length (ready_tasks j.matched R.state) + credits

-- the turn is given back with a send
sends : (j : TableJob) (n id : ℕ) (m : Seated) (k : ℕ) (i : Item) (tile : Option (List ℤ)) (y₀ y : Content)
    (credits : ℕ) → HasTurn m k y₀ y credits → IsNext j.matched j.given i tile m.0 → 0 < own_stamps m.0 (sender i)
    → ((R : Moment) → IsSoundState j.matched j.given R.state → IsConsistent j.matched → MaySend j.matched j.given R.state i → Sending j R i k credits y₀ y)
    → Allows (Rule j) n id m (turn_word k) (λ _. 0) (λ _. GivesSend record { item = i; tile = tile } (step n (turn_word k) 0 0 none) m 0)
sends j n id m k i tile y₀ y credits h next stamped does s rule wide me _ = let P : Plan = j.matched in let G : Data = j.given in
    let R : Moment = rule.0 in let r = rule.1 in let v : PassRecord = m.0 in let x : SentItem = record
    { item = i; tile = tile } in let w : PassRecord = turn_left (with_own_send v x) in
    let held = holds_turn m k y₀ y credits h in
    let share = r.held id v me k y₀ held in
    let may : MaySend P G R.state i = may_send j s R r id v me i tile next in
    let own = it_runs s.views R r.records id v me (sender i) next.runs in
    let busy : R.running ≡ [] → ⊥ = λ e. absurd (omega (arith, own, ap (λ l. count (same_task (sender i)) l) e)) in
    let d = does R r.sound r.consistent may in
    let stamp = stamp_in v (sender i) stamped in (
      w,
      gives,
      tt,
      subst (λ (c : List (ℕ × Content)). Rule j (stepped s (turn_word k) 0 id c w gives)) (sym h.slot) (
        with_send P G R i,
        given_back j s id v w k y₀ y [] R (with_send P G R i) r me h.turn (ap rest h.turn) (record {
          records = send_records s.views id v w me P G R i x (sent_is j s R r id v me i tile next) refl refl refl r.records;
          sound = send_sound P G r.consistent R.state r.sound i may;
          finished = finished-send P G R r.finished i may;
          owns = send_owns v x h.named next.runs (r.owned.each id v me);
          handed = let g = r.handed id v me in record { tasks = g.tasks; inputs = g.inputs };
          names = refl;
          halts = refl;
          here = d.here share;
          others = d.others;
          calms = λ c. absurd (busy c.none_runs);
          sees = λ q. absurd (busy (r.quieted.calm id v me q).none_runs);
          live = live_kept P R (with_send P G R i) (get_or s.words (live_word j.shards) 0) (get_or s.words (stamp_word j.shards) 0) s.views id v w me
              (omega (arith, d.ready share, h.credit)) (send_lives v x k y₀ h.turn (r.owned.each id v me) (r.live.each id v me)) refl
              (λ z q. ⊎_elim (λ old. inl old) (λ new. ⊎_elim
              (λ (e : z ≡ sent_with P G R.state i). inr (
                stamp.0,
                subst
                    (λ (u : SentItem). IsIn (sender u.item, stamp.0) v.stamps) (sym e) stamp.1,
              )) (λ never. absurd never)
              new) (from_append z R.state.sends (sent_with P G R.state i ∷ []) q)) r.live;
          spare_here = λ pre. d.spare pre ((r.reserved pre).held id v me k y₀ held);
          spare_others = λ pre z c ne q. reserve-send_away P (shard_of P j.shards) z G R i may c q;
        }),
      ),
      refl,
    )

-- an edge: a credit is spent if and only if its target fires
pub sends_edge : (j : TableJob) (n id : ℕ) (m : Seated) (k : ℕ) (e : Edge) (tile : Option (List ℤ)) (y₀ y : Content)
    (datatype : ℕ) → HasTurn m k y₀ y (as_number (fires j.matched y₀ e))
    → IsNext j.matched j.given (item.Edge e) tile m.0
    → shard_of j.matched j.shards e.to ≡ k → 0 < own_stamps m.0 e.from
    → Updates y₀.entries y.entries e.to (Some (with_arrival (entry_before y₀ e.to (goal j.matched e.to)
    (priority j.matched e.to)) e.in_flow tile)) → KeepsAllButEntries y₀ y
    → IsTrue (has_type datatype (flow_of j.matched.classes e.to.class e.in_flow))
    → Uses y₀.spare y.spare (if is_some (entry_of y₀ e.to) then 0 else 1)
    (if is_some tile then Some datatype else None) 0 0
    → Allows (Rule j) n id m (turn_word k) (λ _. 0) (λ _. GivesSend record { item = item.Edge e; tile = tile } (step n (turn_word k) 0 0 none) m 0)
sends_edge j n id m k e tile y₀ y datatype h next at stamped updates kept typed
    uses = let P : Plan = j.matched in let G : Data = j.given in let of : Placement = shard_of P j.shards in
    sends j n id m k (item.Edge e) tile y₀ y (as_number (fires P y₀ e)) h next stamped (λ R sound con may. record {
      here = λ share. edge_here P G con of k R sound e may y₀ y at
          (subst (λ t. Updates y₀.entries y.entries e.to (Some
          (with_arrival (entry_before y₀ e.to (goal P e.to) (priority P e.to)) e.in_flow t))) next.tile updates) kept
          share;
      others = λ x z ne q. edge_away P G con of x R sound e may z (λ d. ne (sym d ∙ at)) q;
      spare = λ pre q. reserve-edge P G con of k R sound e may at y₀ y
          (with_arrival (entry_before y₀ e.to (goal P e.to) (priority P e.to)) e.in_flow tile) datatype updates typed
          (subst (λ (t : Option (List ℤ)). Uses y₀.spare y.spare (if is_some (entry_of y₀ e.to) then 0 else 1)
          (if is_some t then Some datatype else None) 0 0) next.tile uses) q;
      ready = λ share. by_test (fires P y₀ e)
          (λ yes_fires. omega (
            arith,
            ready_count P R.state,
            ready_count P (with_send P G R (item.Edge e)).state,
            ready-fires P G con R.state sound e may ((target_fires P G con of k R sound e may y₀ at share tile).0
                (eqb-true ((entry_before y₀ e.to (goal P e.to) (priority P e.to)).arrived + 1)
                (entry_before y₀ e.to (goal P e.to) (priority P e.to)).goal yes_fires)),
            ap as_number yes_fires,
          ))
          (λ not_yet. omega (
            arith,
            ready_count P R.state,
            ready_count P (with_send P G R (item.Edge e)).state,
            ready-waits P G con R.state sound e may (λ all. false≢true
                (sym not_yet ∙ eq-eqb ((entry_before y₀ e.to (goal P e.to) (priority P e.to)).arrived + 1)
                (entry_before y₀ e.to (goal P e.to) (priority P e.to)).goal
                ((target_fires P G con of k R sound e may y₀ at share tile).1 all))),
            ap as_number not_yet,
          ));
    })

-- a write-back
pub sends_write : (j : TableJob) (n id : ℕ) (m : Seated) (k : ℕ) (b : WriteBack) (tile : List ℤ) (y₀ y : Content)
    (datatype : ℕ) → HasTurn m k y₀ y 0 → IsNext j.matched j.given (item.Write b) (Some tile) m.0
    → shard_of j.matched j.shards b.from ≡ k → 0 < own_stamps m.0 b.from
    → y.written ≡ y₀.written ++ (b, tile) ∷ [] → KeepsAllButWritten y₀ y
    → IsTrue (has_type datatype (flow_of j.matched.classes b.from.class b.flow)) → Uses y₀.spare y.spare 0 (Some datatype) 1 0
    → Allows (Rule j) n id m (turn_word k) (λ _. 0) (λ _. GivesSend record { item = item.Write b; tile = Some tile } (step n (turn_word k) 0 0 none) m 0)
sends_write j n id m k b tile y₀ y datatype h next at stamped written kept typed
    uses = let P : Plan = j.matched in let G : Data = j.given in let of : Placement = shard_of P j.shards in
    sends j n id m k (item.Write b) (Some tile) y₀ y 0 h next stamped (λ R sound con may. record {
      here = λ share. write_here P G con of k R sound b may y₀ y tile at (sym next.tile) written kept share;
      others = λ x z ne q. write_away P G con of x R sound b may z (λ d. ne (sym d ∙ at)) q;
      spare = λ pre q. reserve-write P G con of k R sound b may at y₀ y datatype kept typed uses q;
      ready = λ share. omega (arith, ready_count P R.state, ready_count P (with_send P G R (item.Write b)).state, ready-write P G con R.state sound b may);
    })
