-- The run of a task, part by part: what happens to the state, and to each rank.
use Rattle.std.proofs.Common.{◌≡◌, ◌≢◌, ◌<◌, ◌==◌, ℕ, Bool, true, false, not, cond, List, [], ◌∷◌, ◌++◌, map, filter}
use Rattle.std.proofs.Common.{refl, ap, sym, ◌∙◌, subst, append_assoc, inl, inr, Some, Ok, Err, Result, IsOk, OnOk}
use Rattle.std.proofs.Common.{IsSome, IfSome, arith}
use Rattle.std.proofs.lemmas.Bool.{false≢true, eqb-true}
use Rattle.std.proofs.lemmas.List.{append-nil, map-append}
use Rattle.ptg_base.specs.Entry.{FlowTile}
use Rattle.ptg_base.specs.Lists.{HasNoRepeats, IsIn}
use Rattle.ptg_base.specs.TaskLaws.{same_task-decides}
use Rattle.ptg_base.specs.declared.edge.Edge.{Edge}
use Rattle.ptg_base.specs.declared.edge.WriteBack.{WriteBack}
use Rattle.ptg_base.specs.declared.edge.Item.{Item}
use Rattle.ptg_base.specs.declared.edge.Item.TheVariants as item
use Rattle.term_core.specs.declared.trap.Trap.{Trap}
use Rattle.list_lemmas.proofs.Members.{IsIn-append_left, IsIn-append_right, from_append, from_map, IsIn-filter}
use Rattle.list_lemmas.proofs.Distinct.{HasNoRepeats-left}
use Rattle.plan_core.specs.declared.plan.Plan.{Plan}
use Rattle.coll_data.specs.Data.{Data}
use Rattle.dep_iter.specs.Items.{items, out_edges, write_backs}
use Rattle.dep_iter.specs.Tasks.{IsTask}
use Rattle.dep_shard.specs.Content.{Content, Ends, IsTileOf, KeepsEntriesAndWritten, Takes}
use Rattle.flow_meaning.specs.Backward.{ended}
use Rattle.list_lemmas.specs.Counting.{as_number}
use Rattle.flow_meaning.specs.Ending.{has_outputs, output_tile}
use Rattle.flow_meaning.specs.Machine.{Claim, Event, Happen, end_in, IsPossible, MachineState, MaySend, Send, SentItem}
use Rattle.flow_meaning.specs.Machine.{sender, sent_with, state_after, item_from}
use Rattle.flow_meaning.specs.Sound.{IsSoundState}
use Rattle.flow_meaning.proofs.CallerLemmas.{claim_sound, happen_sound, item_sender}
use Rattle.shard_meaning.specs.Moment.{Moment, run_count, with_claim, with_end, with_send, without_task}
use Rattle.shard_meaning.specs.Share.{IsShardOf}
use Rattle.shard_meaning.proofs.CallerLemmas.{claim_away, claim_here, edge_away, edge_here, end_away, end_here, numbers_at_most, sent_is, some_runs}
use Rattle.shard_meaning.proofs.CallerLemmas.{trap_here, write_away, write_here, write_typed}
use Rattle.rank_core.specs.World.{edges_within, is_between, items_by, items_within, rank_of}
use Rattle.rank_core.proofs.Items.{within_is_item, within_once}
use Rattle.rank_core.proofs.Happening.{items_with, items_without, part_happens, run_ends}
use Rattle.rank_core.specs.declared.running_task.RunningTask.{RunningTask}
use Rattle.rank_core.specs.Keeping.{idle_moment}
use Rattle.shard_calls.specs.Taken.{MayTakeEdge, MayTakeWrite, TakesEdge, TakesWrite}
use Rattle.rank_core.specs.RunningTasks.{HoldsAt, IsRunningTask, after, before, data_of, its_writes, part_way, plan_of}
use Rattle.rank_core.specs.RunningTasks.{task_of}
use Rattle.rank_core.proofs.Delivering.{may_take_edge}

happen-last : (P : Plan) (G : Data) (es : List Event) (e : Event) (S T U : MachineState) → Happen P G (es ++ e ∷ []) S U
    → Happen P G es S T → IsPossible P G T e
happen-last P G [] e S T U h k = subst (λ V. IsPossible P G V e) k h.0
happen-last P G (x ∷ es) e S T U h k = happen-last P G es e (state_after P G S x) T U h.1 k.1

-- those of these edges that stay within the task's rank
abbrev pub within_among : RunningTask → List Edge → List Edge
within_among v es = filter (λ e. not (is_between (plan_of v) v.ranks e)) es

-- those of these edges that go to another rank
abbrev pub between_among : RunningTask → List Edge → List Edge
between_among v es = filter (is_between (plan_of v) v.ranks) es

-- what an `OnOk` says of an `Ok`
pub get_ok : {X E Q : Type 0} (r : Result X E) → IsOk r → OnOk r Q → Q
get_ok (Ok x) k q = q
get_ok (Err e) k q = absurd (false≢true k)

module _ (v : RunningTask) (h : IsRunningTask v) where
  -- the task ends as its body says
  pub ends_so : ended (plan_of v) (data_of v) (task_of v) ≡ end_in (plan_of v) (data_of v) (before v).machine
      (task_of v)
  ends_so = run_ends (plan_of v) (data_of v) h.consistent v.ranks (before v) h.sound (task_of v) h.may

  -- the claim
  pub claimed_part : with_claim (idle_moment (before v).machine) (task_of v) ≡ part_way v []
  claimed_part = λ k. record {
    state = record {
      claims = (before v).machine.claims ++ (task_of v) ∷ [];
      sends = sym
          (append-nil (before v).machine.sends) k;
    };
    running = (task_of v) ∷ [];
  }

  pub claim_holds : (y z : Content) (tiles : List FlowTile) → HoldsAt v (idle_moment (before v).machine) y
      → Takes y z (task_of v) tiles → HoldsAt v (part_way v []) z
  claim_holds y z tiles holds takes =
      subst (λ R. HoldsAt v R z) claimed_part
      (claim_here (plan_of v) (data_of v) h.consistent (rank_of (plan_of v) v.ranks) v.rank
      (idle_moment (before v).machine) h.sound.state (task_of v) y z tiles (sym h.rank_is) takes holds)

  -- the state after the claim is sound
  pub claimed_sound : IsSoundState (plan_of v) (data_of v) (part_way v []).state
  claimed_sound = subst (λ (R : Moment). IsSoundState (plan_of v) (data_of v) R.state) claimed_part
      (claim_sound (plan_of v) (data_of v) h.consistent (before v).machine h.sound.state (task_of v) h.may)

  runs_one : (is : List Item) → 0 < run_count (part_way v is) (task_of v)
  runs_one is = omega (arith, ap as_number ((same_task-decides (task_of v) (task_of v)).1 refl))

  -- one of the tasks of its rank runs, so fewer have ended than a job may have
  pub ended_fewer : (y : Content) → HoldsAt v (part_way v []) y → y.ended < 1000000
  ended_fewer y holds =
      omega (
        arith,
        numbers_at_most (plan_of v) (data_of v) (rank_of (plan_of v) v.ranks) v.rank (part_way v []) y holds
            h.consistent claimed_sound,
        some_runs (plan_of v) (data_of v) (rank_of (plan_of v) v.ranks) v.rank (part_way v []) y holds (task_of v)
            (sym h.rank_is) (runs_one []),
      )

  none_left : without_task (task_of v) ((task_of v) ∷ []) ≡ []
  none_left = ap (λ b. cond b [] ((task_of v) ∷ [])) ((same_task-decides (task_of v) (task_of v)).1 refl)

  -- the end by a trap
  module _ (cause : Trap) (traps : ended (plan_of v) (data_of v) (task_of v) ≡ Some (Err cause)) where
    no_outputs : has_outputs (ended (plan_of v) (data_of v) (task_of v)) ≡ false
    no_outputs = ap has_outputs traps

    pub trap_after : with_end (part_way v []) (task_of v) ≡ idle_moment (after v).machine
    trap_after =
        let none : items_by (plan_of v) v.ranks (task_of v) (end_in (plan_of v) (data_of v) (before v).machine
        (task_of v)) ≡ [] = ap (items_by (plan_of v) v.ranks (task_of v)) (sym ends_so)
        ∙ items_without (plan_of v) v.ranks (task_of v) (ended (plan_of v) (data_of v) (task_of v)) no_outputs in
        λ k. record {
          state = record {
            claims = (before v).machine.claims ++ (task_of v) ∷ [];
            sends = (before v).machine.sends ++ sym none k;
          };
          running = none_left k;
        }

    pub trap_holds : (y z : Content) → HoldsAt v (part_way v []) y → Ends y z → KeepsEntriesAndWritten y z
        → z.trapped ≡ y.trapped ++ ((task_of v), cause) ∷ [] → HoldsAt v (idle_moment (after v).machine) z
    trap_holds y z holds ends kept trapped =
        subst (λ R. HoldsAt v R z) trap_after
        (trap_here (plan_of v) (data_of v) (rank_of (plan_of v) v.ranks) v.rank (part_way v []) (task_of v)
        (runs_one []) y z cause (sym h.rank_is) traps ends kept trapped holds)

    pub trap_away : (j : ℕ) (y : Content) → v.rank ≢ j → IsShardOf (plan_of v) (data_of v) (rank_of (plan_of v) v.ranks)
        j (idle_moment (before v).machine) y → IsShardOf (plan_of v) (data_of v) (rank_of (plan_of v) v.ranks) j
        (idle_moment (after v).machine) y
    trap_away j y other share =
        let away : rank_of (plan_of v) v.ranks (task_of v) ≢ j = λ e. other (h.rank_is ∙ e) in
        subst (λ R. IsShardOf (plan_of v) (data_of v) (rank_of (plan_of v) v.ranks) j R y) trap_after
        (end_away (plan_of v) (data_of v) (rank_of (plan_of v) v.ranks) j (part_way v []) (task_of v) (runs_one []) y
        away
        (subst (λ R. IsShardOf (plan_of v) (data_of v) (rank_of (plan_of v) v.ranks) j R y) claimed_part
        (claim_away (plan_of v) (data_of v) h.consistent (rank_of (plan_of v) v.ranks) j
        (idle_moment (before v).machine) h.sound.state (task_of v) y away share)))

  -- the items of a task that has outputs
  module _ (outputs : has_outputs (ended (plan_of v) (data_of v) (task_of v)) ≡ true) where
    abbrev all : List Item
    all = items_within (plan_of v) v.ranks (task_of v)

    is_item : (i : Item) → IsIn i all → IsIn i (items (plan_of v) (task_of v))
    is_item i m = within_is_item (plan_of v) (task_of v) v.ranks i m

    happens : (is rest : List Item) → is ++ rest ≡ all → Happen (plan_of v) (data_of v)
        (Claim (task_of v) ∷ map Send is) (before v).machine (part_way v is).state
    happens is rest split =
        part_happens (plan_of v) (data_of v) h.consistent v.ranks (before v) h.sound (task_of v) h.may outputs is
        (λ i m. is_item i (subst (IsIn i) split (IsIn-append_left i is rest m)))
        (HasNoRepeats-left is rest (subst HasNoRepeats (sym split)
        (within_once (plan_of v) h.consistent (task_of v) h.may.task v.ranks)))

    pub part_sound : (is rest : List Item) → is ++ rest ≡ all
        → IsSoundState (plan_of v) (data_of v) (part_way v is).state
    part_sound is rest split = happen_sound (plan_of v) (data_of v) h.consistent (Claim (task_of v) ∷ map Send is)
        (before v).machine (part_way v is).state h.sound.state (happens is rest split)

    longer : (is : List Item) (i : Item) (rest : List Item) → is ++ i ∷ rest ≡ all → (is ++ i ∷ []) ++ rest ≡ all
    longer is i rest split = append_assoc is (i ∷ []) rest ∙ split

    pub next_may : (is : List Item) (i : Item) (rest : List Item) → is ++ i ∷ rest ≡ all
        → MaySend (plan_of v) (data_of v) (part_way v is).state i
    next_may is i rest split =
        happen-last (plan_of v) (data_of v) (Claim (task_of v) ∷ map Send is) (Send i) (before v).machine
        (part_way v is).state (part_way v (is ++ i ∷ [])).state
        (subst (λ es. Happen (plan_of v) (data_of v) (Claim (task_of v) ∷ es) (before v).machine
        (part_way v (is ++ i ∷ [])).state) (map-append Send is (i ∷ []))
        (happens (is ++ i ∷ []) rest (longer is i rest split)))
        (happens is (i ∷ rest) split)

    pub by_task : (is : List Item) (i : Item) (rest : List Item) → is ++ i ∷ rest ≡ all → sender i ≡ (task_of v)
    by_task is i rest split = item_sender (plan_of v) (task_of v) i
        (is_item i (subst (IsIn i) split (IsIn-append_right i is (i ∷ rest) (inl refl))))

    pub next_part : (is : List Item) (i : Item) (rest : List Item) → is ++ i ∷ rest ≡ all
        → with_send (plan_of v) (data_of v) (part_way v is) i ≡ part_way v (is ++ i ∷ [])
    next_part is i rest split =
        let f : Item → SentItem = item_from (ended (plan_of v) (data_of v) (task_of v)) in
        let here : sent_with (plan_of v) (data_of v) (part_way v is).state i
        ≡ item_from (ended (plan_of v) (data_of v) (task_of v)) i =
        sent_is (plan_of v) (data_of v) h.consistent (part_way v is).state (part_sound is (i ∷ rest) split) i
        (next_may is i rest split)
        ∙ (λ k. item_from (ended (plan_of v) (data_of v) (by_task is i rest split k)) i) in
        let sends : ((before v).machine.sends ++ map (item_from (ended (plan_of v) (data_of v) (task_of v))) is) ++
        sent_with (plan_of v) (data_of v) (part_way v is).state i ∷ []
        ≡ (before v).machine.sends ++ map (item_from (ended (plan_of v) (data_of v) (task_of v))) (is ++ i ∷ []) =
        append_assoc (before v).machine.sends (map (item_from (ended (plan_of v) (data_of v) (task_of v))) is)
        (sent_with (plan_of v) (data_of v) (part_way v is).state i ∷ [])
        ∙ ap (λ x. (before v).machine.sends ++ (map (item_from (ended (plan_of v) (data_of v) (task_of v)))
        is ++ x ∷ [])) here
        ∙ ap (λ xs. (before v).machine.sends ++ xs) (sym (map-append
        (item_from (ended (plan_of v) (data_of v) (task_of v))) is (i ∷ []))) in
        λ k. record {
          state = record { claims = (before v).machine.claims ++ (task_of v) ∷ []; sends = sends k };
          running = (task_of v) ∷ [];
        }

    -- a write-back
    module _ (is : List Item) (w : WriteBack) (rest : List Item) (split : is ++ item.Write w ∷ rest ≡ all) where
      pub may_write : (y : Content) → HoldsAt v (part_way v is) y
          → MayTakeWrite (plan_of v) w (output_tile (ended (plan_of v) (data_of v) w.from) w.flow) y
      may_write y holds =
          let t = write_typed (plan_of v) (data_of v) h.consistent (part_way v is).state
          (part_sound is (item.Write w ∷ rest) split) w (next_may is (item.Write w) rest split) h.fit h.well in
          record {
            task = subst (λ u. IsTask (plan_of v) u) (sym (by_task is (item.Write w) rest split)) h.may.task;
            flow = t.0;
            is_flow = t.2;
            carries = subst IsSome (sym t.3) refl;
            fits = subst (λ o. IfSome o (IsTileOf y.elems t.0.datatype)) (sym t.3)
                (subst (λ l. IsTileOf l t.0.datatype t.1) (sym holds.elems) t.4);
          }

      pub write_holds : (y z : Content) → HoldsAt v (part_way v is) y
          → TakesWrite (plan_of v) w (output_tile (ended (plan_of v) (data_of v) w.from) w.flow) y z
          → HoldsAt v (part_way v (is ++ item.Write w ∷ [])) z
      write_holds y z holds takes =
          subst (λ R. HoldsAt v R z) (next_part is (item.Write w) rest split)
          (write_here (plan_of v) (data_of v) h.consistent (rank_of (plan_of v) v.ranks) v.rank (part_way v is)
          (part_sound is (item.Write w ∷ rest) split) w (next_may is (item.Write w) rest split) y z takes.content
          (ap (rank_of (plan_of v) v.ranks) (by_task is (item.Write w) rest split) ∙ sym h.rank_is) takes.carried
          takes.written takes.rest holds)

    -- an edge to a task of the same rank
    module _ (is : List Item) (e : Edge) (rest : List Item) (split : is ++ item.Edge e ∷ rest ≡ all)
        (within : is_between (plan_of v) v.ranks e ≡ false) where
      pub same_rank : rank_of (plan_of v) v.ranks e.to ≡ v.rank
      same_rank =
          sym (within_ranks (rank_of (plan_of v) v.ranks e.from) (rank_of (plan_of v) v.ranks e.to) within)
          ∙ ap (rank_of (plan_of v) v.ranks) (by_task is (item.Edge e) rest split) ∙ sym h.rank_is
        where
          negated : (b : Bool) → not b ≡ false → b ≡ true
          negated true k = refl
          negated false k = absurd (false≢true (sym k))

          within_ranks : (a b : ℕ) → not (a == b) ≡ false → a ≡ b
          within_ranks a b k = eqb-true a b (negated (a == b) k)

      pub may_edge : (y : Content) → HoldsAt v (part_way v is) y
          → MayTakeEdge (plan_of v) e (output_tile (ended (plan_of v) (data_of v) e.from) e.out_flow) y
      may_edge y holds =
          may_take_edge (plan_of v) (data_of v) h.consistent h.fit h.well (rank_of (plan_of v) v.ranks) v.rank
          (part_way v is) (part_sound is (item.Edge e ∷ rest) split) e (next_may is (item.Edge e) rest split)
          same_rank y holds

      pub edge_holds : (y z : Content) → HoldsAt v (part_way v is) y
          → TakesEdge (plan_of v) e (output_tile (ended (plan_of v) (data_of v) e.from) e.out_flow) y z
          → HoldsAt v (part_way v (is ++ item.Edge e ∷ [])) z
      edge_holds y z holds takes =
          subst (λ R. HoldsAt v R z) (next_part is (item.Edge e) rest split)
          (edge_here (plan_of v) (data_of v) h.consistent (rank_of (plan_of v) v.ranks) v.rank (part_way v is)
          (part_sound is (item.Edge e ∷ rest) split) e (next_may is (item.Edge e) rest split) y z same_rank
          takes.entries takes.rest holds)

    -- the end after all items
    pub end_after : with_end (part_way v all) (task_of v) ≡ idle_moment (after v).machine
    end_after =
        let sent = sym (items_with (plan_of v) v.ranks (task_of v) (ended (plan_of v) (data_of v) (task_of v)) outputs)
        ∙ ap (items_by (plan_of v) v.ranks (task_of v)) ends_so in
        λ k. record {
          state = record {
            claims = (before v).machine.claims ++ (task_of v) ∷ [];
            sends = (before v).machine.sends ++ sent k;
          };
          running = none_left k;
        }

    pub end_holds : (y z : Content) → HoldsAt v (part_way v all) y → Ends y z → KeepsEntriesAndWritten y z
        → z.trapped ≡ y.trapped → HoldsAt v (idle_moment (after v).machine) z
    end_holds y z holds ends kept trapped =
        subst (λ R. HoldsAt v R z) end_after
        (end_here (plan_of v) (data_of v) (rank_of (plan_of v) v.ranks) v.rank (part_way v all) (task_of v)
        (runs_one all) y z (sym h.rank_is) outputs ends kept trapped holds)

    -- its rank, before the end
    all_sound : IsSoundState (plan_of v) (data_of v) (part_way v all).state
    all_sound = part_sound all [] (append-nil all)

    pub last_runs : (y : Content) → HoldsAt v (part_way v all) y → 0 < y.running
    last_runs y holds = some_runs (plan_of v) (data_of v) (rank_of (plan_of v) v.ranks) v.rank (part_way v all) y holds
        (task_of v) (sym h.rank_is) (runs_one all)

    pub last_fewer : (y : Content) → HoldsAt v (part_way v all) y → y.ended < 1000000
    last_fewer y holds = omega (
      arith,
      numbers_at_most (plan_of v) (data_of v) (rank_of (plan_of v) v.ranks) v.rank
          (part_way v all) y holds h.consistent all_sound,
      last_runs y holds,
    )

    -- another rank stays as it is
    module _ (j : ℕ) (y : Content) (other : v.rank ≢ j) where
      abbrev Holds : Moment → Type 0
      Holds R = IsShardOf (plan_of v) (data_of v) (rank_of (plan_of v) v.ranks) j R y

      within_of : (i : Item) → IsIn i (map item.Edge (edges_within (plan_of v) v.ranks (task_of v)))
          → (e : Edge) × (i ≡ item.Edge e) × (is_between (plan_of v) v.ranks e ≡ false)
      within_of i m =
          let p = from_map (λ (e : Edge). item.Edge e) (edges_within (plan_of v) v.ranks (task_of v)) i m in
          let k = ((IsIn-filter (λ e. not (is_between (plan_of v) v.ranks e)) (out_edges (plan_of v) (task_of v)) p.0).0
          p.1).1 in
          (p.0, p.2, flipped (is_between (plan_of v) v.ranks p.0) k)
        where
          flipped : (b : Bool) → not b ≡ true → b ≡ false
          flipped true q = absurd (false≢true q)
          flipped false q = refl

      send_away : (is : List Item) (i : Item) (rest : List Item) → is ++ i ∷ rest ≡ all → Holds (part_way v is)
          → Holds (part_way v (is ++ i ∷ []))
      send_away is i rest split share =
          let among : IsIn i all = subst (IsIn i) split (IsIn-append_right i is (i ∷ rest) (inl refl)) in
          elim (from_append i (its_writes v) (map item.Edge (edges_within (plan_of v) v.ranks (task_of v))) among) [
            | inl written ↦
                let p = from_map (λ (w : WriteBack). item.Write w) (write_backs (plan_of v) (task_of v)) i written in
                write_by is i rest split share p.0 p.2
            | inr edge ↦
                let p = within_of i edge in
                edge_by is i rest split share p.0 p.1 p.2
          ]
        where
          write_by : (is : List Item) (i : Item) (rest : List Item) → is ++ i ∷ rest ≡ all → Holds (part_way v is)
              → (w : WriteBack) → i ≡ item.Write w → Holds (part_way v (is ++ i ∷ []))
          write_by is i rest split share w same =
              let at : is ++ item.Write w ∷ rest ≡ all = ap (λ x. is ++ x ∷ rest) (sym same) ∙ split in
              subst (λ x. Holds (part_way v (is ++ x ∷ []))) (sym same)
              (subst Holds (next_part is (item.Write w) rest at)
              (write_away (plan_of v) (data_of v) h.consistent (rank_of (plan_of v) v.ranks) j (part_way v is)
              (part_sound is (item.Write w ∷ rest) at) w (next_may is (item.Write w) rest at) y
              (λ e. other (h.rank_is ∙ ap (rank_of (plan_of v) v.ranks) (sym (by_task is (item.Write w) rest at)) ∙ e))
              share))

          edge_by : (is : List Item) (i : Item) (rest : List Item) → is ++ i ∷ rest ≡ all → Holds (part_way v is)
              → (e : Edge) → i ≡ item.Edge e → is_between (plan_of v) v.ranks e ≡ false
              → Holds (part_way v (is ++ i ∷ []))
          edge_by is i rest split share e same within =
              let at : is ++ item.Edge e ∷ rest ≡ all = ap (λ x. is ++ x ∷ rest) (sym same) ∙ split in
              subst (λ x. Holds (part_way v (is ++ x ∷ []))) (sym same)
              (subst Holds (next_part is (item.Edge e) rest at)
              (edge_away (plan_of v) (data_of v) h.consistent (rank_of (plan_of v) v.ranks) j (part_way v is)
              (part_sound is (item.Edge e ∷ rest) at) e (next_may is (item.Edge e) rest at) y
              (λ q. other (sym (same_rank is e rest at within) ∙ q)) share))

      sends_away : (is rest : List Item) → is ++ rest ≡ all → Holds (part_way v is) → Holds (part_way v all)
      sends_away is [] split share = subst (λ l. Holds (part_way v l)) (sym (append-nil is) ∙ split) share
      sends_away is (i ∷ rest) split share = sends_away (is ++ i ∷ []) rest (longer is i rest split)
          (send_away is i rest split share)

      pub run_away : Holds (idle_moment (before v).machine) → Holds (idle_moment (after v).machine)
      run_away share =
          let away : rank_of (plan_of v) v.ranks (task_of v) ≢ j = λ e. other (h.rank_is ∙ e) in
          let claimed : Holds (part_way v []) = subst Holds claimed_part
          (claim_away (plan_of v) (data_of v) h.consistent (rank_of (plan_of v) v.ranks) j
          (idle_moment (before v).machine) h.sound.state (task_of v) y away share) in
          subst Holds end_after
          (end_away (plan_of v) (data_of v) (rank_of (plan_of v) v.ranks) j (part_way v all) (task_of v) (runs_one all)
          y away (sends_away [] all refl claimed))
