-- The reserve of a shard is enough for a send of an edge to one of its tasks or of a write-back of one, and the send
-- keeps it.
use Rattle.std.proofs.Common.{◌≡◌, ℕ, ◌+◌, ◌<◌, ◌≤◌, true, false, cond, not, ◌&&◌, List, refl, ap, sym, ◌∙◌, subst, inl}
use Rattle.std.proofs.Common.{inr, arith, Option, Some, None, is_none, is_some, nat_eq, eq-eqb, ℤ, slice_index}
use Rattle.std.proofs.Common.{if◌then◌else◌, IsTrue}
use Rattle.std.proofs.lemmas.Bool.{and_from, false_from_ne_true, false≢true}
use Rattle.std.specs.Cmp.{unsigned_Decides}
use Rattle.std.specs.Prelude.{option_map}
use Rattle.ptg_base.specs.Entry.{Entry}
use Rattle.ptg_base.specs.Lists.{HasNoRepeats, IsIn}
use Rattle.ptg_base.specs.Task.{Task}
use Rattle.ptg_base.specs.TaskComparing.{same_task}
use Rattle.ptg_base.specs.TaskLaws.{same_task-decides}
use Rattle.ptg_base.specs.declared.edge.Edge.{Edge}
use Rattle.ptg_base.specs.declared.edge.WriteBack.{WriteBack}
use Rattle.ptg_base.specs.declared.edge.Item.{Item}
use Rattle.ptg_base.specs.declared.edge.Item.TheVariants as item
use Rattle.list_lemmas.proofs.Members.{IsIn-flat_map, IsIn-filter}
use Rattle.list_lemmas.proofs.Truth.{by_test, and-false}
use Rattle.list_lemmas.proofs.Counts.{count-some}
use Rattle.list_lemmas.proofs.Distinct.{count-falls, HasNoRepeats-filter, HasNoRepeats-from_map}
use Rattle.plan_core.specs.declared.flow.FlowPlan.{FlowPlan}
use Rattle.plan_core.specs.declared.plan.Plan.{Plan}
use Rattle.plan_core.specs.Kinds.{flow_of, is_data}
use Rattle.coll_data.specs.Data.{Data}
use Rattle.dep_iter.specs.Consistent.{IsConsistent, all_data, all_in, all_writes, is_data_edge}
use Rattle.dep_iter.specs.Edges.{in_edges}
use Rattle.dep_iter.specs.Items.{items, write_backs}
use Rattle.dep_iter.specs.Tasks.{IsTask, all_tasks}
use Rattle.dep_iter.proofs.CallerLemmas.{item_write, listed, once-all_tasks}
use Rattle.dep_shard.specs.Content.{Content, KeepsAllButWritten, Updates, Uses, entry_in, entry_of}
use Rattle.dep_shard.specs.Stock.{tiles_used}
use Rattle.flow_meaning.specs.Backward.{ended}
use Rattle.list_lemmas.specs.Counting.{count}
use Rattle.flow_meaning.specs.Ending.{output_tile}
use Rattle.flow_meaning.specs.Machine.{MaySend, is_sent}
use Rattle.flow_meaning.specs.Sound.{IsSoundState}
use Rattle.flow_meaning.specs.Table.{is_unclaimed}
use Rattle.flow_meaning.proofs.CallerLemmas.{ends_so, flow_is, sent_edge_in}
use Rattle.shard_meaning.specs.Moment.{Moment, with_send}
use Rattle.shard_meaning.specs.Share.{Placement, is_of}
use Rattle.shard_meaning.specs.Reserve.{HasReserve, has_type, is_due_edge, is_due_entry, is_due_write, is_due_write_tile, is_edge_of_type, is_write_of_type}
use Rattle.shard_meaning.proofs.Carrying.{Carries, carries, edge_tile}
use Rattle.shard_meaning.proofs.Due.{IsDueBefore, due-send, edges_due, ends_due, entries_due, sent_as_before, sent_now, unsent_yet, write_tiles_due, writes_due}
use Rattle.shard_meaning.proofs.Entries.{now_there, still_there, target, target_unclaimed}

-- a tile uses a spare of its type, and no other
used-here : (d n : ℕ) → d ≡ n → tiles_used (Some d) n ≡ 1
used-here d n e = ap (λ b. cond b 1 0) ((unsigned_Decides d n).1 e)

used-elsewhere : (d n : ℕ) → nat_eq d n ≡ false → tiles_used (Some d) n ≡ 0
used-elsewhere d n e = ap (λ b. cond b 1 0) e

module _ (P : Plan) (G : Data) (con : IsConsistent P) (of : Placement) (k : ℕ) (R : Moment) (sound : IsSoundState P G R.state) where
  module _ (e : Edge) (may : MaySend P G R.state (item.Edge e)) (at : of e.to ≡ k) where
    abbrev later : Moment
    later = with_send P G R (item.Edge e)

    before : IsDueBefore R later
    before = due-send P G R (item.Edge e) may

    job : IsTask P e.from
    job = (sound.claimed_have_all e.from may.claimed).task

    among_tasks : IsIn e.to (all_tasks P)
    among_tasks = (listed P e.to).0 (target P G con R.state sound of k e may)

    data_edge : Carries P G R.state e → (x : List ℤ) → edge_tile P G R.state e ≡ Some x → is_data_edge P e ≡ true
    data_edge c x some = elim c [
      | inl none ↦ absurd cc
      | inr p ↦ ap (λ o. is_data (option_map (λ (f : FlowPlan). f.kind) o)) (sym (flow_is P e.to e.in_flow) ∙ p.3) ∙ p.4
    ]

    -- an edge that carries a tile is a data edge
    among_data : (x : List ℤ) → output_tile (ended P G e.from) e.out_flow ≡ Some x → IsIn e (all_data P)
    among_data x some =
        let so = ap (λ o. output_tile o e.out_flow) (ends_so P G con R.state sound e.from (sound.claimed_have_all e.from may.claimed)) in
        (IsIn-filter (is_data_edge P) (all_in P) e).1 (
          IsIn-flat_map (in_edges P) (all_tasks P) e.to e among_tasks (sent_edge_in P con e job may.is_item),
          data_edge (carries P G R.state e job may.is_item) x (sym so ∙ some),
        )

    -- the entry of the target is due until it is there
    entry_due : (y : Content) → entry_of y e.to ≡ None → is_due_entry of k R.state y e.to ≡ true
    entry_due y none =
        and_from (is_of of k e.to) (is_unclaimed R.state e.to && is_none (entry_of y e.to)) (eq-eqb (of e.to) k at)
        (and_from (is_unclaimed R.state e.to) (is_none (entry_of y e.to)) (eq-eqb _ 0 (target_unclaimed P G con R.state sound of k e may)) (ap is_none none))

    unlike : (u : Task) → (u ≡ e.to → ⊥) → same_task e.to u ≡ false
    unlike u ne = false_from_ne_true (same_task e.to u) (λ q. ne (sym ((same_task-decides e.to u).0 q)))

    entries_after : (y z : Content) (w : Entry) → Updates y.entries z.entries e.to (Some w) → (o : Option Entry) → entry_of y e.to ≡ o
        → count (is_due_entry of k later.state z) (all_tasks P) + (if is_some o then 0 else 1) ≤ count (is_due_entry of k R.state y) (all_tasks P)
    entries_after y z w updates None none =
        omega (
          arith,
          count-falls (is_due_entry of k R.state y) (is_due_entry of k later.state z) (all_tasks P) e.to (once-all_tasks P) among_tasks (entry_due y none)
              (ap (λ o. is_of of k e.to && (is_unclaimed R.state e.to && is_none o))
              (now_there y z e.to e.to (Some w) updates ((same_task-decides e.to e.to).1 refl))
              ∙ ap (λ b. is_of of k e.to && b) (and-false (is_unclaimed R.state e.to)) ∙ and-false (is_of of k e.to))
              (λ u ne. ap (λ o. is_of of k u && (is_unclaimed R.state u && is_none o)) (still_there y z e.to u (Some w) updates (unlike u ne))),
        )
    entries_after y z w updates (Some v) some =
        omega (
          arith,
          entries_due P of k R later before y z (λ u free gone. by_test (same_task e.to u)
              (λ same. absurd (false≢true (sym (ap is_none (now_there y z e.to u (Some w) updates same)) ∙ gone)))
              (λ other. ap is_none (sym (still_there y z e.to u (Some w) updates other)) ∙ gone)),
        )

    edge_due : (d : ℕ) → has_type d (flow_of P.classes e.to.class e.in_flow) ≡ true → is_due_edge P of k d R.state e ≡ true
    edge_due d type = and_from (is_of of k e.to && is_edge_of_type P d e) (not (is_sent R.state (item.Edge e)))
        (and_from (is_of of k e.to) (is_edge_of_type P d e) (eq-eqb (of e.to) k at) type)
        (ap not (unsent_yet P G R (item.Edge e) may))

    edge_falls : (d : ℕ) (x : List ℤ) → has_type d (flow_of P.classes e.to.class e.in_flow) ≡ true
        → output_tile (ended P G e.from) e.out_flow ≡ Some x
        → count (is_due_edge P of k d later.state) (all_data P) + 1 ≡ count (is_due_edge P of k d R.state) (all_data P)
    edge_falls d x type some = count-falls (is_due_edge P of k d R.state) (is_due_edge P of k d later.state)
        (all_data P) e (HasNoRepeats-filter (is_data_edge P) (all_in P) con.no_in_edge_twice) (among_data x some)
        (edge_due d type)
        (ap (λ b. (is_of of k e.to && is_edge_of_type P d e) && not b) (sent_now P G R (item.Edge e) may)
        ∙ and-false (is_of of k e.to && is_edge_of_type P d e))
        (λ c ne. ap (λ b. (is_of of k c.to && is_edge_of_type P d c) && not b)
        (sent_as_before P G R (item.Edge e) may (item.Edge c) (λ q. ne (ap (edge_in c) q))))
      where
        edge_in : Edge → Item → Edge
        edge_in d (item.Edge x) = x
        edge_in d (item.Write w) = d

    tiles_after : (d : ℕ) → has_type d (flow_of P.classes e.to.class e.in_flow) ≡ true → (n : ℕ) (o : Option (List ℤ))
        → output_tile (ended P G e.from) e.out_flow ≡ o
        → count (is_due_edge P of k n later.state) (all_data P) + tiles_used (if is_some o then Some d else None)
        n ≤ count (is_due_edge P of k n R.state) (all_data P)
    tiles_after d type n None none = omega (arith, edges_due P of k R later before n)
    tiles_after d type n (Some x) some = by_test (nat_eq d n)
        (λ same. let at_n : d ≡ n = (unsigned_Decides d n).0 same in
        omega (arith, used-here d n at_n, edge_falls n x (subst (λ m. has_type m (flow_of P.classes e.to.class e.in_flow) ≡ true) at_n type) some))
        (λ other. omega (arith, used-elsewhere d n other, edges_due P of k R later before n))

    pub reserve-edge : (y z : Content) (w : Entry) (d : ℕ) → Updates y.entries z.entries e.to (Some w)
        → IsTrue (has_type d (flow_of P.classes e.to.class e.in_flow))
        → Uses y.spare z.spare (if is_some (entry_of y e.to) then 0 else 1) (if is_some (output_tile (ended P G e.from) e.out_flow) then Some d else None) 0 0
        → HasReserve P of k R y → HasReserve P of k later z
    reserve-edge y z w d updates type uses h = record {
      entries = omega (arith, h.entries, uses.entries, entries_after y z w updates (entry_of y e.to) refl);
      tiles = λ n. omega (
        arith,
        h.tiles n,
        uses.tiles n,
        tiles_after d type n
            (output_tile (ended P G e.from) e.out_flow) refl,
        write_tiles_due P of k R later before n,
      );
      writes = omega (arith, h.writes, uses.writes, writes_due P of k R later before);
      traps = omega (arith, h.traps, uses.traps, ends_due P of k R later before);
    }

    -- there is a spare entry, and a spare tile, if they are needed
    pub spare-entry : (y : Content) → HasReserve P of k R y → entry_of y e.to ≡ None → 0 < y.spare.entries
    spare-entry y h none = omega (arith, h.entries, count-some (is_due_entry of k R.state y) (all_tasks P) e.to among_tasks (entry_due y none))

    pub spare-edge_tile : (y : Content) (d : ℕ) (x : List ℤ) → HasReserve P of k R y
        → IsTrue (has_type d (flow_of P.classes e.to.class e.in_flow))
        → output_tile (ended P G e.from) e.out_flow ≡ Some x → 0 < slice_index y.spare.tiles d
    spare-edge_tile y d x h type some = omega (arith, h.tiles d, count-some (is_due_edge P of k d R.state) (all_data P) e (among_data x some) (edge_due d type))

  module _ (w : WriteBack) (may : MaySend P G R.state (item.Write w)) (at : of w.from ≡ k) where
    abbrev after : Moment
    after = with_send P G R (item.Write w)

    due : IsDueBefore R after
    due = due-send P G R (item.Write w) may

    among_writes : IsIn w (all_writes P)
    among_writes = IsIn-flat_map (write_backs P) (all_tasks P) w.from w
        ((listed P w.from).0 (sound.claimed_have_all w.from may.claimed).task)
        (item_write (items P w.from) w may.is_item)

    once : HasNoRepeats (all_writes P)
    once = HasNoRepeats-from_map (λ (v : WriteBack). v.place) (all_writes P) con.written_once

    abbrev write_in : WriteBack → Item → WriteBack
    write_in v (item.Edge e) = v
    write_in v (item.Write u) = u

    still_due : (v : WriteBack) → (v ≡ w → ⊥) → is_sent after.state (item.Write v) ≡ is_sent R.state (item.Write v)
    still_due v ne = sent_as_before P G R (item.Write w) may (item.Write v) (λ q. ne (ap (write_in v) q))

    unsent : not (is_sent R.state (item.Write w)) ≡ true
    unsent = ap not (unsent_yet P G R (item.Write w) may)

    write_due : is_due_write of k R.state w ≡ true
    write_due = and_from (is_of of k w.from) (not (is_sent R.state (item.Write w))) (eq-eqb (of w.from) k at) unsent

    write_falls : count (is_due_write of k after.state) (all_writes P) + 1 ≡ count (is_due_write of k R.state) (all_writes P)
    write_falls = count-falls (is_due_write of k R.state) (is_due_write of k after.state) (all_writes P) w once among_writes write_due
        (ap (λ b. is_of of k w.from && not b) (sent_now P G R (item.Write w) may) ∙ and-false (is_of of k w.from))
        (λ v ne. ap (λ b. is_of of k v.from && not b) (still_due v ne))

    tile_due : (d : ℕ) → has_type d (flow_of P.classes w.from.class w.flow) ≡ true → is_due_write_tile P of k d R.state w ≡ true
    tile_due d type = and_from (is_of of k w.from && is_write_of_type P d w) (not (is_sent R.state (item.Write w)))
        (and_from (is_of of k w.from) (is_write_of_type P d w) (eq-eqb (of w.from) k at) type) unsent

    tile_falls : (d : ℕ) → has_type d (flow_of P.classes w.from.class w.flow) ≡ true
        → count (is_due_write_tile P of k d after.state) (all_writes P) + 1
        ≡ count (is_due_write_tile P of k d R.state) (all_writes P)
    tile_falls d type = count-falls (is_due_write_tile P of k d R.state) (is_due_write_tile P of k d after.state)
        (all_writes P) w once among_writes (tile_due d type)
        (ap (λ b. (is_of of k w.from && is_write_of_type P d w) && not b) (sent_now P G R (item.Write w) may)
        ∙ and-false (is_of of k w.from && is_write_of_type P d w))
        (λ v ne. ap (λ b. (is_of of k v.from && is_write_of_type P d v) && not b) (still_due v ne))

    tiles_left : (d : ℕ) → has_type d (flow_of P.classes w.from.class w.flow) ≡ true → (n : ℕ)
        → count (is_due_write_tile P of k n after.state) (all_writes P) + tiles_used (Some d) n ≤ count
        (is_due_write_tile P of k n R.state) (all_writes P)
    tiles_left d type n = by_test (nat_eq d n)
        (λ same. let at_n : d ≡ n = (unsigned_Decides d n).0 same in
        omega (arith, used-here d n at_n, tile_falls n (subst (λ m. has_type m (flow_of P.classes w.from.class w.flow) ≡ true) at_n type)))
        (λ other. omega (arith, used-elsewhere d n other, write_tiles_due P of k R after due n))

    pub reserve-write : (y z : Content) (d : ℕ) → KeepsAllButWritten y z
        → IsTrue (has_type d (flow_of P.classes w.from.class w.flow)) → Uses y.spare z.spare 0 (Some d) 1 0
        → HasReserve P of k R y → HasReserve P of k after z
    reserve-write y z d kept type uses h = record {
      entries = omega (
        arith,
        h.entries,
        uses.entries,
        entries_due P of k R after due y z
            (λ u free e. ap (λ l. is_none (entry_in l u)) (sym kept.entries) ∙ e),
      );
      tiles = λ n. omega (arith, h.tiles n, uses.tiles n, edges_due P of k R after due n, tiles_left d type n);
      writes = omega (arith, h.writes, uses.writes, write_falls);
      traps = omega (arith, h.traps, uses.traps, ends_due P of k R after due);
    }

    -- there is a spare place for the write-back, and a spare tile
    pub spare-write : (y : Content) → HasReserve P of k R y → 0 < y.spare.writes
    spare-write y h = omega (arith, h.writes, count-some (is_due_write of k R.state) (all_writes P) w among_writes write_due)

    pub spare-write_tile : (y : Content) (d : ℕ) → HasReserve P of k R y
        → IsTrue (has_type d (flow_of P.classes w.from.class w.flow)) → 0 < slice_index y.spare.tiles d
    spare-write_tile y d h type = omega (arith, h.tiles d, count-some (is_due_write_tile P of k d R.state) (all_writes P) w among_writes (tile_due d type))
