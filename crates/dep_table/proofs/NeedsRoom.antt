-- The counts of what shards need stay small: the needs of all tasks of a job are at most some millions.
use Rattle.std.proofs.Common.{◌≡◌, ℕ, ◌+◌, ◌<◌, ◌≤◌, List, [], ◌∷◌, ◌++◌, length, ap, sym, ◌∙◌, slice_get, inl, inr, arith, length-append}
use Rattle.std.proofs.lemmas.Bool.{cases_eq}
use Rattle.std.specs.List.{filter, filter_map, flat_map}
use Rattle.ptg_base.specs.Task.{Task}
use Rattle.ptg_base.specs.declared.edge.Item.{Item}
use Rattle.ptg_base.specs.declared.edge.Item.TheVariants as item
use Rattle.plan_core.specs.declared.plan.Plan.{Plan}
use Rattle.dep_iter.specs.Consistent.{IsConsistent, all_in, all_writes, is_data_edge}
use Rattle.dep_iter.specs.Edges.{in_edges}
use Rattle.dep_iter.specs.Items.{items, write_backs, write_of}
use Rattle.dep_iter.specs.Tasks.{all_tasks}
use Rattle.list_lemmas.specs.Counting.{as_number}
use Rattle.list_lemmas.proofs.Counts.{count-at_most, one_at_most, weigh-append}
use Rattle.list_lemmas.proofs.Places.{slice_get_there}
use Rattle.list_lemmas.proofs.Joins.{length-filter_le}
use Rattle.std.proofs.lemmas.List.Concat.{flat_map-append}
use Rattle.shard_meaning.specs.Opening.{has_edges}
use Rattle.shard_meaning.specs.Reserve.{is_edge_of_type, is_write_of_type}
use Rattle.dep_table.specs.declared.needs.Needs.{Needs}
use Rattle.dep_table.specs.Needs.{AddsTask, AddsTaskAt, AreNoNeeds, CanCount, CanCountEach, IsNoNeed, edge_tiles, write_tiles, writes_of}
use Rattle.dep_table.proofs.NeedsCounts.{count-filter_append}

writes-fewer : (is : List Item) → length (filter_map write_of is) ≤ length is
writes-fewer [] = omega arith
writes-fewer (item.Edge e ∷ is) = omega (arith, writes-fewer is)
writes-fewer (item.Write w ∷ is) = omega (arith, writes-fewer is)

module _ (P : Plan) where
  writes_at_most : (ts : List Task) → length (writes_of P ts) ≤ length (flat_map (items P) ts)
  writes_at_most [] = omega arith
  writes_at_most (t ∷ ts) =
      omega (
        arith,
        writes-fewer (items P t),
        length-append (write_backs P t) (writes_of P ts),
        length-append
            (items P t) (flat_map (items P) ts),
        writes_at_most ts,
      )

  -- the tiles of edges into two lists of tasks, and of their write-backs
  edges_both : (ts us : List Task) (d : ℕ) → edge_tiles P (flat_map (in_edges P) (ts ++ us)) d
      ≡ edge_tiles P (flat_map (in_edges P) ts) d + edge_tiles P (flat_map (in_edges P) us) d
  edges_both ts us d =
      ap (λ l. edge_tiles P l d) (flat_map-append (in_edges P) ts us)
      ∙ count-filter_append (is_edge_of_type P d) (is_data_edge P) (flat_map (in_edges P) ts)
      (flat_map (in_edges P) us)

  writes_both : (ts us : List Task) (d : ℕ) → write_tiles P (writes_of P (ts ++ us)) d ≡ write_tiles P (writes_of P ts) d + write_tiles P (writes_of P us) d
  writes_both ts us d = ap (λ l. write_tiles P l d) (flat_map-append (write_backs P) ts us) ∙ weigh-append _ (writes_of P ts) (writes_of P us)

  places_both : (ts us : List Task) → length (writes_of P (ts ++ us)) ≡ length (writes_of P ts) + length (writes_of P us)
  places_both ts us = ap length (flat_map-append (write_backs P) ts us) ∙ length-append (writes_of P ts) (writes_of P us)

  -- if there is room for some tasks, there is room for the first of them and for the later ones
  pub room_first : (ts us : List Task) (n : Needs) → CanCount P (ts ++ us) n → CanCount P ts n
  room_first ts us n r = record {
    entries = omega (arith, r.entries, length-append ts us);
    tiles = λ d. omega (arith, r.tiles d, edges_both ts us d, writes_both ts us d);
    writes = omega (arith, r.writes, places_both ts us);
    traps = omega (arith, r.traps, length-append ts us);
  }

  room_later : (ts us : List Task) (n : Needs) → CanCount P (ts ++ us) n → CanCount P us n
  room_later ts us n r = record {
    entries = omega (arith, r.entries, length-append ts us);
    tiles = λ d. omega (arith, r.tiles d, edges_both ts us d, writes_both ts us d);
    writes = omega (arith, r.writes, places_both ts us);
    traps = omega (arith, r.traps, length-append ts us);
  }

  -- once a task is counted there is room for the others
  room_then : (t : Task) (us : List Task) (m n : Needs) → CanCount P (t ∷ us) m → AddsTask P t m n → CanCount P us n
  room_then t us m n r a = record {
    entries = omega (arith, r.entries, a.entries, one_at_most (has_edges P t));
    tiles = λ d. omega (
      arith,
      r.tiles d,
      a.tiles d,
      count-filter_append (is_edge_of_type P d) (is_data_edge P) (in_edges P t) (flat_map (in_edges P) us),
      weigh-append (λ w. as_number (is_write_of_type P d w)) (write_backs P t) (writes_of P us),
    );
    writes = omega (arith, r.writes, a.writes, length-append (write_backs P t) (writes_of P us));
    traps = omega (arith, r.traps, a.traps);
  }

  pub room_task : (t : Task) (k : ℕ) (old new : List Needs) (rest : List Task) → k < length old
      → AddsTaskAt P t k old new → CanCountEach P (t ∷ rest) old → CanCountEach P rest new
  room_task t k old new rest near a r i n at =
      let m = slice_get_there old k near in
      elim (cases_eq i k) [
        | inl here ↦ room_then t rest m.0 n (r k m.0 m.1) (a.here m.0 n m.1 (ap (slice_get new) (sym here) ∙ at))
        | inr other ↦ room_later (t ∷ []) rest n (r i n (sym (a.others i other) ∙ at))
      ]

  -- there is room for all tasks of a consistent job
  pub room_all : IsConsistent P → (shards types : ℕ) (ns : List Needs) → AreNoNeeds shards types ns → CanCountEach P (all_tasks P) ns
  room_all con shards types ns none k n at =
      let z : IsNoNeed types n = none.each k n at in record {
        entries = omega (arith, z.entries, con.tasks_at_most);
        tiles = λ d. omega (
          arith,
          z.tiles d,
          count-at_most (is_edge_of_type P d) (filter (is_data_edge P) (all_in P)),
          length-filter_le (is_data_edge P) (all_in P),
          con.in_edges_at_most,
          count-at_most (is_write_of_type P d) (all_writes P),
          writes_at_most (all_tasks P),
          con.items_at_most,
        );
        writes = omega (arith, z.writes, writes_at_most (all_tasks P), con.items_at_most);
        traps = omega (arith, z.traps, con.tasks_at_most);
      }
