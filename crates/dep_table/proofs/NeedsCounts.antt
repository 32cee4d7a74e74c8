-- What shards need, counted task by task.
use Rattle.std.proofs.Common.{◌≡◌, ◌≢◌, ℕ, ◌+◌, ◌&&◌, Bool, true, false, List, [], ◌∷◌, ◌++◌, length, refl, ap, sym, ◌∙◌, arith, eq-eqb, ne_eqb}
use Rattle.std.specs.List.{filter, flat_map}
use Rattle.std.proofs.lemmas.List.Elements.{filter-append}
use Rattle.ptg_base.specs.Lists.{IsIn}
use Rattle.ptg_base.specs.Task.{Task}
use Rattle.ptg_base.specs.declared.edge.Edge.{Edge}
use Rattle.ptg_base.specs.declared.edge.WriteBack.{WriteBack}
use Rattle.plan_core.specs.declared.plan.Plan.{Plan}
use Rattle.dep_iter.specs.Consistent.{is_data_edge}
use Rattle.dep_iter.specs.Edges.{in_edges}
use Rattle.dep_iter.specs.Items.{write_backs}
use Rattle.list_lemmas.specs.Counting.{as_number, count, weigh}
use Rattle.list_lemmas.proofs.Counts.{count-all, weigh-append, weigh-push, count-same, weigh-zero}
use Rattle.list_lemmas.proofs.Members.{IsIn-filter}
use Rattle.list_lemmas.proofs.Joins.{flat_map_push}
use Rattle.flow_meaning.proofs.CallerLemmas.{in_edge_to, write_from}
use Rattle.shard_meaning.specs.Opening.{has_edges, is_edge_to, is_to_enter, is_write_from}
use Rattle.shard_meaning.specs.Reserve.{is_edge_of_type, is_write_of_type}
use Rattle.shard_meaning.specs.Share.{Placement, is_of}
use Rattle.dep_table.specs.declared.needs.Needs.{Needs}
use Rattle.dep_table.specs.Needs.{AddsTask, IsNeedOf, data_into, edge_tiles, write_tiles, writes_of}

-- a count over what a filter leaves
pub count-filter_append : {A : Type 0} (test keep : A → Bool) (xs ys : List A)
    → count test (filter keep (xs ++ ys)) ≡ count test (filter keep xs) + count test (filter keep ys)
count-filter_append test keep xs ys = ap (λ l. count test l) (filter-append keep xs ys)
    ∙ weigh-append (λ x. as_number (test x)) (filter keep xs) (filter keep ys)

module _ (P : Plan) (of : Placement) (k : ℕ) (t : Task) where
  edges_more : (done : List Task) (d : ℕ) → count (is_edge_to P of k d) (data_into P (done ++ t ∷ []))
      ≡ count (is_edge_to P of k d) (data_into P done) + count (is_edge_to P of k d)
      (filter (is_data_edge P) (in_edges P t))
  edges_more done d =
      ap (λ l. count (is_edge_to P of k d) (filter (is_data_edge P) l)) (flat_map_push (in_edges P) done t)
      ∙ count-filter_append (is_edge_to P of k d) (is_data_edge P) (flat_map (in_edges P) done) (in_edges P t)

  writes_more : (f : WriteBack → ℕ) (done : List Task) → weigh f (writes_of P (done ++ t ∷ [])) ≡ weigh f (writes_of P done) + weigh f (write_backs P t)
  writes_more f done = ap (weigh f) (flat_map_push (write_backs P) done t) ∙ weigh-append f (flat_map (write_backs P) done) (write_backs P t)

  to : (e : Edge) → IsIn e (filter (is_data_edge P) (in_edges P t)) → e.to ≡ t
  to e i = in_edge_to P t e ((IsIn-filter (is_data_edge P) (in_edges P t) e).0 i).0

  -- the shard of the task needs this for it
  module _ (own : of t ≡ k) where
    is_own : (u : Task) → u ≡ t → is_of of k u ≡ true
    is_own u same = eq-eqb (of u) k (ap of same ∙ own)

    own_edges : (d : ℕ) → count (is_edge_to P of k d) (filter (is_data_edge P) (in_edges P t)) ≡ edge_tiles P (in_edges P t) d
    own_edges d = count-same (is_edge_of_type P d) (is_edge_to P of k d) (filter (is_data_edge P) (in_edges P t))
        (λ e i. ap (λ b. b && is_edge_of_type P d e) (is_own e.to (to e i)))

    own_writes : (d : ℕ) → count (is_write_from P of k d) (write_backs P t) ≡ write_tiles P (write_backs P t) d
    own_writes d = count-same (is_write_of_type P d) (is_write_from P of k d) (write_backs P t)
        (λ w i. ap (λ b. b && is_write_of_type P d w) (is_own w.from (write_from P t w i)))

    own_places : count (λ (w : WriteBack). is_of of k w.from) (write_backs P t) ≡ length (write_backs P t)
    own_places = count-all (λ (w : WriteBack). is_of of k w.from) (write_backs P t) (λ w i. is_own w.from (write_from P t w i))

    pub need_own : (done : List Task) (m n : Needs) → IsNeedOf P of k done m → AddsTask P t m n → IsNeedOf P of k (done ++ t ∷ []) n
    need_own done m n w a = record {
      entries = omega (
        arith,
        a.entries,
        w.entries,
        weigh-push (λ u. as_number (is_to_enter P of k u)) done t,
        ap
            (λ b. as_number (b && has_edges P t)) (is_own t refl),
      );
      types = a.types ∙ w.types;
      tiles = λ d. omega (
        arith,
        a.tiles d,
        w.tiles d,
        edges_more done d,
        own_edges d,
        writes_more
            (λ v. as_number (is_write_from P of k d v)) done,
        own_writes d,
      );
      writes = omega (arith, a.writes, w.writes, writes_more (λ v. as_number (is_of of k v.from)) done, own_places);
      traps = omega (arith, a.traps, w.traps, weigh-push (λ u. as_number (is_of of k u)) done t, ap as_number (is_own t refl));
    }

  -- another shard needs nothing for it
  module _ (other : of t ≢ k) where
    not_own : (u : Task) → u ≡ t → is_of of k u ≡ false
    not_own u same = ne_eqb (of u) k (λ e. other (sym (ap of same) ∙ e))

    pub need_other : (done : List Task) (m : Needs) → IsNeedOf P of k done m → IsNeedOf P of k (done ++ t ∷ []) m
    need_other done m w = record {
      entries = omega (arith, w.entries, weigh-push (λ u. as_number (is_to_enter P of k u)) done t, ap (λ b. as_number (b && has_edges P t)) (not_own t refl));
      types = w.types;
      tiles = λ d.
          let no_edges = weigh-zero (λ e. as_number (is_edge_to P of k d e)) (filter (is_data_edge P) (in_edges P t))
          (λ e i. ap (λ b. as_number (b && is_edge_of_type P d e)) (not_own e.to (to e i))) in
          let no_writes = weigh-zero (λ v. as_number (is_write_from P of k d v)) (write_backs P t)
          (λ v i. ap (λ b. as_number (b && is_write_of_type P d v)) (not_own v.from (write_from P t v i))) in
          omega (arith, w.tiles d, edges_more done d, no_edges, writes_more (λ v. as_number (is_write_from P of k d v)) done, no_writes);
      writes =
          let no_places = weigh-zero (λ (v : WriteBack). as_number (is_of of k v.from)) (write_backs P t)
          (λ v i. ap as_number (not_own v.from (write_from P t v i))) in
          omega (arith, w.writes, writes_more (λ v. as_number (is_of of k v.from)) done, no_places);
      traps = omega (arith, w.traps, weigh-push (λ u. as_number (is_of of k u)) done t, ap as_number (not_own t refl));
    }
