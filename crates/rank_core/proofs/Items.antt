-- The items of a task: those within its rank, and its edges to other ranks.
use Rattle.std.proofs.Common.{◌≡◌, ◌⊎◌, ℕ, not, map, refl, ap, sym, ◌∙◌, subst, inl, inr}
use Rattle.ptg_base.specs.Lists.{HasNoRepeats, IsIn}
use Rattle.ptg_base.specs.Task.{Task}
use Rattle.ptg_base.specs.declared.edge.Edge.{Edge}
use Rattle.ptg_base.specs.declared.edge.WriteBack.{WriteBack}
use Rattle.ptg_base.specs.declared.edge.Item.{Item}
use Rattle.ptg_base.specs.declared.edge.Item.TheVariants as item
use Rattle.plan_core.specs.declared.plan.Plan.{Plan}
use Rattle.dep_iter.specs.Consistent.{IsConsistent}
use Rattle.dep_iter.specs.Items.{items, out_edges, write_backs}
use Rattle.dep_iter.specs.Tasks.{IsTask}
use Rattle.dep_iter.proofs.CallerLemmas.{Edge-injective, Write-injective, edge_item, item_edge, item_write, once-out_edges, once-write_backs, write_item}
use Rattle.list_lemmas.proofs.Members.{IsIn-append_left, IsIn-append_right, IsIn-map, from_append, from_map}
use Rattle.list_lemmas.proofs.Members.{IsIn-filter}
use Rattle.list_lemmas.proofs.Truth.{by_test}
use Rattle.list_lemmas.proofs.Distinct.{HasNoRepeats-append, HasNoRepeats-filter, HasNoRepeats-map}
use Rattle.rank_core.specs.World.{edges_between, edges_within, is_between, items_within}
pub use Rattle.flow_meaning.proofs.CallerLemmas.{out_edge_from as out_from}

module _ (P : Plan) (t : Task) where
  -- an edge out of a task is one of its items, and conversely
  pub out_is_item : (e : Edge) → IsIn e (out_edges P t) → IsIn (item.Edge e) (items P t)
  out_is_item e h = edge_item (items P t) e h

  pub item_is_out : (e : Edge) → IsIn (item.Edge e) (items P t) → IsIn e (out_edges P t)
  item_is_out e h = item_edge (items P t) e h

  module _ (r : ℕ) where
    pub between_is_out : (e : Edge) → IsIn e (edges_between P r t) → IsIn e (out_edges P t)
    between_is_out e h = ((IsIn-filter (is_between P r) (out_edges P t) e).0 h).0

    -- an item within the rank is one of the task's
    pub within_is_item : (i : Item) → IsIn i (items_within P r t) → IsIn i (items P t)
    within_is_item i h = elim (from_append i (map item.Write (write_backs P t)) (map item.Edge (edges_within P r t)) h) [
      | inl left ↦
          let p = from_map (λ (w : WriteBack). item.Write w) (write_backs P t) i left in
          subst (λ j. IsIn j (items P t)) (sym p.2) (write_item (items P t) p.0 p.1)
      | inr right ↦
          let p = from_map (λ (e : Edge). item.Edge e) (edges_within P r t) i right in
          subst (λ j. IsIn j (items P t)) (sym p.2) (edge_item (items P t) p.0
          ((IsIn-filter (λ e. not (is_between P r e)) (out_edges P t) p.0).0 p.1).0)
    ]

    -- an item of a task that is not within its rank is an edge to another rank
    pub record IsBetween (i : Item) : Type 0 where
      pub edge : Edge
      pub is : i ≡ item.Edge edge
      pub among : IsIn edge (edges_between P r t)

    pub within_or_between : (i : Item) → IsIn i (items P t) → IsIn i (items_within P r t) ⊎ IsBetween i
    within_or_between (item.Write w) h =
        inl (IsIn-append_left (item.Write w) (map item.Write (write_backs P t)) (map item.Edge (edges_within P r t))
        (IsIn-map (λ (v : WriteBack). item.Write v) (write_backs P t) w (item_write (items P t) w h)))
    within_or_between (item.Edge e) h =
        by_test (is_between P r e)
        (λ k. inr (record {
          edge = e;
          is = refl;
          among = (IsIn-filter (is_between P r) (out_edges P t) e).1
              (item_is_out e h, k);
        }))
        (λ k.
        inl (IsIn-append_right (item.Edge e) (map item.Write (write_backs P t)) (map item.Edge (edges_within P r t))
        (IsIn-map (λ (d : Edge). item.Edge d) (edges_within P r t) e
        ((IsIn-filter (λ d. not (is_between P r d)) (out_edges P t) e).1 (item_is_out e h, ap not k)))))

module _ (P : Plan) (con : IsConsistent P) (t : Task) (job : IsTask P t) where
  -- no edge and no item of a task occurs twice
  pub between_once : (r : ℕ) → HasNoRepeats (edges_between P r t)
  between_once r = HasNoRepeats-filter (is_between P r) (out_edges P t) (once-out_edges P con t job)

  pub within_once : (r : ℕ) → HasNoRepeats (items_within P r t)
  within_once r =
      HasNoRepeats-append (map item.Write (write_backs P t)) (map item.Edge (edges_within P r t))
      (HasNoRepeats-map (λ (w : WriteBack). item.Write w) (write_backs P t) (once-write_backs P con t job)
      Write-injective)
      (HasNoRepeats-map (λ (e : Edge). item.Edge e) (edges_within P r t)
      (HasNoRepeats-filter (λ e. not (is_between P r e)) (out_edges P t) (once-out_edges P con t job))
      Edge-injective)
      (λ i left right.
      let p = from_map (λ (w : WriteBack). item.Write w) (write_backs P t) i left in
      let q = from_map (λ (e : Edge). item.Edge e) (edges_within P r t) i right in
      apart p.0 q.0 (sym p.2 ∙ q.2))
    where
      apart : (w : WriteBack) (e : Edge) → item.Write w ≡ item.Edge e → ⊥
      apart w e q = absurd cc
