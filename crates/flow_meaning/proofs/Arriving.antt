-- What a send changes: one more edge has arrived at its target, and nothing else changes.
use Rattle.std.proofs.Common.{◌≡◌, ◌≢◌, ◌+◌, ◌≤◌, true, false, List, [], ◌∷◌, ◌++◌, refl, ap, sym, ◌∙◌, subst, inl, inr, nat_lt, arith, cond, None}
use Rattle.std.proofs.lemmas.Bool.{false_from_ne_true, le-ltb, lt-ltb}
use Rattle.ptg_base.specs.Lists.{HasNoRepeats, IsIn}
use Rattle.ptg_base.specs.Task.{Task}
use Rattle.ptg_base.specs.declared.edge.Edge.{Edge}
use Rattle.ptg_base.specs.declared.edge.WriteBack.{WriteBack}
use Rattle.ptg_base.specs.declared.edge.Item.{Item}
use Rattle.ptg_base.specs.declared.edge.Item.TheVariants as item
use Rattle.plan_core.specs.declared.plan.Plan.{Plan}
use Rattle.coll_data.specs.Data.{Data}
use Rattle.list_lemmas.proofs.Members.{IsIn-flat_map, from_flat_map}
use Rattle.list_lemmas.proofs.Truth.{by_test}
use Rattle.list_lemmas.proofs.Counts.{count-some, weigh-push}
use Rattle.dep_iter.specs.Tasks.{IsTask, all_tasks}
use Rattle.dep_iter.specs.Edges.{in_edges}
use Rattle.dep_iter.specs.Items.{items, out_edges}
use Rattle.dep_iter.specs.Consistent.{IsConsistent}
use Rattle.dep_iter.proofs.CallerLemmas.{Edge-injective, item_edge, listed, once-in_edges}
use Rattle.list_lemmas.specs.Counting.{as_number, count}
use Rattle.flow_meaning.specs.Comparing.{same_item}
use Rattle.flow_meaning.specs.Machine.{MachineState, MaySend, Send, SentItem, arrived, is_sent, send_count, sent_with}
use Rattle.flow_meaning.specs.Machine.{state_after, first_tile, sent_tile, end_in}
use Rattle.flow_meaning.specs.Ending.{output_tile}
use Rattle.flow_meaning.specs.Sound.{IsSoundState}
use Rattle.flow_meaning.proofs.Comparing.{same_item-decides}
use Rattle.flow_meaning.proofs.Members.{in_edge_to}

-- in a consistent job an edge that is sent goes into its target
pub sent_edge_in : (P : Plan) → IsConsistent P → (e : Edge) → IsTask P e.from → IsIn (item.Edge e) (items P e.from) → IsIn e (in_edges P e.to)
sent_edge_in P con e job h =
    let out = IsIn-flat_map (out_edges P) (all_tasks P) e.from e ((listed P e.from).0 job) (item_edge (items P e.from) e h) in
    let p = from_flat_map (in_edges P) (all_tasks P) e ((con.same_edges e).1 out) in
    subst (λ t. IsIn e (in_edges P t)) (sym (in_edge_to P p.0 e p.2)) p.2

pub no_edge : (es : List Edge) (e : Edge) → (IsIn e es → ⊥) → count (λ d. same_item (item.Edge d) (item.Edge e)) es ≡ 0
no_edge [] e h = refl
no_edge (d ∷ ds) e h =
    let other : same_item (item.Edge d) (item.Edge e) ≡ false = false_from_ne_true
    (same_item (item.Edge d) (item.Edge e)) (λ k. h (inl
    (sym (Edge-injective d e ((same_item-decides (item.Edge d) (item.Edge e)).0 k))))) in
    omega (arith, ap as_number other, no_edge ds e (λ i. h (inr i)))

-- an edge occurs at most once among edges without repeats
pub edge_once : (es : List Edge) → HasNoRepeats es → (e : Edge) → count (λ d. same_item (item.Edge d) (item.Edge e)) es ≤ 1
edge_once [] h e = omega arith
edge_once (d ∷ ds) h e =
    by_test (same_item (item.Edge d) (item.Edge e))
    (λ k.
    let same : d ≡ e = Edge-injective d e ((same_item-decides (item.Edge d) (item.Edge e)).0 k) in
    let none = no_edge ds e (λ i. h.0 (subst (λ x. IsIn x ds) (sym same) i)) in
    omega (arith, ap as_number k, none))
    (λ k. omega (arith, ap as_number k, edge_once ds h.1 e))

module _ (P : Plan) (G : Data) (S : MachineState) (i : Item) (may : MaySend P G S i) where
  sum_of : (j : Item) → send_count (state_after P G S (Send i)) j ≡ send_count S j + as_number (same_item j i)
  sum_of j = weigh-push (λ (x : SentItem). as_number (same_item j x.item)) S.sends (sent_with P G S i)

  -- after a send, an item was sent if it was before or is the one that is sent
  sent_then : (j : Item) → as_number (is_sent (state_after P G S (Send i)) j) ≡ as_number (is_sent S j) + as_number (same_item j i)
  sent_then j =
      by_test (same_item j i)
      (λ k.
      let none : send_count S j ≡ 0 = ap (send_count S) ((same_item-decides j i).0 k) ∙ may.unsent in
      let before : is_sent S j ≡ false = le-ltb 0 (send_count S j) (omega (arith, none)) in
      let now : is_sent (state_after P G S (Send i)) j ≡ true = lt-ltb 0 (send_count (state_after P G S (Send i)) j)
      (omega (arith, sum_of j, ap as_number k)) in
      omega (arith, ap as_number before, ap as_number now, ap as_number k))
      (λ k.
      let same : send_count (state_after P G S (Send i)) j ≡ send_count S j = omega (arith, sum_of j, ap as_number k) in
      omega (arith, ap (λ n. as_number (nat_lt 0 n)) same, ap as_number k))

  came : (es : List Edge) → count (λ e. is_sent (state_after P G S (Send i)) (item.Edge e)) es
      ≡ count (λ e. is_sent S (item.Edge e)) es + count (λ e. same_item (item.Edge e) i) es
  came [] = refl
  came (e ∷ es) = omega (arith, sent_then (item.Edge e), came es)

module _ (P : Plan) (G : Data) (con : IsConsistent P) (S : MachineState) (sound : IsSoundState P G S) where
  pub arrives : (e : Edge) → MaySend P G S (item.Edge e) → arrived P (state_after P G S (Send (item.Edge e))) e.to ≡ arrived P S e.to + 1
  arrives e may =
      let job = (sound.claimed_have_all e.from may.claimed).task in
      let into = sent_edge_in P con e job may.is_item in
      let to_job = (con.connected e.from job).to_tasks e (item_edge (items P e.from) e may.is_item) in
      let most = edge_once (in_edges P e.to) (once-in_edges P con e.to to_job) e in
      let some = count-some (λ d. same_item (item.Edge d) (item.Edge e)) (in_edges P e.to) e into ((same_item-decides (item.Edge e) (item.Edge e)).1 refl) in
      omega (arith, came P G S (item.Edge e) may (in_edges P e.to))

  pub arrives_not : (e : Edge) → MaySend P G S (item.Edge e) → (t : Task) → t ≢ e.to → arrived P (state_after P G S (Send (item.Edge e))) t ≡ arrived P S t
  arrives_not e may t other =
      let none = no_edge (in_edges P t) e (λ i. other (sym (in_edge_to P t e i))) in
      omega (arith, came P G S (item.Edge e) may (in_edges P t))

  no_write : (w : WriteBack) (es : List Edge) → count (λ e. same_item (item.Edge e) (item.Write w)) es ≡ 0
  no_write w [] = refl
  no_write w (e ∷ es) = omega (arith, no_write w es)

  pub writes_not : (w : WriteBack) → MaySend P G S (item.Write w) → (t : Task) → arrived P (state_after P G S (Send (item.Write w))) t ≡ arrived P S t
  writes_not w may t = let none = no_write w (in_edges P t) in omega (arith, came P G S (item.Write w) may (in_edges P t))

-- the tile of an item that is sent last and was not sent before
first_here : (i : Item) (xs : List SentItem) (x : SentItem) → count (λ (y : SentItem). same_item i y.item) xs ≡ 0
    → same_item i x.item ≡ true → first_tile i (xs ++ x ∷ []) ≡ x.tile
first_here i [] x none h = ap (λ b. cond b x.tile None) h
first_here i (y ∷ ys) x none h =
    by_test (same_item i y.item)
    (λ k. absurd (omega (arith, ap as_number k)))
    (λ k. ap (λ b. cond b y.tile (first_tile i (ys ++ x ∷ []))) k ∙ first_here i ys x (omega (arith, ap as_number k)) h)

first_other : (i : Item) (xs : List SentItem) (x : SentItem) → same_item i x.item ≡ false → first_tile i (xs ++ x ∷ []) ≡ first_tile i xs
first_other i [] x h = ap (λ b. cond b x.tile None) h
first_other i (y ∷ ys) x h = ap (λ o. cond (same_item i y.item) y.tile o) (first_other i ys x h)

module _ (P : Plan) (G : Data) (S : MachineState) where
  pub delivers_now : (e : Edge) → MaySend P G S (item.Edge e)
      → sent_tile (state_after P G S (Send (item.Edge e))).sends e ≡ output_tile (end_in P G S e.from) e.out_flow
  delivers_now e may = first_here (item.Edge e) S.sends (sent_with P G S (item.Edge e)) may.unsent ((same_item-decides (item.Edge e) (item.Edge e)).1 refl)

  pub delivers_as_before : (i : Item) (d : Edge) → i ≢ item.Edge d → sent_tile (state_after P G S (Send i)).sends d ≡ sent_tile S.sends d
  delivers_as_before i d other =
      first_other (item.Edge d) S.sends (sent_with P G S i) (false_from_ne_true (same_item (item.Edge d) i)
      (λ k. other (sym ((same_item-decides (item.Edge d) i).0 k))))
