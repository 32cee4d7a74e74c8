-- The answer of a quiescent sound state is that of the backward meaning.
use Rattle.std.proofs.Common.{◌≡◌, ℕ, suc, ℤ, Bool, true, false, cond, eqb, List, [], ◌∷◌, ◌++◌, length, refl, ap, sym}
use Rattle.std.proofs.Common.{◌∙◌, subst, Option, Some, None, is_some, ◌⊎◌, inl, inr, Ok, Err, arith}
use Rattle.std.specs.Prelude.{unwrap_or}
use Rattle.std.proofs.lemmas.Bool.{false≢true, eqb-true}
use Rattle.std.specs.List.{filter_map, cons_option, flat_map}
use Rattle.ptg_base.specs.Lists.{IsIn}
use Rattle.ptg_base.specs.Task.{Task}
use Rattle.ptg_base.specs.TaskOrder.{in_task_order, insert_by, task_before}
use Rattle.ptg_base.specs.declared.place.Place.{Place}
use Rattle.ptg_base.specs.declared.edge.WriteBack.{WriteBack}
use Rattle.ptg_base.specs.declared.edge.Item.{Item}
use Rattle.ptg_base.specs.declared.edge.Item.TheVariants as item
use Rattle.plan_core.specs.declared.plan.Plan.{Plan}
use Rattle.coll_data.specs.declared.coll.Coll.{Coll}
use Rattle.coll_data.specs.Data.{Data}
use Rattle.list_lemmas.proofs.Members.{IsIn-flat_map, from_flat_map}
use Rattle.list_lemmas.proofs.Truth.{by_test}
use Rattle.list_lemmas.proofs.Counts.{all_pass, weigh-one, length-filter}
use Rattle.list_lemmas.proofs.Distinct.{one_from_map}
use Rattle.dep_iter.specs.Tasks.{IsTask, all_tasks}
use Rattle.dep_iter.specs.Items.{item_flow, items, write_backs}
use Rattle.dep_iter.specs.Consistent.{IsConsistent, all_writes}
use Rattle.dep_iter.proofs.CallerLemmas.{item_write, listed, write_item}
use Rattle.flow_meaning.specs.declared.outcome.TrapRow.{TrapRow}
use Rattle.flow_meaning.specs.declared.outcome.Outcome.TheVariants.{Complete, Stalled}
use Rattle.flow_meaning.specs.Ending.{Ended, has_outputs, output_tile}
use Rattle.flow_meaning.specs.Backward.{ended}
use Rattle.flow_meaning.specs.Answer.{answer, answer_by, ran, trap_rows, trapped, waiting}
use Rattle.flow_meaning.specs.Final.{final_data, is_place_of, replaced_colls, replaced_data, replaced_tiles, written_tile, written_to}
use Rattle.flow_meaning.specs.Machine.{IsQuiescent, MachineState, SentItem, sender}
use Rattle.flow_meaning.specs.Sound.{IsSoundState}
use Rattle.flow_meaning.specs.StateAnswer.{first_written, state_answer, state_answer_by, state_data}
use Rattle.flow_meaning.specs.Table.{waiting_rows, written, written_by}
use Rattle.flow_meaning.proofs.Events.{send_member}
use Rattle.flow_meaning.proofs.Once.{claims_members, traps_same}
use Rattle.flow_meaning.proofs.PlaceIndex.{one_place}
use Rattle.flow_meaning.proofs.Quiet.{sent_are_items, waiting_same}
use Rattle.flow_meaning.proofs.Rest.{item_sender}

-- a write-back with its tile; each is a send of a write-back
abbrev Written : Type 0
Written = WriteBack × Option (List ℤ)

abbrev entry_of_send : SentItem → Option Written
entry_of_send x = written_by x.item x.tile

write_send : WriteBack → Option (List ℤ) → SentItem
write_send w tile = record { item = item.Write w; tile = tile }

written_step : (x : SentItem) (xs : List SentItem) (w : WriteBack) (tile : Option (List ℤ))
    → (IsIn {A = Written} (w, tile) (filter_map entry_of_send xs) → IsIn (write_send w tile) xs) →
    (i : Item) (o : Option (List ℤ)) → x.item ≡ i → x.tile ≡ o
    → IsIn {A = Written} (w, tile) (cons_option (written_by i o) (filter_map entry_of_send xs))
    → IsIn (write_send w tile) (x ∷ xs)
unfolding write_send
written_step x xs w tile ih (item.Edge e) o is has h = inr (ih h)
written_step x xs w tile ih (item.Write v) o is has h = elim h [
  | inl q ↦
      let same : w ≡ v = ap (λ (r : Written). r.0) q in
      let tiles : tile ≡ o = ap (λ (r : Written). r.1) q in
      let an_item : item.Write w ≡ x.item = ap (λ (u : WriteBack). item.Write u) same ∙ sym is in
      let a_tile : tile ≡ x.tile = tiles ∙ sym has in
      inl (λ k. record { item = an_item k; tile = a_tile k })
  | inr t ↦ inr (ih t)
]

written_send : (xs : List SentItem) (w : WriteBack) (tile : Option (List ℤ))
    → IsIn {A = Written} (w, tile) (filter_map entry_of_send xs) → IsIn (write_send w tile) xs
written_send [] w tile h = absurd h
written_send (x ∷ xs) w tile h = written_step x xs w tile (λ k. written_send xs w tile k) x.item x.tile refl refl h

-- each send of a write-back is in the list of what was written
put_in : (i : Item) (o : Option (List ℤ)) (l : List Written) (r : Written) → IsIn r l → IsIn r (cons_option (written_by i o) l)
put_in (item.Edge e) o l r h = h
put_in (item.Write w) o l r h = inr h

put_first : (w : WriteBack) (x : SentItem) (l : List Written) → x.item ≡ item.Write w → IsIn {A = Written} (w, x.tile) (cons_option (entry_of_send x) l)
put_first w x l e = subst (λ i. IsIn {A = Written} (w, x.tile) (cons_option (written_by i x.tile) l)) (sym e) (inl refl)

send_written : (xs : List SentItem) (x : SentItem) (w : WriteBack) → IsIn x xs → x.item ≡ item.Write w
    → IsIn {A = Written} (w, x.tile) (filter_map entry_of_send xs)
send_written [] x w h e = absurd h
send_written (y ∷ ys) x w h e = elim h [
  | inl q ↦ subst (λ z. IsIn {A = Written} (w, x.tile) (cons_option (entry_of_send z) (filter_map entry_of_send ys))) q
      (put_first w x (filter_map entry_of_send ys) e)
  | inr t ↦ put_in y.item y.tile (filter_map entry_of_send ys) (w, x.tile) (send_written ys x w t e)
]

-- the tile of the first write-back that passes the test, or none passes
module _ (P : Plan) (G : Data) (here : Place → Bool) where
  first_of_writes : (ws : List WriteBack) → ((w : WriteBack) × IsIn w ws × (here w.place ≡ true)
      × (written_to P G here ws ≡ written_tile P G w)) ⊎ (((w : WriteBack) → IsIn w ws → here w.place ≡ false)
      × (written_to P G here ws ≡ None))
  first_of_writes [] = inr (λ w i. absurd i, refl)
  first_of_writes (w ∷ ws) =
      by_test (here w.place)
      (λ k. inl (w, inl refl, k, ap (λ b. cond b (written_tile P G w) (written_to P G here ws)) k))
      (λ k.
      let step = ap (λ b. cond b (written_tile P G w) (written_to P G here ws)) k in
      elim (first_of_writes ws) [
        | inl p ↦ inl (p.0, inr p.1, p.2, step ∙ p.3)
        | inr n ↦ inr (λ v i. elim i [ inl e ↦ ap (λ (u : WriteBack). here u.place) e ∙ k | inr t ↦ n.0 v t ], step ∙ n.1)
      ])

  first_of_entries : (rs : List Written) → ((r : Written) × IsIn r rs × (here r.0.place ≡ true)
      × (first_written here rs ≡ r.1)) ⊎ (((r : Written) → IsIn r rs → here r.0.place ≡ false)
      × (first_written here rs ≡ None))
  first_of_entries [] = inr (λ r i. absurd i, refl)
  first_of_entries (r ∷ rs) =
      by_test (here r.0.place)
      (λ k. inl (r, inl refl, k, ap (λ b. cond b r.1 (first_written here rs)) k))
      (λ k.
      let step = ap (λ b. cond b r.1 (first_written here rs)) k in
      elim (first_of_entries rs) [
        | inl p ↦ inl (p.0, inr p.1, p.2, step ∙ p.3)
        | inr n ↦ inr (λ v i. elim i [ inl e ↦ ap (λ (u : Written). here u.0.place) e ∙ k | inr t ↦ n.0 v t ], step ∙ n.1)
      ])

  -- both lists have the same tile at a place, if there is at most one write-back to it
  same_first : (ws : List WriteBack) (rs : List Written) → ((w v : WriteBack) → IsIn w ws → IsIn v ws → here w.place ≡ true → here v.place ≡ true → w ≡ v) →
      ((w : WriteBack) → IsIn w ws → IsIn {A = Written} (w, written_tile P G w) rs)
      → ((r : Written) → IsIn r rs → IsIn r.0 ws × (r.1 ≡ written_tile P G r.0))
      → written_to P G here ws ≡ first_written here rs
  same_first ws rs only to from = elim (first_of_writes ws) [
    | inl p ↦ elim (first_of_entries rs) [
      | inl q ↦
          let r = from q.0 q.1 in
          let same = only p.0 q.0.0 p.1 r.0 p.2 q.2 in
          p.3 ∙ ap (written_tile P G) same ∙ sym r.1 ∙ sym q.3
      | inr n ↦ absurd (false≢true (sym (n.0 (p.0, written_tile P G p.0) (to p.0 p.1)) ∙ p.2))
    ]
    | inr m ↦ elim (first_of_entries rs) [
      | inl q ↦ absurd (false≢true (sym (m.0 q.0.0 (from q.0 q.1).0) ∙ q.2))
      | inr n ↦ m.1 ∙ sym n.1
    ]
  ]

-- data replaced by the same tiles are the same
module _ (at bt : (Place → Bool) → Option (List ℤ)) (same : (c : ℕ) (x : Coll) (k : ℕ) → at (is_place_of c x k) ≡ bt (is_place_of c x k)) where
  tiles_same : (c : ℕ) (x : Coll) (k : ℕ) (tiles : List (List ℤ)) → replaced_tiles at c x k tiles ≡ replaced_tiles bt c x k tiles
  tiles_same c x k [] = refl
  tiles_same c x k (tile ∷ tiles) =
      ap (λ o. unwrap_or o tile ∷ replaced_tiles at c x (suc k) tiles) (same c x k)
      ∙ ap (λ l. unwrap_or (bt (is_place_of c x k)) tile ∷ l) (tiles_same c x (suc k) tiles)

  colls_same : (c : ℕ) (xs : List Coll) → replaced_colls at c xs ≡ replaced_colls bt c xs
  colls_same c [] = refl
  colls_same c (x ∷ xs) =
      ap (λ ts. record x { tiles = ts } ∷ replaced_colls at (suc c) xs) (tiles_same c x 0 x.tiles)
      ∙ ap (λ l. record x { tiles = replaced_tiles bt c x 0 x.tiles } ∷ l) (colls_same (suc c) xs)

  data_same : (G : Data) → replaced_data at G ≡ replaced_data bt G
  data_same G = ap (λ cs. record G { colls = cs }) (colls_same 0 G.colls)

-- if no row is left in order, there was none
ordered_empty : {A : Type 0} (key : A → Task) (xs : List A) → in_task_order key xs ≡ [] → xs ≡ []
ordered_empty key [] e = refl
ordered_empty key (x ∷ xs) e = absurd (never (in_task_order key xs) e)
  where
    by_test_of : (b : Bool) (y : _) (l m : _) → cond b (y ∷ l) (x ∷ m) ≡ [] → ⊥
    by_test_of true y l m e = absurd cc
    by_test_of false y l m e = absurd cc

    never : (l : _) → insert_by key x l ≡ [] → ⊥
    never [] e = absurd cc
    never (y ∷ ys) e = by_test_of (task_before (key y) (key x)) y (insert_by key x ys) (y ∷ ys) e

both_empty : {A : Type 0} (l m : List A) → l ++ m ≡ [] → (l ≡ []) × (m ≡ [])
both_empty [] m e = (refl, e)
both_empty (z ∷ l) m e = absurd cc

joined_empty : {A B : Type 0} (g : A → List B) (xs : List A) → flat_map g xs ≡ [] → (x : A) → IsIn x xs → g x ≡ []
joined_empty g [] e x i = absurd i
joined_empty g (y ∷ ys) e x i =
    let p = both_empty (g y) (flat_map g ys) e in
    elim i [ inl q ↦ ap g q ∙ p.0 | inr t ↦ joined_empty g ys p.1 x t ]

untrapped : (t : Task) (o : Option Ended) → trap_rows t o ≡ [] → is_some o ≡ true → has_outputs o ≡ true
untrapped t None e h = absurd (false≢true h)
untrapped t (Some (Ok tiles)) e h = refl
untrapped t (Some (Err cause)) e h = absurd cc

module _ (P : Plan) (G : Data) (con : IsConsistent P) (S : MachineState) (sound : IsSoundState P G S) (quiet : IsQuiescent P G S) where
  -- if no task traps and all run, each has outputs
  all_outputs : trapped P G ≡ [] → length (ran P G) ≡ length (all_tasks P) → (t : Task) → IsTask P t → has_outputs (ended P G t) ≡ true
  unfolding trapped ran
  all_outputs none all t job =
      let i = (listed P t).0 job in
      let rows = ordered_empty (λ (r : TrapRow). r.task) (flat_map (λ t. trap_rows t (ended P G t)) (all_tasks P)) none in
      let row = joined_empty (λ t. trap_rows t (ended P G t)) (all_tasks P) rows t i in
      let runs = all_pass (λ t. is_some (ended P G t)) (all_tasks P) (omega (arith, length-filter (λ t. is_some (ended P G t)) (all_tasks P))) t i in
      untrapped t (ended P G t) row runs

  module _ (outs : (t : Task) → IsTask P t → has_outputs (ended P G t) ≡ true) where
    -- each write-back was sent, with its tile
    write_was_sent : (w : WriteBack) → IsIn w (all_writes P) → IsIn {A = Written} (w, written_tile P G w) (written S)
    write_was_sent w h =
        let p = from_flat_map (write_backs P) (all_tasks P) w h in
        let job = (listed P p.0).1 p.1 in
        let it = write_item (items P p.0) w p.2 in
        let by : w.from ≡ p.0 = item_sender P p.0 (item.Write w) it in
        let from = subst (IsTask P) (sym by) job in
        let sent = (sent_are_items P G con S sound quiet (item.Write w) from).1 (subst (λ u. IsIn (item.Write w) (items P u)) (sym by) it, outs w.from from) in
        let x = send_member S (item.Write w) sent in
        let tile : x.0.tile ≡ written_tile P G w = (sound.sent_are_outputs x.0 x.1).tile ∙ ap (λ i. output_tile (ended P G (sender i)) (item_flow i)) x.2 in
        subst (λ o. IsIn {A = Written} (w, o) (written S)) tile (send_written S.sends x.0 w x.1 x.2)

    -- what was written is a write-back, with its tile
    written_is_write : (r : Written) → IsIn r (written S) → IsIn r.0 (all_writes P) × (r.1 ≡ written_tile P G r.0)
    unfolding write_send
    written_is_write r h =
        let x = written_send S.sends r.0 r.1 h in
        let o = sound.sent_are_outputs (write_send r.0 r.1) x in
        let job = (sound.claimed_have_all r.0.from o.claimed).task in
        (IsIn-flat_map (write_backs P) (all_tasks P) r.0.from r.0 ((listed P r.0.from).0 job) (item_write (items P r.0.from) r.0 o.is_item), o.tile)

    one_write : (c : ℕ) (x : Coll) (k : ℕ) (w v : WriteBack) → IsIn w (all_writes P) → IsIn v (all_writes P)
        → is_place_of c x k w.place ≡ true → is_place_of c x k v.place ≡ true → w ≡ v
    one_write c x k w v i j h g = one_from_map (λ (u : WriteBack). u.place) (all_writes P) con.written_once w v i j (one_place c x k w.place v.place h g)

    -- the final data of the state are those of the meaning
    final_same : final_data P G ≡ state_data G S
    unfolding final_data state_data
    final_same =
        data_same (λ here. written_to P G here (all_writes P)) (λ here. first_written here (written S))
        (λ c x k. same_first P G (is_place_of c x k) (all_writes P) (written S) (one_write c x k) write_was_sent written_is_write) G

  same_length : length S.claims ≡ length (ran P G)
  same_length = omega (arith, claims_members P G con S sound quiet (λ _. 1), weigh-one S.claims, weigh-one (ran P G))

  by_length : trapped P G ≡ [] → (b : Bool) → eqb (length (ran P G)) (length (all_tasks P)) ≡ b →
      cond b (Complete (length (all_tasks P)) (final_data P G)) (Stalled (length (ran P G)) (length (all_tasks P)) (waiting P G)) ≡
      cond b (Complete (length (all_tasks P)) (state_data G S)) (Stalled (length S.claims) (length (all_tasks P)) (waiting_rows P S))
  by_length none true e = ap (λ d. Complete (length (all_tasks P)) d) (final_same (all_outputs none (eqb-true (length (ran P G)) (length (all_tasks P)) e)))
  by_length none false e =
      ap (λ n. Stalled n (length (all_tasks P)) (waiting P G)) (sym same_length)
      ∙ ap (λ rows. Stalled (length S.claims) (length (all_tasks P)) rows) (waiting_same P G con S sound quiet)

  by_rows : (rows : List TrapRow) → trapped P G ≡ rows → answer_by P G rows ≡ state_answer_by P G S rows
  by_rows (r ∷ rows) e = refl
  by_rows [] e =
      by_length e (eqb (length (ran P G)) (length (all_tasks P))) refl
      ∙ ap (λ n. cond (eqb n (length (all_tasks P))) (Complete (length (all_tasks P)) (state_data G S))
      (Stalled (length S.claims) (length (all_tasks P)) (waiting_rows P S))) (sym same_length)

  -- the answer of the state is that of the meaning
  pub answer_same : answer P G ≡ state_answer P G S
  unfolding answer state_answer
  answer_same = by_rows (trapped P G) refl ∙ ap (state_answer_by P G S) (traps_same P G con S sound quiet)
