-- Which tiles a run keeps, and what follows.
use Rattle.std.proofs.Common.{◌≡◌, ℤ, Bool, true, false, not, cond, is_some, List, [], ◌∷◌, ◌++◌, refl, ap, sym, ◌∙◌}
use Rattle.std.proofs.Common.{subst, Option, Some, None, IsTrue, ◌↔◌, arith}
use Rattle.std.proofs.lemmas.Bool.{false≢true}
use Rattle.std.specs.Prelude.{unwrap_or}
use Rattle.std.specs.List.{cons_option}
use Rattle.std.specs.Option.{option_flatten}
use Rattle.std.specs.Map.{lookup, set_value}
use Rattle.ptg_base.specs.Task.{Task}
use Rattle.ptg_base.specs.TaskComparing.{same_task}
use Rattle.ptg_base.specs.TaskLaws.{same_task-decides}
use Rattle.ptg_base.specs.declared.edge.Edge.{Edge}
use Rattle.ptg_base.specs.declared.edge.WriteBack.{WriteBack}
use Rattle.ptg_base.specs.declared.edge.Item.{Item}
use Rattle.ptg_base.specs.declared.edge.Item.TheVariants as item
use Rattle.list_lemmas.proofs.Truth.{by_test}
use Rattle.list_lemmas.proofs.Lookups.{apart, set_other, set_same}
use Rattle.list_lemmas.specs.Counting.{as_number}
use Rattle.dep_iter.proofs.CallerLemmas.{Edge-injective}
use Rattle.flow_meaning.specs.Comparing.{same_item}
use Rattle.flow_meaning.specs.Ending.{Ended}
use Rattle.flow_meaning.specs.Machine.{SentItem, first_tile}
use Rattle.flow_core.specs.Arrivals.{is_edge_to}
use Rattle.flow_core.specs.Kept.{AreKept, SentAndKept, TakesOnlyTo, is_read, is_write, kept_with, sent_as, with_sent, written}
use Rattle.flow_core.specs.Rows.{write_with, writes_among}
use Rattle.flow_core.specs.SentItems.{IsUnsent, all_sent}
use Rattle.flow_core.proofs.Lookups.{end_push, same}

-- an item is not found if and only if it was not sent
pub unsent_as : (i : Item) (xs : List SentItem) → (sent_as i xs ≡ None) ↔ IsUnsent xs i
unsent_as i [] = (λ _. refl, λ _. refl)
unsent_as i (x ∷ xs) =
    by_test (same_item i x.item)
    (λ k.
    let found : sent_as i (x ∷ xs) ≡ Some x.tile = ap (λ b. cond b (Some x.tile) (sent_as i xs)) k in
    (λ none. let no : Some x.tile ≡ None = sym found ∙ none in cc, λ zero. absurd (omega (arith, zero, ap as_number k))))
    (λ k.
    let next : sent_as i (x ∷ xs) ≡ sent_as i xs = ap (λ b. cond b (Some x.tile) (sent_as i xs)) k in
    let rest = unsent_as i xs in
    (λ none. omega (arith, ap as_number k, rest.0 (sym next ∙ none)), λ zero. next ∙ rest.1 (omega (arith, ap as_number k, zero))))

-- the tile that was first sent with an item
pub tile_as : (i : Item) (xs : List SentItem) → option_flatten (sent_as i xs) ≡ first_tile i xs
tile_as i [] = refl
tile_as i (x ∷ xs) =
    by_test (same_item i x.item)
    (λ k. ap (λ b. option_flatten (cond b (Some x.tile) (sent_as i xs))) k ∙ sym (ap (λ b. cond b x.tile (first_tile i xs)) k))
    (λ k. ap (λ b. option_flatten (cond b (Some x.tile) (sent_as i xs))) k ∙ tile_as i xs ∙ sym (ap (λ b. cond b x.tile (first_tile i xs)) k))

-- a look-up by key finds what was sent with an item
pub found_as : (eq : Item → Item → Bool) → ((a b : Item) → IsTrue (eq a b) ↔ (a ≡ b))
    → (i : Item) (es : List (Item × Option (List ℤ))) → lookup (eq i) es ≡ sent_as i (all_sent es)
found_as eq decides i [] = refl
found_as eq decides i (e ∷ es) =
    ap (λ b. cond b (Some e.1) (lookup (eq i) es)) (same eq decides i e.0) ∙ ap (λ o. cond (same_item i e.0) (Some e.1) o) (found_as eq decides i es)

-- what is found of an item after one more is sent
abbrev or_else : Option (Option (List ℤ)) → Option (Option (List ℤ)) → Option (Option (List ℤ))
or_else None o = o
or_else (Some x) o = Some x

as_push : (i : Item) (xs : List SentItem) (x : SentItem) → sent_as i (xs ++ x ∷ []) ≡ or_else (sent_as i xs) (cond (same_item i x.item) (Some x.tile) None)
as_push i [] x = refl
as_push i (y ∷ ys) x =
    by_test (same_item i y.item)
    (λ k. ap (λ b. cond b (Some y.tile) (sent_as i (ys ++ x ∷ []))) k
    ∙ sym (ap (λ b. or_else (cond b (Some y.tile) (sent_as i ys)) (cond (same_item i x.item) (Some x.tile) None))
    k))
    (λ k. ap (λ b. cond b (Some y.tile) (sent_as i (ys ++ x ∷ []))) k ∙ as_push i ys x
    ∙ sym (ap (λ b. or_else (cond b (Some y.tile) (sent_as i ys)) (cond (same_item i x.item) (Some x.tile) None))
    k))

or_none : (o : Option (Option (List ℤ))) → or_else o None ≡ o
or_none None = refl
or_none (Some x) = refl

both_push : (i : Item) (xs ys : List SentItem) (x : SentItem) → sent_as i xs ≡ sent_as i ys → sent_as i (xs ++ x ∷ []) ≡ sent_as i (ys ++ x ∷ [])
both_push i xs ys x e = as_push i xs x ∙ ap (λ o. or_else o (cond (same_item i x.item) (Some x.tile) None)) e ∙ sym (as_push i ys x)

other_push : (i : Item) (xs : List SentItem) (x : SentItem) → same_item i x.item ≡ false → sent_as i (xs ++ x ∷ []) ≡ sent_as i xs
other_push i xs x k = as_push i xs x ∙ ap (λ b. or_else (sent_as i xs) (cond b (Some x.tile) None)) k ∙ or_none (sent_as i xs)

-- the write-backs after one more item is sent
written_push : (xs : List SentItem) (x : SentItem) (b : Bool) → is_write x.item ≡ b → written (xs ++ x ∷ []) ≡ cond b (written xs ++ x ∷ []) (written xs)
written_push [] x true k = ap (λ b. cond b (x ∷ []) []) k
written_push [] x false k = ap (λ b. cond b (x ∷ []) []) k
written_push (y ∷ ys) x b k = by (is_write y.item) b (written_push ys x b k)
  where
    by : (w b : Bool) → written (ys ++ x ∷ []) ≡ cond b (written ys ++ x ∷ []) (written ys)
        → cond w (y ∷ written (ys ++ x ∷ [])) (written (ys ++ x ∷ []))
        ≡ cond b (cond w (y ∷ written ys) (written ys) ++ x ∷ []) (cond w (y ∷ written ys) (written ys))
    by true true e = ap (λ l. y ∷ l) e
    by true false e = ap (λ l. y ∷ l) e
    by false true e = e
    by false false e = e

-- a write-back is found among the write-backs as among all items
written_as : (w : WriteBack) (xs : List SentItem) → sent_as (item.Write w) (written xs) ≡ sent_as (item.Write w) xs
written_as w [] = refl
written_as w (x ∷ xs) = by (written_as w xs) x.item refl
  where
    by : sent_as (item.Write w) (written xs) ≡ sent_as (item.Write w) xs → (i : Item) → x.item ≡ i
        → sent_as (item.Write w) (written (x ∷ xs)) ≡ sent_as (item.Write w) (x ∷ xs)
    by rest (item.Edge e) q =
        ap (λ i. sent_as (item.Write w) (cond (is_write i) (x ∷ written xs) (written xs))) q ∙ rest
        ∙ sym (ap (λ i. cond (same_item (item.Write w) i) (Some x.tile) (sent_as (item.Write w) xs)) q)
    by rest (item.Write v) q =
        ap (λ i. sent_as (item.Write w) (cond (is_write i) (x ∷ written xs) (written xs))) q
        ∙ ap (λ o. cond (same_item (item.Write w) x.item) (Some x.tile) o) rest

pub writes_of_written : (xs : List SentItem) → writes_among (written xs) ≡ writes_among xs
writes_of_written [] = refl
writes_of_written (x ∷ xs) = by (writes_of_written xs) x.item refl
  where
    by : writes_among (written xs) ≡ writes_among xs → (i : Item) → x.item ≡ i → writes_among (written (x ∷ xs)) ≡ writes_among (x ∷ xs)
    by rest (item.Edge e) q =
        ap (λ i. writes_among (cond (is_write i) (x ∷ written xs) (written xs))) q ∙ rest
        ∙ sym (ap (λ i. cons_option (write_with i x.tile) (writes_among xs)) q)
    by rest (item.Write w) q =
        ap (λ i. writes_among (cond (is_write i) (x ∷ written xs) (written xs))) q ∙ ap (cons_option (write_with x.item x.tile)) rest

-- what is kept of an item that was not read is what was sent with it
pub kept_as : (claims : List (Task × Option Ended)) (s : SentAndKept) → AreKept claims s → (i : Item)
    → is_read claims i ≡ false → sent_as i (kept_with i s) ≡ sent_as i s.sends
kept_as claims s h (item.Edge e) unread = h.edges e unread
kept_as claims s h (item.Write w) unread = ap (sent_as (item.Write w)) h.writes ∙ written_as w s.sends

pub kept_tile : (claims : List (Task × Option Ended)) (s : SentAndKept) → AreKept claims s → (e : Edge)
    → is_read claims (item.Edge e) ≡ false → first_tile (item.Edge e) s.edges ≡ first_tile (item.Edge e) s.sends
kept_tile claims s h e unread = sym (tile_as (item.Edge e) s.edges) ∙ ap option_flatten (h.edges e unread) ∙ tile_as (item.Edge e) s.sends

-- unless it was read, an item is unsent if and only if it is not kept
pub unkept : (claims : List (Task × Option Ended)) (s : SentAndKept) → AreKept claims s → (i : Item)
    → is_read claims i ≡ false → (b : Bool) → b ≡ is_some (sent_as i (kept_with i s))
    → IsTrue (not b) ↔ IsUnsent s.sends i
unkept claims s h i unread b is = by (sent_as i s.sends) refl
  where
    some : b ≡ is_some (sent_as i s.sends)
    some = is ∙ ap is_some (kept_as claims s h i unread)

    by : (o : Option (Option (List ℤ))) → sent_as i s.sends ≡ o → IsTrue (not b) ↔ IsUnsent s.sends i
    by None k = (λ _. (unsent_as i s.sends).0 k, λ _. ap not (some ∙ ap is_some k))
    by (Some x) k = (λ t. absurd (false≢true (sym (ap not (some ∙ ap is_some k)) ∙ t)), λ u. let no : Some x ≡ None = sym k ∙ (unsent_as i s.sends).1 u in cc)

-- after one more item is sent
pub kept_push : (claims : List (Task × Option Ended)) (s : SentAndKept) (x : SentItem) → AreKept claims s → AreKept claims (with_sent s x)
kept_push claims s x h = record { edges = λ e unread. edges e unread x.item refl; writes = writes (is_write x.item) refl }
  where
    edges : (e : Edge) → is_read claims (item.Edge e) ≡ false → (i : Item) → x.item ≡ i
        → sent_as (item.Edge e) (cond (is_write x.item) s.edges (s.edges ++ x ∷ []))
        ≡ sent_as (item.Edge e) (s.sends ++ x ∷ [])
    edges e unread (item.Edge d) q = ap (λ i. sent_as (item.Edge e) (cond (is_write i) s.edges (s.edges ++ x ∷ []))) q
        ∙ both_push (item.Edge e) s.edges s.sends x (h.edges e unread)
    edges e unread (item.Write w) q =
        ap (λ i. sent_as (item.Edge e) (cond (is_write i) s.edges (s.edges ++ x ∷ []))) q ∙ h.edges e unread
        ∙ sym (other_push (item.Edge e) s.sends x (ap (same_item (item.Edge e)) q))

    writes : (b : Bool) → is_write x.item ≡ b → cond (is_write x.item) (s.writes ++ x ∷ []) s.writes ≡ written (s.sends ++ x ∷ [])
    writes b k = ap (λ w. cond w (s.writes ++ x ∷ []) s.writes) k ∙ ap (λ l. cond b (l ++ x ∷ []) l) h.writes ∙ sym (written_push s.sends x b k)

-- after a claim
pub kept_claim : (claims : List (Task × Option Ended)) (t : Task) (s : SentAndKept) → AreKept claims s → AreKept (claims ++ (t, None) ∷ []) s
kept_claim claims t s h = record { edges = λ e unread. h.edges e (ap is_some (sym (end_push e.to t claims)) ∙ unread); writes = h.writes }

-- after the end of a running task, which reads the edges to it
read_before : (claims : List (Task × Option Ended)) (t : Task) (end : Ended) → lookup (same_task t) claims ≡ Some None
    → (e : Edge) → is_read (set_value (same_task t) claims (Some end)) (item.Edge e) ≡ false
    → (same_task t e.to ≡ false) × (is_read claims (item.Edge e) ≡ false)
read_before claims t end running e u =
    by_test (same_task t e.to)
    (λ k.
    let one : t ≡ e.to = (same_task-decides t e.to).0 k in
    let here : lookup (same_task t) (set_value (same_task t) claims (Some end)) ≡ Some (Some end) = set_same (same_task t) claims None (Some end) running in
    let read : is_some (unwrap_or (lookup (same_task e.to) (set_value (same_task t) claims (Some end))) None)
    ≡ true = subst (λ s. is_some (unwrap_or (lookup (same_task s) (set_value (same_task t) claims (Some end))) None)
    ≡ true) one (ap (λ m. is_some (unwrap_or m None)) here) in
    absurd (false≢true (sym u ∙ read)))
    (λ k. (k, ap (λ m. is_some (unwrap_or m None)) (sym (set_other (same_task t) (same_task e.to) (apart t e.to k) claims (Some end))) ∙ u))

pub kept_end : (claims : List (Task × Option Ended)) (t : Task) (end : Ended) → lookup (same_task t) claims ≡ Some None
    → (s n : SentAndKept) → AreKept claims s → TakesOnlyTo t s.edges n.edges → n.sends ≡ s.sends → n.writes ≡ s.writes
    → AreKept (set_value (same_task t) claims (Some end)) n
kept_end claims t end running s n h takes sends writes = record {
  edges = λ e unread. let p = read_before claims t end running e unread in takes e p.0 ∙ h.edges e p.1 ∙ ap (sent_as (item.Edge e)) (sym sends);
  writes = writes ∙ h.writes ∙ ap written (sym sends);
}

-- taking nothing, and taking the tile of an edge to the task
pub takes_none : (t : Task) (kept : List SentItem) → TakesOnlyTo t kept kept
takes_none t kept e other = refl

pub takes_then : (t : Task) (a b c : List SentItem) → TakesOnlyTo t a b → TakesOnlyTo t b c → TakesOnlyTo t a c
takes_then t a b c h k e other = k e other ∙ h e other

pub takes_one : (t : Task) (d : Edge) → d.to ≡ t → (old new : List SentItem)
    → ((j : Item) → (item.Edge d ≡ j → ⊥) → sent_as j new ≡ sent_as j old) → TakesOnlyTo t old new
takes_one t d to old new others e other =
    others (item.Edge e) (λ q. false≢true (sym other ∙ (same_task-decides t e.to).1 (sym to ∙ ap (λ (x : Edge). x.to) (Edge-injective d e q))))

-- other edges keep their tiles
pub other_tile : (i j : Item) (old new : List SentItem) → sent_as j new ≡ sent_as j old → first_tile j new ≡ first_tile j old
other_tile i j old new h = sym (tile_as j new) ∙ ap option_flatten h ∙ tile_as j old

-- an edge to a running task was not read, nor an item that goes to no claimed task
pub unread : (claims : List (Task × Option Ended)) (t : Task) (e : Edge) → lookup (same_task t) claims ≡ Some None
    → e.to ≡ t → is_read claims (item.Edge e) ≡ false
unread claims t e running to = ap (λ s. is_some (unwrap_or (lookup (same_task s) claims) None)) to ∙ ap (λ m. is_some (unwrap_or m None)) running

pub unread_waiting : (claims : List (Task × Option Ended)) (i : Item)
    → ((u : Task) → IsTrue (is_edge_to u i) → lookup (same_task u) claims ≡ None) → is_read claims i ≡ false
unread_waiting claims (item.Edge e) none = ap (λ m. is_some (unwrap_or m None)) (none e.to ((same_task-decides e.to e.to).1 refl))
unread_waiting claims (item.Write w) none = refl
