-- The tiles of an array with a place for each flow.
use Rattle.std.specs.Prelude.{◌≡◌, ℕ, ◌+◌, ◌<◌, ◌≤◌, ℤ, not, nat_eq, cond, if◌then◌else◌, List, [], ◌∷◌, length, slice_set, slice_index_or, Option, Some, None}
use Rattle.std.proofs.Common.{zero, suc, refl, sym, ap, ◌∙◌, arith}
use Rattle.ptg_base.specs.Entry.{FlowTile}
use Rattle.dep_shard.specs.Arrivals.{with_tile, without_tile, tile_of, RiseFrom, IsInFlowOrder, tiles_by_flow}
use Rattle.std.proofs.lemmas.Bool.{lt-ltb, le-ltb, eq-eqb, ne_eqb}

-- a tile of a flow comes before those of greater flows
before : (m : ℕ) (x : List ℤ) (t : FlowTile) (ts : List FlowTile) → m < t.0 → with_tile m x (t ∷ ts) ≡ (m, x) ∷ t ∷ ts
before m x t ts h = ap (λ b. if b then (m, x) ∷ t ∷ ts else (if nat_eq m t.0 then (m, x) ∷ ts else (t ∷ with_tile m x ts))) (lt-ltb m t.0 h)

replaces : (m : ℕ) (x : List ℤ) (t : FlowTile) (ts : List FlowTile) → m ≡ t.0 → with_tile m x (t ∷ ts) ≡ (m, x) ∷ ts
replaces m x t ts h =
    ap (λ b. if b then (m, x) ∷ t ∷ ts else (if nat_eq m t.0 then (m, x) ∷ ts else (t ∷ with_tile m x ts))) (le-ltb m t.0 (omega arith))
    ∙ ap (λ b. if b then (m, x) ∷ ts else (t ∷ with_tile m x ts)) (eq-eqb m t.0 h)

after : (m : ℕ) (x : List ℤ) (t : FlowTile) (ts : List FlowTile) → t.0 < m → with_tile m x (t ∷ ts) ≡ t ∷ with_tile m x ts
after m x t ts h =
    ap (λ b. if b then (m, x) ∷ t ∷ ts else (if nat_eq m t.0 then (m, x) ∷ ts else (t ∷ with_tile m x ts))) (le-ltb m t.0 (omega arith))
    ∙ ap (λ b. if b then (m, x) ∷ ts else (t ∷ with_tile m x ts)) (ne_eqb m t.0 (λ e. omega arith))

-- before all tiles of an array that begins at a greater flow
comes_first : (m : ℕ) (x : List ℤ) (n : ℕ) (slots : List (Option (List ℤ))) → m < n → with_tile m x (tiles_by_flow n slots) ≡ (m, x) ∷ tiles_by_flow n slots
comes_first m x n [] h = refl
comes_first m x n (None ∷ slots) h = comes_first m x (n + 1) slots (omega arith)
comes_first m x n (Some t ∷ slots) h = before m x (n, t) (tiles_by_flow (n + 1) slots) h

-- a tile that is put into the array
pub tiles_by_flow-set : (n : ℕ) (slots : List (Option (List ℤ))) (f : ℕ) (x : List ℤ) (m : ℕ) → m ≡ n + f
    → f < length slots → tiles_by_flow n (slice_set slots f (Some x)) ≡ with_tile m x (tiles_by_flow n slots)
tiles_by_flow-set n [] f x m e h = absurd (omega (arith, h))
tiles_by_flow-set n (None ∷ slots) zero x m e h =
    let is : m ≡ n = omega (arith, e) in
    sym (comes_first m x (n + 1) slots (omega (arith, is)) ∙ ap (λ (k : ℕ). (k, x) ∷ tiles_by_flow (n + 1) slots) is)
tiles_by_flow-set n (Some t ∷ slots) zero x m e h =
    let is : m ≡ n = omega (arith, e) in
    sym (replaces m x (n, t) (tiles_by_flow (n + 1) slots) is ∙ ap (λ (k : ℕ). (k, x) ∷ tiles_by_flow (n + 1) slots) is)
tiles_by_flow-set n (None ∷ slots) (suc f) x m e h = tiles_by_flow-set (n + 1) slots f x m (omega (arith, e)) (omega (arith, h))
tiles_by_flow-set n (Some t ∷ slots) (suc f) x m e h =
    ap (λ ts. (n, t) ∷ ts) (tiles_by_flow-set (n + 1) slots f x m (omega (arith, e)) (omega (arith, h)))
    ∙ sym (after m x (n, t) (tiles_by_flow (n + 1) slots) (omega (arith, e)))

-- a flow before the array has no tile in it
no_tile : (m n : ℕ) (slots : List (Option (List ℤ))) → m < n → tile_of (tiles_by_flow n slots) m ≡ None
no_tile m n [] h = refl
no_tile m n (None ∷ slots) h = no_tile m (n + 1) slots (omega arith)
no_tile m n (Some t ∷ slots) h =
    ap (λ b. cond b (Some t) (tile_of (tiles_by_flow (n + 1) slots) m)) (ne_eqb m n (λ e. omega (arith, e, h))) ∙ no_tile m (n + 1) slots (omega arith)

-- the tile of a flow is the one at its place
pub tile_of-tiles_by_flow : (n : ℕ) (slots : List (Option (List ℤ))) (f : ℕ) (d : Option (List ℤ)) (m : ℕ) → m ≡ n + f
    → f < length slots → tile_of (tiles_by_flow n slots) m ≡ slice_index_or slots f d
tile_of-tiles_by_flow n [] f d m e h = absurd (omega (arith, h))
tile_of-tiles_by_flow n (None ∷ slots) zero d m e h = no_tile m (n + 1) slots (omega (arith, e))
tile_of-tiles_by_flow n (Some t ∷ slots) zero d m e h =
    ap (λ b. cond b (Some t) (tile_of (tiles_by_flow (n + 1) slots) m)) (eq-eqb m n (omega (arith, e)))
tile_of-tiles_by_flow n (None ∷ slots) (suc f) d m e h = tile_of-tiles_by_flow (n + 1) slots f d m (omega (arith, e)) (omega (arith, h))
tile_of-tiles_by_flow n (Some t ∷ slots) (suc f) d m e h =
    ap (λ b. cond b (Some t) (tile_of (tiles_by_flow (n + 1) slots) m)) (ne_eqb m n (λ is. omega (arith, e, is)))
    ∙ tile_of-tiles_by_flow (n + 1) slots f d m (omega (arith, e)) (omega (arith, h))

-- taking out a flow before the array changes nothing
none_goes : (m n : ℕ) (slots : List (Option (List ℤ))) → m < n → without_tile m (tiles_by_flow n slots) ≡ tiles_by_flow n slots
none_goes m n [] h = refl
none_goes m n (None ∷ slots) h = none_goes m (n + 1) slots (omega arith)
none_goes m n (Some t ∷ slots) h =
    ap (λ b. if not b then (n, t) ∷ without_tile m (tiles_by_flow (n + 1) slots) else without_tile m
    (tiles_by_flow (n + 1) slots)) (ne_eqb m n (λ e. omega (arith, e, h)))
    ∙ ap (λ ts. (n, t) ∷ ts) (none_goes m (n + 1) slots (omega arith))

-- a tile that is taken out of the array
pub tiles_by_flow-clear : (n : ℕ) (slots : List (Option (List ℤ))) (f : ℕ) (w : Option (List ℤ)) (m : ℕ) → w ≡ None
    → m ≡ n + f → f < length slots → tiles_by_flow n (slice_set slots f w) ≡ without_tile m (tiles_by_flow n slots)
tiles_by_flow-clear n [] f w m none e h = absurd (omega (arith, h))
tiles_by_flow-clear n (None ∷ slots) zero w m none e h =
    ap (λ v. tiles_by_flow n (v ∷ slots)) none ∙ sym (none_goes m (n + 1) slots (omega (arith, e)))
tiles_by_flow-clear n (Some t ∷ slots) zero w m none e h =
    ap (λ v. tiles_by_flow n (v ∷ slots)) none
    ∙ sym (ap (λ b. if not b then (n, t) ∷ without_tile m (tiles_by_flow (n + 1) slots) else without_tile m
    (tiles_by_flow (n + 1) slots)) (eq-eqb m n (omega (arith, e)))
    ∙ none_goes m (n + 1) slots (omega (arith, e)))
tiles_by_flow-clear n (None ∷ slots) (suc f) w m none e h = tiles_by_flow-clear (n + 1) slots f w m none (omega (arith, e)) (omega (arith, h))
tiles_by_flow-clear n (Some t ∷ slots) (suc f) w m none e h =
    ap (λ ts. (n, t) ∷ ts) (tiles_by_flow-clear (n + 1) slots f w m none (omega (arith, e)) (omega (arith, h)))
    ∙ sym (ap (λ b. if not b then (n, t) ∷ without_tile m (tiles_by_flow (n + 1) slots) else without_tile m
    (tiles_by_flow (n + 1) slots)) (ne_eqb m n (λ is. omega (arith, e, is))))

-- an array of eight places has its tiles in flow order
rises : (least n : ℕ) (slots : List (Option (List ℤ))) → least ≤ n → n + length slots ≤ 8 → RiseFrom least (tiles_by_flow n slots)
rises least n [] h within = tt
rises least n (None ∷ slots) h within = rises least (n + 1) slots (omega arith) (omega (arith, within))
rises least n (Some t ∷ slots) h within = (h, omega (arith, within), rises (n + 1) (n + 1) slots (omega arith) (omega (arith, within)))

pub in_order : (slots : List (Option (List ℤ))) → length slots ≡ 8 → IsInFlowOrder (tiles_by_flow 0 slots)
in_order slots h = rises 0 0 slots (omega arith) (omega (arith, h))
