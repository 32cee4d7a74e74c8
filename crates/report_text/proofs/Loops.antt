-- Loops that put the texts of the items of a list, one after another.
use Rattle.std.specs.Prelude.{IsErr}
use Rattle.std.proofs.Common.{◌≡◌, ℕ, ◌+◌, ◌<◌, ◌≤◌, List, [], ◌∷◌, ◌++◌, length, get_or, take, drop, flat_map, Result, sym, ap, ◌∙◌, refl}
use Rattle.std.proofs.lemmas.List.{take_more, take_all, take-append-drop}
use Rattle.std.proofs.lemmas.List.Concat.{flat_map-append}
use Rattle.list_lemmas.proofs.Joins.{flat_map_push}
use Rattle.ptg_io.specs.declared.files.Failed.{Failed}
use Rattle.report_text.specs.Puts.{Puts}
use Rattle.report_text.proofs.Putting.{HasPut, HasFailed, puts_then, puts_cut}

each_more : {X : Type 0} (f : X → List ℕ) (xs : List X) (i : ℕ) (d : X) → i < length xs
    → flat_map f (take (i + 1) xs) ≡ flat_map f (take i xs) ++ f (get_or xs i d)
each_more f xs i d within = ap (λ ys. flat_map f ys) (take_more xs i d within) ∙ flat_map_push f (take i xs) (get_or xs i d)

each_split : {X : Type 0} (f : X → List ℕ) (xs : List X) (i : ℕ) (d : X) → i < length xs
    → flat_map f xs ≡ (flat_map f (take i xs) ++ f (get_or xs i d)) ++ flat_map f (drop (i + 1) xs)
each_split f xs i d within =
    ap (λ ys. flat_map f ys) (sym (take-append-drop (i + 1) xs))
    ∙ flat_map-append f (take (i + 1) xs) (drop (i + 1) xs)
    ∙ ap (λ t. t ++ flat_map f (drop (i + 1) xs)) (each_more f xs i d within)

-- one more item
pub loop_more : {S : Type 0} {bytes : S → List ℕ} {faults : S → ℕ} {s s1 s2 : S} {k k1 k2 : List ℕ} {X : Type 0}
    (f : X → List ℕ) (xs : List X) (i : ℕ) (d x : X) → i < length xs → x ≡ get_or xs i d
    → HasPut bytes faults s k s1 k1 (flat_map f (take i xs)) → HasPut bytes faults s1 k1 s2 k2 (f x)
    → HasPut bytes faults s k s2 k2 (flat_map f (take (i + 1) xs))
loop_more f xs i d x within is so_far next =
    puts_then (flat_map f (take (i + 1) xs)) so_far next (each_more f xs i d within ∙ ap (λ y. flat_map f (take i xs) ++ f y) (sym is))

-- a failure at an item
pub loop_cut : {S : Type 0} {bytes : S → List ℕ} {faults : S → ℕ} {s s1 s2 : S} {k k1 k2 k3 : List ℕ} {X : Type 0}
    (f : X → List ℕ) (xs : List X) (i : ℕ) (d x : X) → i < length xs → x ≡ get_or xs i d
    → {failure : Failed} {result : Result (Unit {0}) Failed} → HasPut bytes faults s k s1 k1 (flat_map f (take i xs))
    → HasFailed bytes faults failure s1 k1 s2 k2 (f x) → IsErr result
    → Puts bytes faults result s k s2 k3 (flat_map f xs)
loop_cut f xs i d x within is so_far failed err =
    let both = puts_then (flat_map f (take i xs) ++ f x) so_far failed refl in
    puts_cut (flat_map f (drop (i + 1) xs)) (flat_map f xs) both err
    (each_split f xs i d within ∙ ap (λ y. (flat_map f (take i xs) ++ f y) ++ flat_map f (drop (i + 1) xs))
    (sym is))

-- the same for bytes themselves
pub bytes_more : {S : Type 0} {bytes : S → List ℕ} {faults : S → ℕ} {s s1 s2 : S} {k k1 k2 : List ℕ} (xs : List ℕ)
    (i : ℕ) → i < length xs → HasPut bytes faults s k s1 k1 (take i xs)
    → HasPut bytes faults s1 k1 s2 k2 (get_or xs i 0 ∷ []) → HasPut bytes faults s k s2 k2 (take (i + 1) xs)
bytes_more xs i within so_far next = puts_then (take (i + 1) xs) so_far next (take_more xs i 0 within)

pub bytes_cut : {S : Type 0} {bytes : S → List ℕ} {faults : S → ℕ} {s s1 s2 : S} {k k1 k2 k3 : List ℕ} (xs : List ℕ)
    (i : ℕ) → i < length xs → {failure : Failed} {result : Result (Unit {0}) Failed}
    → HasPut bytes faults s k s1 k1 (take i xs) → HasFailed bytes faults failure s1 k1 s2 k2 (get_or xs i 0 ∷ [])
    → IsErr result → Puts bytes faults result s k s2 k3 xs
bytes_cut xs i within so_far failed err =
    let both = puts_then (take (i + 1) xs) so_far failed (take_more xs i 0 within) in
    puts_cut (drop (i + 1) xs) xs both err (sym (take-append-drop (i + 1) xs))

-- no more items
pub loop_all : {S : Type 0} {bytes : S → List ℕ} {faults : S → ℕ} {s s1 : S} {k k1 : List ℕ} {X : Type 0}
    (f : X → List ℕ) (xs : List X) (i : ℕ) → length xs ≤ i → HasPut bytes faults s k s1 k1 (flat_map f (take i xs))
    → HasPut bytes faults s k s1 k1 (flat_map f xs)
loop_all f xs i end so_far = rw (take_all i xs end) at so_far
