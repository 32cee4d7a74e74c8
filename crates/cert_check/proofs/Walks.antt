-- A walk along a list that looks at all that is left, and what it shows of the whole list.
use Rattle.std.proofs.Common.{◌≡◌, ℕ, zero, suc, ◌+◌, ◌<◌, ◌≤◌, ◌↔◌, true, false, List, [], ◌∷◌, length, drop, refl, ap}
use Rattle.std.proofs.Common.{sym, ◌∙◌, subst, add-one, IsTrue, arith}
use Rattle.std.proofs.lemmas.Bool.{false≢true}
use Rattle.std.proofs.lemmas.List.{drop_all}

-- what is left at an index has a first element
pub drop_next : {A : Type 0} (xs : List A) (k : ℕ) → k < length xs → (x : A) × (drop k xs ≡ x ∷ drop (k + 1) xs)
drop_next {A} xs k h = let p = by xs k h in (p.0, p.1 ∙ ap (λ n. p.0 ∷ drop n xs) (sym (add-one k)))
  where
    by : (xs : List A) (k : ℕ) → k < length xs → (x : A) × (drop k xs ≡ x ∷ drop (suc k) xs)
    by [] k h = absurd (omega arith)
    by (x ∷ xs) zero h = (x, refl)
    by (x ∷ xs) (suc k) h = by xs k (omega arith)

-- a property that a list has if and only if its tail has it and something more holds of the list
module _ {A : Type 0} (Q R : List A → Type 0) (none : Q []) (split : (x : A) (xs : List A) → Q (x ∷ xs)
    → R (x ∷ xs) × Q xs) (join : (x : A) (xs : List A) → R (x ∷ xs) → Q xs → Q (x ∷ xs)) where
  first_holds : (xs : List A) (k : ℕ) → k < length xs → Q (drop k xs) → R (drop k xs)
  first_holds xs k h q = let p = drop_next xs k h in subst R (sym p.1) (split p.0 (drop (k + 1) xs) (subst Q p.1 q)).0

  pub walk_on : (xs : List A) (k : ℕ) → k < length xs → Q xs ↔ Q (drop k xs) → R (drop k xs) → Q xs ↔ Q (drop (k + 1) xs)
  walk_on xs k h so_far r =
      let p = drop_next xs k h in (
        λ q. (split p.0 (drop (k + 1) xs) (subst Q p.1 (so_far.0 q))).1,
        λ q. so_far.1 (subst Q (sym p.1) (join p.0 (drop (k + 1) xs) (subst R p.1 r) q)),
      )

  pub walk_fails : (xs : List A) (k : ℕ) → k < length xs → Q xs ↔ Q (drop k xs) → (R (drop k xs) → ⊥) → IsTrue false ↔ Q xs
  walk_fails xs k h so_far not = (λ e. absurd (false≢true e), λ q. absurd (not (first_holds xs k h (so_far.0 q))))

  pub walk_ends : (xs : List A) (k : ℕ) → length xs ≤ k → Q xs ↔ Q (drop k xs) → IsTrue true ↔ Q xs
  walk_ends xs k h so_far = (λ e. so_far.1 (subst Q (sym (drop_all k xs h)) none), λ q. refl)
