-- Lemmas on the front of a list, in which a small tile holds its numbers.
use Rattle.std.proofs.Common.{◌≡◌, ◌≤◌, ℕ, suc, List, [], ◌∷◌, set, take, replicate, pos, refl, ap}
use Rattle.std.proofs.lemmas.List.{take-replicate}
use Prim.Native.Nat.{zero}

-- setting an element and taking a front may be exchanged
pub take_set : {X : Type 0} (m i : ℕ) (xs : List X) (x : X) → take m (set xs i x) ≡ set (take m xs) i x
take_set zero i [] x = refl
take_set zero zero (y ∷ ys) x = refl
take_set zero (suc i) (y ∷ ys) x = refl
take_set (suc m) i [] x = refl
take_set (suc m) zero (y ∷ ys) x = refl
take_set (suc m) (suc i) (y ∷ ys) x = ap (λ zs. y ∷ zs) (take_set m i ys x)

-- a front of four zeros has zeros alone
pub take_zeros : (n : ℕ) → n ≤ 4 → take n (pos 0 ∷ pos 0 ∷ pos 0 ∷ pos 0 ∷ []) ≡ replicate n (pos 0)
take_zeros n h = take-replicate n 4 (pos 0) h
