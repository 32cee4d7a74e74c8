-- What holds for each element of a list holds for one of them.
use Rattle.std.proofs.Common.{◌≡◌, ℕ, zero, suc, Bool, List, [], ◌∷◌, Some, slice_get, IsTrue, sym, subst}
use Rattle.std.specs.List.{list_all}
use Rattle.std.specs.Cmp.{first_so, second_so}

pub all_at : {A : Type 0} (p : A → Bool) (xs : List A) (i : ℕ) (x : A) → IsTrue (list_all p xs) → Some x ≡ slice_get xs i → IsTrue (p x)
all_at p [] zero x h e = absurd cc
all_at p [] (suc i) x h e = absurd cc
all_at p (y ∷ ys) zero x h e = let same : x ≡ y = cc in subst (λ z. IsTrue (p z)) (sym same) (first_so (p y) (list_all p ys) h)
all_at p (y ∷ ys) (suc i) x h e = all_at p ys i x (second_so (p y) (list_all p ys) h) e
