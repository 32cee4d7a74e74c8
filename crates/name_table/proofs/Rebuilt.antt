-- An index of the first names, and of one more.
use Rattle.std.proofs.Common.{◌≡◌, ℕ, zero, suc, ◌+◌, ◌<◌, List, [], ◌∷◌, ◌++◌, length, take, get_or, Option, Some, None, refl, sym, ap, subst, ◌∙◌}
use Rattle.std.proofs.Common.{arith, length-take}
use Rattle.std.specs.Prelude.{slice_get, option_map}
use Rattle.std.specs.Result.{OnOk}
use Rattle.std.specs.declared.result.Result.{Result}
use Rattle.std.specs.declared.result.Result.TheVariants.{Ok, Err}
use Rattle.std.specs.Map.{keys_of}
use Rattle.std.proofs.Math.Seq.{take-suc}
use Rattle.std.proofs.lemmas.Option.{get_or_from_slice_get, slice_get_within, slice_get_read, slice_get-map}
use Rattle.name_table.specs.declared.index.Index.{Index}
use Rattle.name_table.specs.Index.{found, IsIndexOf}
use Rattle.name_table.specs.Names.{IsEachOnce}
use Rattle.name_table.proofs.Found.{found_sound}

taken : {X : Type 0} (n : ℕ) (xs : List X) (j : ℕ) (x : X) → slice_get (take n xs) j ≡ Some x → (j < n) × (slice_get xs j ≡ Some x)
taken zero xs j x h = absurd cc
taken (suc n) [] j x h = absurd cc
taken (suc n) (y ∷ xs) zero x h = (omega arith, h)
taken (suc n) (y ∷ xs) (suc j) x h = let r = taken n xs j x h in (omega (arith, r.0), r.1)

not_yet : (names : List (List ℕ)) (number : ℕ) (name : List ℕ) (x : Index) → IsEachOnce names
    → IsIndexOf (take number names) x → slice_get names number ≡ Some name → found (take number names) x name ≡ None
not_yet names number name x once is there =
    go (found (take number names) x name)
    (λ j e. taken number names j name (found_sound (take number names) x name j is e))
  where
    go : (r : Option ℕ) → ((j : ℕ) → r ≡ Some j → (j < number) × (slice_get names j ≡ Some name)) → r ≡ None
    go (Some j) h = let t = h j refl in absurd (omega (arith, t.0, once j number name t.1 there))
    go None h = refl

pub one_name_more : {V : Type 0} (pairs : List (List ℕ × V)) (number next : ℕ) (p : List ℕ × V) (x y : Index)
    → IsEachOnce (keys_of pairs) → IsIndexOf (take number (keys_of pairs)) x → number < length pairs
    → p ≡ get_or pairs number p → next ≡ number
    → ((names : List (List ℕ)) → IsIndexOf names x → length names ≡ next
    → found names x (get_or pairs number p).0 ≡ None → IsIndexOf (names ++ (get_or pairs number p).0 ∷ []) y)
    → IsIndexOf (take (number + 1) (keys_of pairs)) y
one_name_more {V} pairs number next p x y once is lt e n put =
    subst (λ k. IsIndexOf (take k (keys_of pairs)) y) one
    (subst (λ l. IsIndexOf l y) (sym all)
    (put' (take number (keys_of pairs)) is (omega (arith, n, length-take number (keys_of pairs), within))
    (not_yet (keys_of pairs) number p.0 x once is there)))
  where
    one : suc number ≡ number + 1
    one = omega arith

    put' : (names : List (List ℕ)) → IsIndexOf names x → length names ≡ next → found names x p.0 ≡ None → IsIndexOf (names ++ p.0 ∷ []) y
    put' = subst (λ (q : List ℕ × V). (names : List (List ℕ)) → IsIndexOf names x → length names ≡ next
        → found names x q.0 ≡ None → IsIndexOf (names ++ q.0 ∷ []) y) (sym e) put

    there : slice_get (keys_of pairs) number ≡ Some p.0
    there = slice_get-map (λ (q : List ℕ × V). q.0) pairs number
        ∙ ap (option_map (λ (q : List ℕ × V). q.0)) (slice_get_read pairs (length pairs) number p refl lt e)

    within : number < length (keys_of pairs)
    within = slice_get_within (keys_of pairs) number p.0 there

    all : take (suc number) (keys_of pairs) ≡ take number (keys_of pairs) ++ p.0 ∷ []
    all = take-suc (keys_of pairs) number [] within
        ∙ ap (λ k. take number (keys_of pairs) ++ k ∷ [])
        (get_or_from_slice_get (keys_of pairs) number p.0 [] there)

pub once_ok : {X E P Q : Type 0} (r : Result X E) → OnOk r P → (P → Q) → OnOk r Q
once_ok (Ok x) p f = f p
once_ok (Err e) p f = tt
