-- The longest front of a list whose elements all pass a test.
use Rattle.std.proofs.Common.{◌≡◌, ℕ, suc, ◌+◌, Bool, true, false, cond, List, [], ◌∷◌, ◌++◌, length, take, drop, get_or, refl, sym, ◌∙◌, ap, subst, inl, inr}
use Rattle.std.specs.List.{list_all, prefix_len}
use Rattle.std.proofs.lemmas.Bool.{and_parts, and_from, both_ways, cases_lt, cases_Bool}
use Rattle.std.proofs.lemmas.List.{drop_more, drop_all}
use Rattle.std.proofs.lemmas.List.Sums.{prefix_len_stops}
use Rattle.jdf_lex.proofs.Closing.{one_more}

prefix_more : (q : ℕ → Bool) (x : ℕ) (xs : List ℕ) → q x ≡ true → suc (prefix_len q xs) ≡ prefix_len q (x ∷ xs)
prefix_more q x xs passes = one_more (prefix_len q xs) ∙ sym (ap (λ b. cond b (1 + prefix_len q xs) 0) passes)

prefix_none : (q : ℕ → Bool) (x : ℕ) (xs : List ℕ) → q x ≡ false → 0 ≡ prefix_len q (x ∷ xs)
prefix_none q x xs fails = sym (ap (λ b. cond b (1 + prefix_len q xs) 0) fails)

-- Each element of that front passes.
pub prefix_passes : (q : ℕ → Bool) (xs : List ℕ) → list_all q (take (prefix_len q xs) xs) ≡ true
prefix_passes q [] = refl
prefix_passes q (x ∷ xs) =
    elim (cases_Bool (q x)) [
      | inl passes ↦ subst (λ n. list_all q (take n (x ∷ xs)) ≡ true) (prefix_more q x xs passes)
          (and_from (q x) (list_all q (take (prefix_len q xs) xs)) passes (prefix_passes q xs))
      | inr fails ↦ subst (λ n. list_all q (take n (x ∷ xs)) ≡ true) (prefix_none q x xs fails) refl
    ]

-- The element after that front does not.
prefix_stops : (q : ℕ → Bool) (xs : List ℕ) (m : ℕ) (ys : List ℕ) → drop (prefix_len q xs) xs ≡ m ∷ ys → q m ≡ true → ⊥
prefix_stops q xs m ys e passes =
    elim (cases_lt (prefix_len q xs) (length xs)) [
      | inl within ↦
          let split = drop_more xs (prefix_len q xs) 0 within in
          let same : get_or xs (prefix_len q xs) 0 ≡ m = cc (split, e) in
          both_ways (q m) (sym (ap q same) ∙ prefix_len_stops q xs 0 within) passes
      | inr past ↦ let none = drop_all (prefix_len q xs) xs past in cc (none, e)
    ]

list_all_middle : (q : ℕ → Bool) (xs : List ℕ) (m : ℕ) (ys : List ℕ) → list_all q (xs ++ (m ∷ ys)) ≡ true → q m ≡ true
list_all_middle q [] m ys all = (and_parts (q m) (list_all q ys) all).0
list_all_middle q (x ∷ xs) m ys all = list_all_middle q xs m ys (and_parts (q x) (list_all q (xs ++ (m ∷ ys))) all).1

-- So no longer front passes.
pub run_longest : (q : ℕ → Bool) (bs more after : List ℕ) → drop (prefix_len q bs) bs ≡ more ++ after
    → list_all q (take (prefix_len q bs) bs ++ more) ≡ true → more ≡ []
run_longest q bs [] after e all = refl
run_longest q bs (m ∷ more) after e all =
    absurd (prefix_stops q bs m (more ++ after) e (list_all_middle q (take (prefix_len q bs) bs) m more all))
