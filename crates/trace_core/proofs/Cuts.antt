-- A text is cut before its first byte of a kind in only one way.
use Rattle.std.proofs.Common.{◌≡◌, ◌==◌, ℕ, Bool, true, false, not, List, [], ◌∷◌, ◌++◌, refl, ap, sym, ◌∙◌, subst}
use Rattle.std.specs.List.{list_all}
use Rattle.std.proofs.lemmas.Bool.{false≢true, ne_eqb, and_from}
use Rattle.std.proofs.lemmas.List.Folds.{list_all-append}
use Rattle.std.specs.Cmp.{first_so, second_so}
use Rattle.trace_core.specs.Cutting.{is_free_of, opens_with}

-- c is not among bytes that are free of it
not_free : (c b : ℕ) (bs : List ℕ) → is_free_of c (b ∷ bs) ≡ true → (b == c) ≡ true → ⊥
not_free c b bs free is = false≢true (sym (ap not is) ∙ first_so (not (b == c)) (is_free_of c bs) free)

pub cut_once : (c : ℕ) (a b ra rb : List ℕ) → is_free_of c a ≡ true → is_free_of c b ≡ true → opens_with c ra ≡ true
    → opens_with c rb ≡ true → a ++ ra ≡ b ++ rb → (a ≡ b) × (ra ≡ rb)
cut_once c [] [] ra rb fa fb oa ob e = (refl, e)
cut_once c [] (y ∷ b) ra rb fa fb oa ob e = absurd (not_free c y b fb (subst (λ l. opens_with c l ≡ true) e oa))
cut_once c (x ∷ a) [] ra rb fa fb oa ob e = absurd (not_free c x a fa (subst (λ l. opens_with c l ≡ true) (sym e) ob))
cut_once c (x ∷ a) (y ∷ b) ra rb fa fb oa ob e =
    let same : x ≡ y = cc in
    let rest : a ++ ra ≡ b ++ rb = cc in
    let r = cut_once c a b ra rb (second_so (not (x == c)) (is_free_of c a) fa) (second_so (not (y == c)) (is_free_of c b) fb) oa ob rest in
    (λ i. same i ∷ r.0 i, r.1)

pub free_append : (c : ℕ) (xs ys : List ℕ) → is_free_of c xs ≡ true → is_free_of c ys ≡ true → is_free_of c (xs ++ ys) ≡ true
free_append c xs ys h k = list_all-append (λ b. not (b == c)) xs ys ∙ and_from (is_free_of c xs) (is_free_of c ys) h k

-- bytes that all pass a test are free of one that does not
pub free_by : (test : ℕ → Bool) (c : ℕ) → test c ≡ false → (bs : List ℕ) → list_all test bs ≡ true → is_free_of c bs ≡ true
free_by test c fails [] all = refl
free_by test c fails (b ∷ bs) all =
    let passes = first_so (test b) (list_all test bs) all in
    and_from (not (b == c)) (is_free_of c bs) (ap not (ne_eqb b c
    (λ e. false≢true (sym fails ∙ ap test (sym e) ∙ passes))))
    (free_by test c fails bs (second_so (test b) (list_all test bs) all))
