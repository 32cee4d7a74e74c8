-- Weights and counts of the members of lists, and lists with the same members.
use Rattle.std.proofs.Common.{List, [], arith, ℕ, ◌++◌, ◌+◌, ◌∷◌, ◌≡◌, inl, inr, refl, ◌≤◌, subst, sym, length, ◌*◌, ap}
use Rattle.std.proofs.Common.{map, Bool, cond, if◌then◌else◌, false, true, ◌<◌, ◌∙◌, suc, ◌⊎◌, IsTrue, ◌↔◌}
use Rattle.std.proofs.lemmas.Bool.{cases_eq}
use Rattle.std.proofs.lemmas.List.Sums.{sum_by-cons}
use Rattle.std.specs.List.{flat_map, filter, sum_by}
use Rattle.ptg_base.specs.Lists.{HasNoRepeats, IsIn}
use Rattle.list_lemmas.proofs.Truth.{by_test}
use Rattle.list_lemmas.specs.Counting.{weigh, as_number, count, HasSameMembers, HaveSameCounts}

pub weigh-append : {A : Type 0} (f : A → ℕ) (xs ys : List A) → weigh f (xs ++ ys) ≡ weigh f xs + weigh f ys
weigh-append f [] ys = omega arith
weigh-append f (x ∷ xs) ys = omega (arith, weigh-append f xs ys)

pub weigh-push : {A : Type 0} (f : A → ℕ) (xs : List A) (x : A) → weigh f (xs ++ x ∷ []) ≡ weigh f xs + f x
weigh-push f xs x = omega (arith, weigh-append f xs (x ∷ []))

pub weigh-le : {A : Type 0} (f g : A → ℕ) (xs : List A) → ((x : A) → IsIn x xs → f x ≤ g x) → weigh f xs ≤ weigh g xs
weigh-le f g [] h = omega arith
weigh-le f g (x ∷ xs) h = omega (arith, h x (inl refl), weigh-le f g xs (λ y i. h y (inr i)))

-- if one weight is nowhere greater than another and its sum is no smaller, the weights are equal at each member
pub weigh-tight : {A : Type 0} (f g : A → ℕ) (xs : List A) → ((x : A) → IsIn x xs → f x ≤ g x) → weigh g xs ≤ weigh f xs
    → (x : A) → IsIn x xs → g x ≤ f x
weigh-tight f g [] h s x i = absurd i
weigh-tight f g (y ∷ ys) h s x i =
    let first = h y (inl refl) in
    let rest = weigh-le f g ys (λ z j. h z (inr j)) in
    elim i [
      | inl e ↦ subst (λ z. g z ≤ f z) (sym e) (omega arith)
      | inr t ↦ weigh-tight f g ys (λ z j. h z (inr j)) (omega arith) x t
    ]

-- weights that agree on the members have the same sum
pub weigh-same : {A : Type 0} (f g : A → ℕ) (xs : List A) → ((x : A) → IsIn x xs → g x ≡ f x) → weigh g xs ≡ weigh f xs
weigh-same f g [] h = refl
weigh-same f g (x ∷ xs) h = omega (arith, h x (inl refl), weigh-same f g xs (λ y i. h y (inr i)))

pub weigh-zero : {A : Type 0} (f : A → ℕ) (xs : List A) → ((x : A) → IsIn x xs → f x ≡ 0) → weigh f xs ≡ 0
weigh-zero f [] h = refl
weigh-zero f (x ∷ xs) h = omega (arith, h x (inl refl), weigh-zero f xs (λ y i. h y (inr i)))

pub weigh-one : {A : Type 0} (xs : List A) → weigh (λ _. 1) xs ≡ length xs
weigh-one [] = refl
weigh-one (x ∷ xs) = omega (arith, weigh-one xs)

-- the sum if all members weigh the same
pub weigh-each : {A : Type 0} (f : A → ℕ) (n : ℕ) (xs : List A) → ((x : A) → IsIn x xs → f x ≡ n)
    → weigh f xs ≡ n * length xs
weigh-each f n [] h = omega arith
weigh-each f n (x ∷ xs) h = omega (arith, h x (inl refl), weigh-each f n xs (λ y i. h y (inr i)))

-- the bound of the sum if each member weighs at most 4096
pub weigh-at_most : {A : Type 0} (f : A → ℕ) (xs : List A) → ((x : A) → f x ≤ 4096) → weigh f xs ≤ 4096 * length xs
weigh-at_most f [] h = omega arith
weigh-at_most f (x ∷ xs) h = omega (arith, h x, weigh-at_most f xs h)

-- a member weighs no more than the list
pub weigh-member : {A : Type 0} (f : A → ℕ) (xs : List A) (x : A) → IsIn x xs → f x ≤ weigh f xs
weigh-member f [] x i = absurd i
weigh-member f (y ∷ ys) x i = elim i [ inl e ↦ omega (arith, ap f e) | inr t ↦ omega (arith, weigh-member f ys x t) ]

pub weigh-plus : {A : Type 0} (f g : A → ℕ) (l : List A) → weigh (λ x. f x + g x) l ≡ weigh f l + weigh g l
weigh-plus f g [] = refl
weigh-plus f g (x ∷ xs) = omega (arith, weigh-plus f g xs)

pub weigh-map : {A B : Type 0} (f : B → ℕ) (g : A → B) (xs : List A) → weigh f (map g xs) ≡ weigh (λ x. f (g x)) xs
weigh-map f g [] = refl
weigh-map f g (x ∷ xs) = omega (arith, weigh-map f g xs)

pub weigh-flat_map : {A B : Type 0} (f : B → ℕ) (g : A → List B) (vs : List A)
    → weigh f (flat_map g vs) ≡ weigh (λ v. weigh f (g v)) vs
weigh-flat_map f g [] = refl
weigh-flat_map f g (v ∷ vs) = omega (arith, weigh-append f (g v) (flat_map g vs), weigh-flat_map f g vs)

pub weigh-sum : {A : Type 0} (f : A → ℕ) (xs : List A) → weigh f xs ≡ sum_by f xs
weigh-sum f [] = refl
weigh-sum f (x ∷ xs) = omega (arith, weigh-sum f xs, sum_by-cons f x xs)

-- the members that pass a test weigh as much as all members do if the others weigh 0
pub weigh-filter : {A : Type 0} (test : A → Bool) (f : A → ℕ) (xs : List A)
    → weigh f (filter test xs) ≡ weigh (λ x. if test x then f x else 0) xs
weigh-filter test f [] = refl
weigh-filter test f (x ∷ xs) =
    let rest = weigh-filter test f xs in
    by_test (test x)
    (λ k.
    let a = ap (λ b. weigh f (cond b (x ∷ filter test xs) (filter test xs))) k in
    let b = ap (λ b. cond b (f x) 0) k in
    omega (arith, a, b, rest))
    (λ k.
    let a = ap (λ b. weigh f (cond b (x ∷ filter test xs) (filter test xs))) k in
    let b = ap (λ b. cond b (f x) 0) k in
    omega (arith, a, b, rest))

pub one_le : (a b : Bool) → (a ≡ true → b ≡ true) → as_number a ≤ as_number b
one_le true b h = omega (arith, ap as_number (h refl))
one_le false b h = omega arith

pub one_back : (a b : Bool) → as_number b ≤ as_number a → b ≡ true → a ≡ true
one_back true b h e = refl
one_back false b h e = absurd (omega (arith, ap as_number e))

pub one_at_most : (b : Bool) → as_number b ≤ 1
one_at_most true = omega arith
one_at_most false = omega arith

pub count-at_most : {A : Type 0} (test : A → Bool) (xs : List A) → count test xs ≤ length xs
count-at_most test xs = omega (arith, weigh-one xs, weigh-le (λ x. as_number (test x)) (λ _. 1) xs (λ x i. one_at_most (test x)))

pub count-all : {A : Type 0} (test : A → Bool) (xs : List A) → ((x : A) → IsIn x xs → test x ≡ true)
    → count test xs ≡ length xs
count-all test [] h = refl
count-all test (x ∷ xs) h = omega (arith, ap as_number (h x (inl refl)), count-all test xs (λ y i. h y (inr i)))

-- if as many members pass as there are, each passes
pub all_pass : {A : Type 0} (test : A → Bool) (xs : List A) → length xs ≤ count test xs → (x : A) → IsIn x xs
    → test x ≡ true
all_pass test xs s x i =
    one_back (test x) true (weigh-tight (λ x. as_number (test x)) (λ _. 1) xs (λ y j. one_at_most (test y)) (omega (arith, weigh-one xs)) x i) refl

pub count-le : {A : Type 0} (p q : A → Bool) (xs : List A) → ((x : A) → IsIn x xs → p x ≡ true → q x ≡ true)
    → count p xs ≤ count q xs
count-le p q xs h = weigh-le (λ x. as_number (p x)) (λ x. as_number (q x)) xs (λ x i. one_le (p x) (q x) (h x i))

-- tests that agree on the members have the same count
pub count-same : {A : Type 0} (p q : A → Bool) (xs : List A) → ((x : A) → IsIn x xs → q x ≡ p x)
    → count q xs ≡ count p xs
count-same p q [] h = refl
count-same p q (x ∷ xs) h = omega (arith, ap as_number (h x (inl refl)), count-same p q xs (λ y i. h y (inr i)))

pub count-map : {A B : Type 0} (test : B → Bool) (f : A → B) (xs : List A)
    → count test (map f xs) ≡ count (λ x. test (f x)) xs
count-map test f [] = refl
count-map test f (x ∷ xs) = omega (arith, count-map test f xs)

pub count-filter : {A : Type 0} (p q : A → Bool) (xs : List A) → count p (filter q xs) ≤ count p xs
count-filter p q [] = omega arith
count-filter p q (x ∷ xs) =
    by_test (q x)
    (λ k. let e = ap (λ b. count p (cond b (x ∷ filter q xs) (filter q xs))) k in omega (arith, e, count-filter p q xs))
    (λ k. let e = ap (λ b. count p (cond b (x ∷ filter q xs) (filter q xs))) k in omega (arith, e, count-filter p q xs))

pub count-some : {A : Type 0} (test : A → Bool) (xs : List A) (x : A) → IsIn x xs → test x ≡ true → 0 < count test xs
count-some test [] x i e = absurd i
count-some test (y ∷ ys) x i e = elim i [
  | inl q ↦ omega (arith, ap as_number (ap test (sym q) ∙ e))
  | inr t ↦ omega (arith, count-some test ys x t e)
]

-- if a count is more than 0, some member passes
passes_first : {A : Type 0} (test : A → Bool) (x : A) (xs : List A) (b : Bool) → test x ≡ b
    → 0 < as_number b + count test xs → (0 < count test xs → (y : A) × IsIn y xs × (test y ≡ true))
    → (y : A) × IsIn y (x ∷ xs) × (test y ≡ true)
passes_first test x xs true e h k = (x, inl refl, e)
passes_first test x xs false e h k = let p = k (omega arith) in (p.0, inr p.1, p.2)

pub some_passes : {A : Type 0} (test : A → Bool) (xs : List A) → 0 < count test xs
    → (x : A) × IsIn x xs × (test x ≡ true)
some_passes test [] h = absurd (omega arith)
some_passes test (x ∷ xs) h = passes_first test x xs (test x) refl h (λ k. some_passes test xs k)

-- in a list without repeats each value is counted at most once
pub count-once : {A : Type 0} (same : A → A → Bool) → ((a b : A) → same a b ≡ true → a ≡ b) → (xs : List A)
    → HasNoRepeats xs → (x : A) → count (same x) xs ≤ 1
count-once same one [] w x = omega arith
count-once same one (y ∷ ys) w x =
    by_test (same x y)
    (λ k.
    let none : count (same x) ys ≡ 0 = elim (cases_eq (count (same x) ys) 0) [
      | inl z ↦ z
      | inr more ↦ let p = some_passes (same x) ys (omega (arith, more)) in absurd (w.0 (subst (λ z. IsIn z ys) (sym (one x p.0 p.2) ∙ one x y k) p.1))
    ] in
    omega (arith, none, ap as_number k))
    (λ k. omega (arith, ap as_number k, count-once same one ys w.1 x))

-- a filter keeps as many members as pass its test
pub length-filter : {A : Type 0} (p : A → Bool) (xs : List A) → length (filter p xs) ≡ count p xs
length-filter p [] = refl
length-filter {A} p (x ∷ xs) = by (p x) (length-filter p xs)
  where
    by : (b : Bool) → length (filter p xs) ≡ count p xs
        → length (cond b (x ∷ filter p xs) (filter p xs)) ≡ as_number b + count p xs
    by true e = omega (arith, e)
    by false e = omega (arith, e)

-- the list with one of its members removed
unfoldable pub without : {A : Type 0} (x : A) (xs : List A) → IsIn x xs → List A
without x [] i = []
without x (y ∷ ys) (inl e) = ys
without x (y ∷ ys) (inr i) = y ∷ without x ys i

pub without-weigh : {A : Type 0} (f : A → ℕ) (x : A) (xs : List A) (i : IsIn x xs)
    → weigh f xs ≡ f x + weigh f (without x xs i)
unfolding without
without-weigh f x [] i = absurd i
without-weigh f x (y ∷ ys) (inl e) = omega (arith, ap f e)
without-weigh f x (y ∷ ys) (inr i) = omega (arith, without-weigh f x ys i)

pub without-length : {A : Type 0} (x : A) (xs : List A) (i : IsIn x xs) → length xs ≡ suc (length (without x xs i))
unfolding without
without-length x [] i = absurd i
without-length x (y ∷ ys) (inl e) = refl
without-length x (y ∷ ys) (inr i) = ap suc (without-length x ys i)

-- a member stays if another one is removed
pub still : {A : Type 0} (x t : A) (zs : List A) (i : IsIn x zs) → IsIn t zs → (t ≡ x → ⊥) → IsIn t (without x zs i)
unfolding without
still x t [] i j other = absurd i
still x t (z ∷ zs) (inl e) (inl q) other = absurd (other (q ∙ sym e))
still x t (z ∷ zs) (inl e) (inr j) other = j
still x t (z ∷ zs) (inr i) (inl q) other = inl q
still x t (z ∷ zs) (inr i) (inr j) other = inr (still x t zs i j other)

-- a member is the one that is removed, or stays
pub or_still : {A : Type 0} (x t : A) (zs : List A) (i : IsIn x zs) → IsIn t zs → (t ≡ x) ⊎ IsIn t (without x zs i)
unfolding without
or_still x t [] i j = absurd i
or_still x t (z ∷ zs) (inl e) (inl q) = inl (q ∙ sym e)
or_still x t (z ∷ zs) (inl e) (inr j) = inr j
or_still x t (z ∷ zs) (inr i) (inl q) = inr (inl q)
or_still x t (z ∷ zs) (inr i) (inr j) = elim (or_still x t zs i j) [ inl same ↦ inl same | inr k ↦ inr (inr k) ]

-- a member of a list is in every list with the same members
pub same_in : {A : Type 0} (test : A → A → Bool) → ((a b : A) → IsTrue (test a b) ↔ (a ≡ b)) → (xs ys : List A)
    → HasSameMembers xs ys → (x : A) → IsIn x xs → IsIn x ys
same_in test decides xs ys same x i =
    let p = some_passes (test x) ys (subst (λ n. 0 < n) (same (λ y. as_number (test x y))) (count-some (test x) xs x i ((decides x x).1 refl))) in
    subst (λ y. IsIn y ys) (sym ((decides x p.0).0 p.2)) p.1

pub HasSameMembers-sym : {A : Type 0} (xs ys : List A) → HasSameMembers xs ys → HasSameMembers ys xs
HasSameMembers-sym xs ys same f = sym (same f)

-- lists have the same members if and only if each value occurs equally often in both
module _ {A : Type 0} (same : A → A → Bool) (decides : (a b : A) → IsTrue (same a b) ↔ (a ≡ b)) where
  to_members : (xs ys : List A) → HaveSameCounts same xs ys → HasSameMembers xs ys
  to_members [] [] h f = refl
  to_members [] (y ∷ ys) h f = absurd (omega (arith, h y, ap as_number ((decides y y).1 refl)))
  to_members (x ∷ xs) ys h f =
      let p = some_passes (same x) ys (omega (arith, h x, ap as_number ((decides x x).1 refl))) in
      let i : IsIn x ys = subst (λ y. IsIn y ys) (sym ((decides x p.0).0 p.2)) p.1 in
      let rest = to_members xs (without x ys i) (λ y. omega (arith, h y, without-weigh (λ z. as_number (same y z)) x ys i)) f in
      omega (arith, rest, without-weigh f x ys i)

  pub same_counts : (xs ys : List A) → HasSameMembers xs ys ↔ HaveSameCounts same xs ys
  same_counts xs ys = (λ h x. h (λ y. as_number (same x y)), λ h. to_members xs ys h)
