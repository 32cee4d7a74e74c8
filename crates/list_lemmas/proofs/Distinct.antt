-- Lists without repeats.
use Rattle.std.proofs.Common.{List, [], inl, inr, refl, ◌++◌, ◌∷◌, subst, map, sym, ◌≡◌, ap, ◌∙◌, Bool, cond, false}
use Rattle.std.proofs.Common.{true, arith, ◌+◌, length, ◌≤◌}
use Rattle.std.specs.List.{flat_map, filter}
use Rattle.ptg_base.specs.Lists.{HasNoRepeats, IsIn}
use Rattle.list_lemmas.proofs.Counts.{count-same, still, without, without-length, or_still}
use Rattle.list_lemmas.proofs.Members.{from_append, IsIn-append_left, IsIn-append_right, from_map, IsIn-map}
use Rattle.list_lemmas.proofs.Members.{from_flat_map, IsIn-filter}
use Rattle.list_lemmas.specs.Counting.{as_number, count}

pub HasNoRepeats-append : {A : Type 0} (xs ys : List A) → HasNoRepeats xs → HasNoRepeats ys
    → ((x : A) → IsIn x xs → IsIn x ys → ⊥) → HasNoRepeats (xs ++ ys)
HasNoRepeats-append [] ys w u apart = u
HasNoRepeats-append (x ∷ xs) ys w u apart = (
  λ t. elim (from_append x xs ys t) [ inl l ↦ w.0 l | inr r ↦ apart x (inl refl) r ],
  HasNoRepeats-append xs ys w.1 u (λ z h k. apart z (inr h) k),
)

pub HasNoRepeats-push : {A : Type 0} (xs : List A) (x : A) → HasNoRepeats xs → (IsIn x xs → ⊥)
    → HasNoRepeats (xs ++ x ∷ [])
HasNoRepeats-push xs x w n = HasNoRepeats-append xs (x ∷ []) w (λ k. k, tt) (λ z h k. elim k [ inl e ↦ n (subst (λ y. IsIn y xs) e h) | inr none ↦ none ])

-- if an append has no repeats, neither part has any
pub HasNoRepeats-left : {A : Type 0} (xs ys : List A) → HasNoRepeats (xs ++ ys) → HasNoRepeats xs
HasNoRepeats-left [] ys h = tt
HasNoRepeats-left (x ∷ xs) ys h = ((λ i. h.0 (IsIn-append_left x xs ys i)), HasNoRepeats-left xs ys h.1)

pub HasNoRepeats-right : {A : Type 0} (xs ys : List A) → HasNoRepeats (xs ++ ys) → HasNoRepeats ys
HasNoRepeats-right [] ys h = h
HasNoRepeats-right (x ∷ xs) ys h = HasNoRepeats-right xs ys h.1

-- the same for both parts at once; and no member is in both
pub HasNoRepeats-parts : {A : Type 0} (xs ys : List A) → HasNoRepeats (xs ++ ys) → HasNoRepeats xs × HasNoRepeats ys
HasNoRepeats-parts [] ys h = (tt, h)
HasNoRepeats-parts (x ∷ xs) ys h = let p = HasNoRepeats-parts xs ys h.1 in ((λ i. h.0 (IsIn-append_left x xs ys i), p.0), p.1)

pub HasNoRepeats-apart : {A : Type 0} (xs ys : List A) → HasNoRepeats (xs ++ ys) → (x : A) → IsIn x xs → IsIn x ys → ⊥
HasNoRepeats-apart [] ys h x i j = i
HasNoRepeats-apart (y ∷ xs) ys h x i j = elim i [
  | inl e ↦ h.0 (subst (λ z. IsIn z (xs ++ ys)) e (IsIn-append_right x xs ys j))
  | inr later ↦ HasNoRepeats-apart xs ys h.1 x later j
]

-- a map of a list without repeats has none if no two members are mapped to the same value
pub HasNoRepeats-map_members : {A B : Type 0} (f : A → B) (xs : List A) → HasNoRepeats xs
    → ((x y : A) → IsIn x xs → IsIn y xs → f x ≡ f y → x ≡ y) → HasNoRepeats (map f xs)
HasNoRepeats-map_members f [] w one = tt
HasNoRepeats-map_members f (x ∷ xs) w one = (
  λ t. let p = from_map f xs (f x) t in
      let same = one x p.0 (inl refl) (inr p.1) p.2 in
      w.0 (subst (λ z. IsIn z xs) (sym same) p.1),
  HasNoRepeats-map_members f xs w.1 (λ y z h k e. one y z (inr h) (inr k) e),
)

pub HasNoRepeats-map : {A B : Type 0} (f : A → B) (xs : List A) → HasNoRepeats xs → ((x y : A) → f x ≡ f y → x ≡ y)
    → HasNoRepeats (map f xs)
HasNoRepeats-map f xs w one = HasNoRepeats-map_members f xs w (λ x y h k e. one x y e)

-- a list has no repeats if its map has none
pub HasNoRepeats-from_map : {A B : Type 0} (f : A → B) (xs : List A) → HasNoRepeats (map f xs) → HasNoRepeats xs
HasNoRepeats-from_map f [] h = tt
HasNoRepeats-from_map f (x ∷ xs) h = (λ i. h.0 (IsIn-map f xs x i), HasNoRepeats-from_map f xs h.1)

-- if a map has no repeats, two members that are mapped to the same value are one
pub one_from_map : {A B : Type 0} (f : A → B) (xs : List A) → HasNoRepeats (map f xs) → (x y : A) → IsIn x xs
    → IsIn y xs → f x ≡ f y → x ≡ y
one_from_map f [] once x y i j same = absurd i
one_from_map f (z ∷ zs) once x y (inl p) (inl q) same = p ∙ sym q
one_from_map f (z ∷ zs) once x y (inl p) (inr j) same = absurd (once.0 (subst (λ b. IsIn b (map f zs)) (sym same ∙ ap f p) (IsIn-map f zs y j)))
one_from_map f (z ∷ zs) once x y (inr i) (inl q) same = absurd (once.0 (subst (λ b. IsIn b (map f zs)) (same ∙ ap f q) (IsIn-map f zs x i)))
one_from_map f (z ∷ zs) once x y (inr i) (inr j) same = one_from_map f zs once.1 x y i j same

pub HasNoRepeats-flat_map : {A B : Type 0} (f : A → List B) (vs : List A) → HasNoRepeats vs
    → ((v : A) → IsIn v vs → HasNoRepeats (f v)) → ((v w : A) (x : B) → IsIn x (f v) → IsIn x (f w) → v ≡ w)
    → HasNoRepeats (flat_map f vs)
HasNoRepeats-flat_map f [] w each apart = tt
HasNoRepeats-flat_map f (v ∷ vs) w each apart =
    HasNoRepeats-append (f v) (flat_map f vs) (each v (inl refl)) (HasNoRepeats-flat_map f vs w.1 (λ z h. each z (inr h)) apart) (λ x h k.
    let p = from_flat_map f vs x k in
    let same = apart v p.0 x h p.2 in
    w.0 (subst (λ z. IsIn z vs) (sym same) p.1))

-- if joined lists have no repeats, each of them has none
pub HasNoRepeats-part : {A B : Type 0} (f : A → List B) (xs : List A) → HasNoRepeats (flat_map f xs) → (x : A)
    → IsIn x xs → HasNoRepeats (f x)
HasNoRepeats-part f [] h x i = absurd i
HasNoRepeats-part f (y ∷ ys) h x i =
    elim i [
      | inl e ↦ subst (λ z. HasNoRepeats (f z)) (sym e) (HasNoRepeats-left (f y) (flat_map f ys) h)
      | inr t ↦ HasNoRepeats-part f ys (HasNoRepeats-right (f y) (flat_map f ys) h) x t
    ]

-- a filter of a list without repeats has none
pub HasNoRepeats-filter : {A : Type 0} (p : A → Bool) (xs : List A) → HasNoRepeats xs → HasNoRepeats (filter p xs)
HasNoRepeats-filter p [] h = tt
HasNoRepeats-filter {A} p (x ∷ xs) h = by (p x) (HasNoRepeats-filter p xs h.1)
  where
    by : (b : Bool) → HasNoRepeats (filter p xs) → HasNoRepeats (cond b (x ∷ filter p xs) (filter p xs))
    by true rest = (λ i. h.0 ((IsIn-filter p xs x).0 i).0, rest)
    by false rest = rest

-- a count over a list without repeats falls by one if the test changes at one member alone, which passed and now fails
pub count-falls : {A : Type 0} (p q : A → Bool) (xs : List A) (x : A) → HasNoRepeats xs → IsIn x xs → p x ≡ true
    → q x ≡ false → ((y : A) → (y ≡ x → ⊥) → q y ≡ p y) → count q xs + 1 ≡ count p xs
count-falls p q [] x once i was is others = absurd i
count-falls p q (y ∷ ys) x once i was is others = elim i [
  | inl e ↦ omega (
    arith,
    ap as_number (ap p (sym e) ∙ was),
    ap as_number (ap q (sym e) ∙ is),
    count-same p q ys
        (λ z j. others z (λ same. once.0 (subst (λ u. IsIn u ys) (same ∙ e) j))),
  )
  | inr t ↦ omega (arith, ap as_number (others y (λ same. once.0 (subst (λ u. IsIn u ys) (sym same) t))), count-falls p q ys x once.1 t was is others)
]

-- a list without repeats whose members are all in another is no longer than it
pub no_longer : {A : Type 0} (xs ys : List A) → HasNoRepeats xs → ((x : A) → IsIn x xs → IsIn x ys)
    → length xs ≤ length ys
no_longer [] ys once among = omega arith
no_longer (x ∷ xs) ys once among =
    let i = among x (inl refl) in
    let rest : length xs ≤ length (without x ys i) =
    no_longer xs (without x ys i) once.1 (λ t j. still x t ys i (among t (inr j)) (λ same. once.0 (subst (λ u. IsIn u xs) same j))) in
    omega (arith, rest, without-length x ys i)

-- and if it is no shorter, it has all members of the other
pub onto : {A : Type 0} (xs ys : List A) → HasNoRepeats xs → ((x : A) → IsIn x xs → IsIn x ys) → length ys ≤ length xs
    → (y : A) → IsIn y ys → IsIn y xs
onto [] [] once among few y j = j
onto [] (z ∷ zs) once among few y j = absurd (omega (arith, few))
onto (x ∷ xs) ys once among few y j =
    let i = among x (inl refl) in
    let fewer : length (without x ys i) ≤ length xs = omega (arith, few, without-length x ys i) in
    elim (or_still x y ys i j) [
      | inl same ↦ inl same
      | inr k ↦ inr (onto xs (without x ys i) once.1 (λ t l. still x t ys i (among t (inr l)) (λ same. once.0 (subst (λ u. IsIn u xs) same l))) fewer y k)
    ]
