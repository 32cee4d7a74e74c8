-- Members of lists: of an append, a map, a join and a filter, and what holds of each member.
use Rattle.std.proofs.Common.{List, [], inl, inr, ◌++◌, ◌∷◌, ◌⊎◌, ◌≡◌, subst, refl, ap, map, Bool, sym, true, ◌↔◌, ◌∙◌}
use Rattle.std.proofs.Common.{cond, false, None, Option, Some, arith, length, length-append, ◌≤◌, ◌||◌}
use Rattle.std.proofs.lemmas.Bool.{false≢true, and_parts, and_from, or_right}
use Rattle.std.proofs.lemmas.List.Elements.{All-cons, All-nil}
use Rattle.std.specs.List.{flat_map, filter, filter_map, cons_option, list_all, list_any, All}
use Rattle.ptg_base.specs.Lists.{IsIn}
use Rattle.list_lemmas.proofs.Truth.{by_test}

pub IsIn-append_left : {A : Type 0} (x : A) (xs ys : List A) → IsIn x xs → IsIn x (xs ++ ys)
IsIn-append_left x [] ys w = absurd w
IsIn-append_left x (y ∷ xs) ys w = elim w [ inl e ↦ inl e | inr t ↦ inr (IsIn-append_left x xs ys t) ]

pub IsIn-append_right : {A : Type 0} (x : A) (xs ys : List A) → IsIn x ys → IsIn x (xs ++ ys)
IsIn-append_right x [] ys w = w
IsIn-append_right x (y ∷ xs) ys w = inr (IsIn-append_right x xs ys w)

pub from_append : {A : Type 0} (x : A) (xs ys : List A) → IsIn x (xs ++ ys) → IsIn x xs ⊎ IsIn x ys
from_append x [] ys w = inr w
from_append x (y ∷ xs) ys w = elim w [ inl e ↦ inl (inl e) | inr t ↦ elim (from_append x xs ys t) [ inl l ↦ inl (inr l) | inr r ↦ inr r ] ]

pub from_push : {A : Type 0} (x : A) (xs : List A) (y : A) → IsIn x (xs ++ y ∷ []) → IsIn x xs ⊎ (x ≡ y)
from_push x [] y h = elim h [ inl e ↦ inr e | inr none ↦ absurd none ]
from_push x (z ∷ zs) y h = elim h [
  | inl e ↦ inl (inl e)
  | inr t ↦ (let later = from_push x zs y t in elim later [ inl k ↦ inl (inr k) | inr e ↦ inr e ])
]

pub IsIn-flat_map : {A B : Type 0} (f : A → List B) (vs : List A) (v : A) (x : B) → IsIn v vs → IsIn x (f v)
    → IsIn x (flat_map f vs)
IsIn-flat_map f [] v x w u = absurd w
IsIn-flat_map f (y ∷ vs) v x w u = elim w [
  | inl e ↦ IsIn-append_left x (f y) (flat_map f vs) (subst (λ z. IsIn x (f z)) e u)
  | inr t ↦ IsIn-append_right x (f y) (flat_map f vs) (IsIn-flat_map f vs v x t u)
]

pub from_flat_map : {A B : Type 0} (f : A → List B) (vs : List A) (x : B) → IsIn x (flat_map f vs)
    → (v : A) × IsIn v vs × IsIn x (f v)
from_flat_map f [] x w = absurd w
from_flat_map f (y ∷ vs) x w = elim (from_append x (f y) (flat_map f vs) w) [
  | inl l ↦ (y, inl refl, l)
  | inr r ↦ let p = from_flat_map f vs x r in (p.0, inr p.1, p.2)
]

pub IsIn-map : {A B : Type 0} (f : A → B) (xs : List A) (x : A) → IsIn x xs → IsIn (f x) (map f xs)
IsIn-map f [] x w = absurd w
IsIn-map f (y ∷ xs) x w = elim w [ inl e ↦ inl (ap f e) | inr t ↦ inr (IsIn-map f xs x t) ]

pub from_map : {A B : Type 0} (f : A → B) (xs : List A) (y : B) → IsIn y (map f xs) → (x : A) × IsIn x xs × (y ≡ f x)
from_map f [] y w = absurd w
from_map f (x ∷ xs) y w = elim w [ inl e ↦ (x, inl refl, e) | inr t ↦ let p = from_map f xs y t in (p.0, inr p.1, p.2) ]

-- the members of a filter are the members of the list that pass its test
pub IsIn-filter : {A : Type 0} (test : A → Bool) (xs : List A) (x : A)
    → IsIn x (filter test xs) ↔ (IsIn x xs × (test x ≡ true))
IsIn-filter test [] x = (λ i. absurd i, λ p. absurd p.0)
IsIn-filter test (y ∷ ys) x =
    by_test (test y)
    (λ k. rw k (
      λ i. elim i [ inl e ↦ (inl e, ap test e ∙ k) | inr t ↦ let p = (IsIn-filter test ys x).0 t in (inr p.0, p.1) ],
      λ p. elim p.0 [ inl e ↦ inl e | inr t ↦ inr ((IsIn-filter test ys x).1 (t, p.1)) ],
    ))
    (λ k. rw k (
      λ i. let p = (IsIn-filter test ys x).0 i in (inr p.0, p.1),
      λ p. elim p.0 [ inl e ↦ absurd (false≢true (sym k ∙ ap test (sym e) ∙ p.1)) | inr t ↦ (IsIn-filter test ys x).1 (t, p.1) ],
    ))

-- a member of a filter is a member of the list and passes
pub from_filter : {A : Type 0} (test : A → Bool) (xs : List A) (x : A) → IsIn x (filter test xs)
    → IsIn x xs × (test x ≡ true)
from_filter test [] x i = absurd i
from_filter {A} test (y ∷ ys) x i = among (test y) refl (from_filter test ys x) i
  where
    among : (b : Bool) → test y ≡ b → (IsIn x (filter test ys) → IsIn x ys × (test x ≡ true))
        → IsIn x (cond b (y ∷ filter test ys) (filter test ys)) → IsIn x (y ∷ ys) × (test x ≡ true)
    among true k later j = elim j [ inl e ↦ (inl e, ap test e ∙ k) | inr t ↦ let p = later t in (inr p.0, p.1) ]
    among false k later j = let p = later j in (inr p.0, p.1)

-- if h maps a member to a value, the value is in the list's `filter_map`
pub IsIn-filter_map : {A B : Type 0} (h : A → Option B) (xs : List A) (x : A) (y : B) → IsIn x xs → h x ≡ Some y
    → IsIn y (filter_map h xs)
IsIn-filter_map h [] x y i e = absurd i
IsIn-filter_map {A} {B} h (z ∷ zs) x y i e = elim i [
  | inl same ↦ rw (ap h (sym same) ∙ e) (inl refl)
  | inr later ↦ further (h z) refl (IsIn-filter_map h zs x y later e)
]
  where
    further : (o : Option B) → h z ≡ o → IsIn y (filter_map h zs) → IsIn y (filter_map h (z ∷ zs))
    further None is j = rw is j
    further (Some w) is j = rw is (inr j)

-- y is what h maps some member to
pub record StandsFor {A B : Type 0} (h : A → Option B) (xs : List A) (y : B) : Type 0 where
  pub member : A
  pub among : IsIn member xs
  pub gives : h member ≡ Some y

pub from_filter_map : {A B : Type 0} (h : A → Option B) (xs : List A) (y : B) → IsIn y (filter_map h xs)
    → StandsFor h xs y
from_filter_map h [] y i = absurd i
from_filter_map {A} {B} h (x ∷ xs) y i = among (h x) refl (from_filter_map h xs y) i
  where
    further : StandsFor h xs y → StandsFor h (x ∷ xs) y
    further p = record { member = p.member; among = inr p.among; gives = p.gives }

    among : (o : Option B) → h x ≡ o → (IsIn y (filter_map h xs) → StandsFor h xs y)
        → IsIn y (cons_option o (filter_map h xs)) → StandsFor h (x ∷ xs) y
    among None k later j = further (later j)
    among (Some z) k later j = elim j [ inl e ↦ record { member = x; among = inl refl; gives = k ∙ ap (λ u. Some u) (sym e) } | inr t ↦ further (later t) ]

pub member_passes : {A : Type 0} (test : A → Bool) (xs : List A) → list_all test xs ≡ true → (x : A) → IsIn x xs
    → test x ≡ true
member_passes test [] h x i = absurd i
member_passes test (y ∷ ys) h x i =
    let p = and_parts (test y) (list_all test ys) h in
    elim i [ inl e ↦ ap test e ∙ p.0 | inr t ↦ member_passes test ys p.1 x t ]

pub list_all-from_members : {A : Type 0} (test : A → Bool) (xs : List A) → ((x : A) → IsIn x xs → test x ≡ true)
    → list_all test xs ≡ true
list_all-from_members test [] h = refl
list_all-from_members test (y ∷ ys) h = and_from (test y) (list_all test ys) (h y (inl refl)) (list_all-from_members test ys (λ x i. h x (inr i)))

-- `list_any` holds if and only if some member passes the test
pub some_member_passes : {A : Type 0} (test : A → Bool) (xs : List A) → list_any test xs ≡ true
    → (x : A) × IsIn x xs × (test x ≡ true)
some_member_passes test [] h = absurd (false≢true h)
some_member_passes {A} test (y ∷ ys) h = among (test y) refl (some_member_passes test ys) h
  where
    among : (b : Bool) → test y ≡ b → (list_any test ys ≡ true → (x : A) × IsIn x ys × (test x ≡ true))
        → (b || list_any test ys) ≡ true → (x : A) × IsIn x (y ∷ ys) × (test x ≡ true)
    among true k later e = (y, inl refl, k)
    among false k later e = let p = later e in (p.0, inr p.1, p.2)

pub list_any-from_member : {A : Type 0} (test : A → Bool) (xs : List A) (x : A) → IsIn x xs → test x ≡ true
    → list_any test xs ≡ true
list_any-from_member test [] x i e = absurd i
list_any-from_member test (y ∷ ys) x i e = elim i [
  | inl same ↦ ap (λ b. b || list_any test ys) (ap test (sym same) ∙ e)
  | inr later ↦ ap (λ b. test y || b) (list_any-from_member test ys x later e) ∙ or_right (test y) true refl
]

pub All-from_members : {A : Type 0} (Q : A → Type 0) (xs : List A) → ((x : A) → IsIn x xs → Q x) → All Q xs
All-from_members Q [] h = All-nil Q
All-from_members Q (x ∷ xs) h = All-cons Q x xs (h x (inl refl)) (All-from_members Q xs (λ y i. h y (inr i)))

-- a part is no longer than the joined list
pub length-part : {A B : Type 0} (f : A → List B) (xs : List A) (x : A) → IsIn x xs
    → length (f x) ≤ length (flat_map f xs)
length-part f [] x h = absurd h
length-part f (y ∷ xs) x h =
    let e = length-append (f y) (flat_map f xs) in
    elim h [
      | inl k ↦ let l = ap (λ z. length (f z)) k in omega arith
      | inr t ↦ let l = length-part f xs x t in omega arith
    ]
