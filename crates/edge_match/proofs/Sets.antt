-- Sets of places, by one truth value for each place.
use Rattle.std.proofs.Common.{◌≡◌, ◌≢◌, ◌↔◌, ◌++◌, ◌⊎◌, ℕ, zero, suc, ℤ, List, [], ◌∷◌, Bool, false, map, refl, ap, ◌∙◌}
use Rattle.std.proofs.Common.{subst, inl, inr, slice_get, slice_set, IsSomeAnd, IsTrue, Option, Some, None, arith}
use Rattle.std.proofs.lemmas.Bool.{false≢true}
use Rattle.std.proofs.lemmas.Int.{ints}
use Rattle.std.specs.List.{AllByRecursion}
use Rattle.std.specs.Option.{option_map_or, unwrap_or}
use Rattle.ptg_base.specs.Lists.{IsIn}
use Rattle.ptg_base.specs.declared.place.Place.{Place}
use Rattle.plan_core.specs.declared.shape.Shape.{Shape}
use Rattle.plan_core.specs.Place.{HasPlace, IsColumn, IsRow}
use Rattle.edge_match.specs.declared.place_set.PlaceSet.{PlaceSet}
use Rattle.edge_match.specs.declared.rows.Rows.{Rows}
use Rattle.edge_match.specs.Sets.{IsSetOf, IsWithin, has, has_at, size, size_of}

in_columns : (o : Option ℕ) (j : ℤ) → IsColumn o j → IsRow (unwrap_or o 1) j
in_columns None j h = rw h (omega (arith, ints), omega (arith, ints))
in_columns (Some c) j h = h

-- the rows of the collection of a place that exists; the place is within them
set_of : (cs : List Shape) (ss : List Rows) (n : ℕ) (i j : ℤ) → map size_of ss ≡ map size cs
    → IsSomeAnd (slice_get cs n) (λ c. IsRow c.rows i × IsColumn c.cols j)
    → (s : Rows) × (slice_get ss n ≡ Some s) × IsWithin s i j
set_of [] ss n i j e h = absurd h
set_of (c ∷ cs) [] n i j e h = absurd cc
set_of (c ∷ cs) (s ∷ ss) zero i j e h =
    let sizes : size_of s ≡ size c = cc in
    let rows : s.rows ≡ c.rows = ap (λ (p : ℕ × ℕ). p.0) sizes in
    let cols : s.cols ≡ unwrap_or c.cols 1 = ap (λ (p : ℕ × ℕ). p.1) sizes in
    (s, refl, (rw rows h.0, rw cols (in_columns c.cols j h.1)))
set_of (c ∷ cs) (s ∷ ss) (suc n) i j e h = set_of cs ss n i j (cc) h

-- an element of a list after one of its elements was replaced
get_set : {A : Type 0} (xs : List A) (n m : ℕ) (x y : A) → slice_get xs n ≡ Some x
    → ((m ≡ n) × (slice_get (slice_set xs n y) m ≡ Some y)) ⊎ ((m ≢ n) × (slice_get (slice_set xs n y) m ≡ slice_get xs m))
get_set [] n m x y h = absurd cc
get_set (z ∷ xs) zero zero x y h = inl (refl, refl)
get_set (z ∷ xs) zero (suc m) x y h = inr (λ e. absurd cc, refl)
get_set (z ∷ xs) (suc n) zero x y h = inr (λ e. absurd cc, refl)
get_set (z ∷ xs) (suc n) (suc m) x y h = elim (get_set xs n m x y h) [ inl a ↦ inl (ap suc a.0, a.1) | inr b ↦ inr (λ e. b.0 cc, b.1) ]

sizes_kept : (ss : List Rows) (n : ℕ) (s u : Rows) → slice_get ss n ≡ Some s → size_of u ≡ size_of s
    → map size_of (slice_set ss n u) ≡ map size_of ss
sizes_kept [] n s u h e = refl
sizes_kept (z ∷ ss) zero s u h e = cc
sizes_kept (z ∷ ss) (suc n) s u h e = ap (λ l. size_of z ∷ l) (sizes_kept ss n s u h e)

in_end : {A : Type 0} (x y : A) (xs : List A) → IsIn x (xs ++ y ∷ []) ↔ (IsIn x xs ⊎ (x ≡ y))
in_end x y [] = (λ h. elim h [ inl e ↦ inr e | inr none ↦ absurd none ], λ h. elim h [ inl none ↦ absurd none | inr e ↦ inl e ])
in_end x y (z ∷ xs) =
    let r = in_end x y xs in (
      λ h. elim h [ inl e ↦ inl (inl e) | inr k ↦ elim (r.0 k) [ inl a ↦ inl (inr a) | inr e ↦ inr e ] ],
      λ h. elim h [ inl k ↦ elim k [ inl e ↦ inl e | inr a ↦ inr (r.1 (inl a)) ] | inr e ↦ inr (r.1 (inr e)) ],
    )

same_place : (p q : Place) → p.coll ≡ q.coll → p.i ≡ q.i → p.j ≡ q.j → p ≡ q
same_place p q coll i j =
    ap (λ (n : ℕ). record { coll = n; i = p.i; j = p.j }) coll
    ∙ ap (λ (z : ℤ). record { coll = q.coll; i = z; j = p.j }) i
    ∙ ap (λ (z : ℤ). record { coll = q.coll; i = q.i; j = z }) j

module _ (colls : List Shape) (w v : PlaceSet) (p : Place) (s u : Rows) (ps : List Place) (here : slice_get w.sets.items p.coll ≡ Some s)
    (there : HasPlace colls p) (is : IsSetOf colls w ps) where
  within : IsWithin s p.i p.j
  within =
      let a = set_of colls w.sets.items p.coll p.i p.j is.shapes there in
      let same : a.0 ≡ s = let b = a.1 in cc in
      subst (λ (z : Rows). IsWithin z p.i p.j) same a.2

  pub is_fresh : (new : Bool) → (IsWithin s p.i p.j → IsTrue new ↔ (IsTrue (has_at s p.i p.j) → ⊥))
      → IsTrue new ↔ (IsIn p ps → ⊥)
  unfolding has
  is_fresh new fresh =
      let f = fresh within in
      let m = rw here at (is.members p there) in
      (λ n h. f.0 n (m.1 h), λ h. f.1 (λ k. h (m.0 k)))

  pub is_added : v.sets.items ≡ slice_set w.sets.items p.coll u → size_of u ≡ size_of s
      → (IsWithin s p.i p.j → (k l : ℤ) → IsWithin s k l → IsTrue (has_at u k l) ↔ (IsTrue (has_at s k l) ⊎ ((k ≡ p.i) × (l ≡ p.j))))
      → IsSetOf colls v (ps ++ p ∷ [])
  unfolding has
  is_added changed sizes added = record {
    shapes = ap (map size_of) changed ∙ sizes_kept w.sets.items p.coll s u here sizes ∙ is.shapes;
    members = λ q place.
        let a = set_of colls w.sets.items q.coll q.i q.j is.shapes place in
        let m = is.members q place in
        let e = in_end q p ps in
        elim (get_set w.sets.items p.coll q.coll s u here) [
          | inl g ↦
              let old : slice_get w.sets.items q.coll ≡ Some s = rw g.0 here in
              let same : a.0 ≡ s = let b = a.1 in cc in
              let r = added within q.i q.j (subst (λ (z : Rows). IsWithin z q.i q.j) same a.2) in
              let n = rw old at m in
              rw (changed, g.1) (
                λ h. e.1 (elim (r.0 h) [ inl k ↦ inl (n.0 k) | inr k ↦ inr (same_place q p g.0 k.0 k.1) ]),
                λ h. r.1 (elim (e.0 h) [ inl k ↦ inl (n.1 k) | inr k ↦ inr (ap (λ (x : Place). x.i) k, ap (λ (x : Place). x.j) k) ]),
              )
          | inr g ↦
              rw (changed, g.1) (
                λ h. e.1 (inl (m.0 h)),
                λ h. elim (e.0 h) [ inl k ↦ m.1 k | inr k ↦ absurd (g.0 (ap (λ (x : Place). x.coll) k)) ],
              )
        ];
  }

-- no place is in these rows
abbrev pub HasNone : Rows → Type 0
HasNone s = (i j : ℤ) → IsTrue (has_at s i j) → ⊥

none_in : (ss : List Rows) → AllByRecursion HasNone ss → (n : ℕ) (i j : ℤ)
    → IsTrue (option_map_or (λ (s : Rows). has_at s i j) (slice_get ss n) false) → ⊥
none_in [] h n i j e = false≢true e
none_in (s ∷ ss) h zero i j e = h.0 i j e
none_in (s ∷ ss) h (suc n) i j e = none_in ss h.1 n i j e

pub is_empty : (colls : List Shape) (w : PlaceSet) → map size_of w.sets.items ≡ map size colls
    → AllByRecursion HasNone w.sets.items → IsSetOf colls w []
unfolding has
is_empty colls w shapes none = record { shapes = shapes; members = λ p there. (none_in w.sets.items none p.coll p.i p.j, λ h. absurd h) }
