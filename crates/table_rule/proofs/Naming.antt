-- Names of passes: one that is split off is new, and a pass that has all of them is the only one that has any.
use Rattle.std.proofs.Common.{◌≡◌, ℕ, zero, suc, ◌+◌, ◌<◌, ◌≤◌, ◌≢◌, ◌⊎◌, Bool, true, false, ◌&&◌, List, [], ◌∷◌, ◌++◌}
use Rattle.std.proofs.Common.{length, sym, refl, ap, ◌∙◌, subst, inl, inr, ⊎_elim, arith, eqb, eq-eqb, ne_eqb, lt-ltb}
use Rattle.std.proofs.Common.{le-ltb, nat_lt, nat_eq}
use mathlib.Core.Logic.{dite}
use mathlib.Core.Option.{some, some-injective}
use native.Mathlib.Decide.{ℕ_discrete, dec_le}
use lib.ListN.{get_elem?}
use Rattle.std.proofs.lemmas.List.{same_from_push}
use Rattle.std.specs.Cmp.Lexicographic.{pointwise}
use Rattle.list_lemmas.specs.Counting.{as_number, weigh}
use Rattle.list_lemmas.proofs.Counts.{one_at_most, weigh-le, weigh-plus}
use Rattle.list_lemmas.proofs.Texts.{same_bytes, equal_bytes}
use Rattle.work_board.specs.declared.record.PassRecord.{PassRecord}
use Rattle.table_rule.specs.Names.{AreAll, AreNames, Name, has_split, is_named}
use Rattle.table_rule.proofs.Weighing.{some_place, term_le, terms_le, weigh-same}

-- the weight of the names of all passes
abbrev names_of : List PassRecord → (Name → ℕ) → ℕ
names_of vs f = weigh (λ (v : PassRecord). weigh f v.names) vs

abbrev named : List ℕ → Name → ℕ
named p x = as_number (is_named p x)

abbrev above : List ℕ → ℕ → Name → ℕ
above p k x = as_number (has_split p k x)

-- a test, as one of two facts
tested : (p q : List ℕ) → ((p ≡ q) × (pointwise nat_eq p q ≡ true)) ⊎ ((p ≢ q) × (pointwise nat_eq p q ≡ false))
tested p q = by (pointwise nat_eq p q) refl
  where
    by : (b : Bool) → pointwise nat_eq p q ≡ b → ((p ≡ q) × (pointwise nat_eq p q ≡ true)) ⊎ ((p ≢ q) × (pointwise nat_eq p q ≡ false))
    by true e = inl (same_bytes p q e, e)
    by false e = inr ((λ (h : p ≡ q). let z : true ≡ false = sym (equal_bytes p q h) ∙ e in cc), e)

-- the name x.0, with exactly x.1 passes split off
abbrev exact : Name → Name → ℕ
exact x y = as_number (pointwise nat_eq y.0 x.0 && eqb y.1 x.1)

pub named-here : (p : List ℕ) (x : Name) → x.0 ≡ p → named p x ≡ 1
named-here p x e = ap as_number (equal_bytes x.0 p e)

pub named-at : (p : List ℕ) (x : Name) → 0 < named p x → x.0 ≡ p
named-at p x h = ⊎_elim (λ t. t.0) (λ t. absurd (omega (arith, ap as_number t.1))) (tested x.0 p)

above-here : (p : List ℕ) (k : ℕ) (x : Name) → x.0 ≡ p → k < x.1 → above p k x ≡ 1
above-here p k x e l = ap (λ (b : Bool). as_number (b && nat_lt k x.1)) (equal_bytes x.0 p e) ∙ ap as_number (lt-ltb k x.1 l)

pub above-past : (p : List ℕ) (k : ℕ) (x : Name) → x.1 ≤ k → above p k x ≡ 0
above-past p k x l = ⊎_elim (λ t. ap (λ (b : Bool). as_number (b && nat_lt k x.1)) t.1 ∙ ap as_number (le-ltb k x.1 l))
    (λ t. ap (λ (b : Bool). as_number (b && nat_lt k x.1)) t.1) (tested x.0 p)

above-else : (p : List ℕ) (k : ℕ) (x : Name) → x.0 ≢ p → above p k x ≡ 0
above-else p k x n = ⊎_elim (λ t. absurd (n t.0)) (λ t. ap (λ (b : Bool). as_number (b && nat_lt k x.1)) t.1) (tested x.0 p)

above_le : (p : List ℕ) (k : ℕ) (x : Name) → above p k x ≤ named p x
above_le p k x = ⊎_elim (λ t. omega (arith, named-here p x t.0, one_at_most (has_split p k x))) (λ t. omega (arith, above-else p k x t.0)) (tested x.0 p)

above_more : (p : List ℕ) (k : ℕ) (q : List ℕ) (n : ℕ) → above p k (q, n) ≤ above p k (q, n + 1)
above_more p k q n = dite (dec_le n k) (λ l. omega (arith, above-past p k (q, n) l))
    (λ l. ⊎_elim (λ t. omega (
      arith,
      above-here p k (q, n) t.0 (omega arith),
      above-here p k (q, n + 1) t.0
          (omega arith),
    )) (λ t. omega (arith, above-else p k (q, n) t.0)) (tested q p))

exact_le : (x y : Name) → exact x y ≤ named x.0 y
exact_le x y = ⊎_elim (λ t. omega (arith, named-here x.0 y t.0, one_at_most (pointwise nat_eq y.0 x.0 && eqb y.1 x.1)))
    (λ t. omega (arith, ap (λ (b : Bool). as_number (b && eqb y.1 x.1)) t.1)) (tested y.0 x.0)

exact-else : (x y : Name) → y.1 ≢ x.1 → exact x y ≡ 0
exact-else x y ne = ⊎_elim (λ t. ap (λ (b : Bool). as_number (b && eqb y.1 x.1)) t.1 ∙ ap as_number (ne_eqb y.1 x.1 ne))
    (λ t. ap (λ (b : Bool). as_number (b && eqb y.1 x.1)) t.1) (tested y.0 x.0)

exact-here : (x : Name) → exact x x ≡ 1
exact-here x = ap (λ (b : Bool). as_number (b && eqb x.1 x.1)) (equal_bytes x.0 x.0 refl) ∙ ap as_number (eq-eqb x.1 x.1 refl)

pub snoc_some : (p : List ℕ) (k : ℕ) → [] ≢ p ++ k ∷ []
snoc_some [] k e = cc
snoc_some (x ∷ xs) k e = cc

module _ (vs : List PassRecord) where
  names_le : (f g : Name → ℕ) → ((x : Name) → f x ≤ g x) → names_of vs f ≤ names_of vs g
  names_le f g h = weigh-le (λ (v : PassRecord). weigh f v.names) (λ (v : PassRecord). weigh g v.names) vs (λ v i. weigh-le f g v.names (λ x j. h x))

  names_plus : (f g : Name → ℕ) → names_of vs (λ x. f x + g x) ≡ names_of vs f + names_of vs g
  names_plus f g = weigh-same (λ (v : PassRecord). weigh (λ x. f x + g x) v.names)
      (λ (v : PassRecord). weigh f v.names + weigh g v.names) vs (λ v. weigh-plus f g v.names)
      ∙ weigh-plus (λ (v : PassRecord). weigh f v.names) (λ (v : PassRecord). weigh g v.names) vs

-- under the name (p, n) of a pass nothing was split off yet as its n-th
fresh_name : (vs : List PassRecord) (p : List ℕ) (n : ℕ) → AreNames vs → 0 < names_of vs (exact (p, n)) → names_of vs (named (p ++ n ∷ [])) ≡ 0
fresh_name vs p n r has = dite (ℕ_discrete (names_of vs (named (p ++ n ∷ []))) 0) (λ z. z) (λ nz.
    let up = r.parent p n (omega arith) in
    let sum = names_plus vs (above p n) (exact (p, n)) in
    let small = names_le vs (λ x. above p n x + exact (p, n) x) (named p) (λ x. dite (dec_le x.1 n)
    (λ l. omega (arith, above-past p n x l, exact_le (p, n) x))
    (λ l. omega (arith, above_le p n x, exact-else (p, n) x (λ (e : x.1 ≡ n). l (omega arith))))) in
    absurd (omega (arith, r.once p)))

-- the names after a pass was split off under (p, n)
pub split_names : (vs vs' : List PassRecord) (p : List ℕ) (n : ℕ) → AreNames vs → 0 < names_of vs (exact (p, n))
    → ((f : Name → ℕ) → names_of vs' f + f (p, n) ≡ names_of vs f + f (p, n + 1) + f (p ++ n ∷ [], 0)) → AreNames vs'
split_names vs vs' p n r has moved =
    let none = fresh_name vs p n r has in
    record {
      once = λ q. let same : named q (p, n) ≡ named q (p, n + 1) = refl in ⊎_elim
          (λ (t : (p ++ n ∷ [] ≡ q) × _). omega (
            arith,
            moved (named q),
            subst
                (λ (x : List ℕ). names_of vs (named x) ≡ 0) t.0 none,
            one_at_most (pointwise nat_eq (p ++ n ∷ []) q),
          ))
          (λ t. omega (arith, moved (named q), r.once q, ap as_number t.1))
          (tested (p ++ n ∷ []) q);
      parent = λ q k h. let m = moved (above q k) in let more = above_more q k p n in
          dite (ℕ_discrete (names_of vs (named (q ++ k ∷ []))) 0)
          (λ z. let new : 0 < named (q ++ k ∷ []) (p ++ n ∷ [], 0) =
          (let same : named (q ++ k ∷ []) (p, n) ≡ named (q ++ k ∷ []) (p, n + 1) = refl in omega
          (arith, moved (named (q ++ k ∷ [])))) in
          let e = same_from_push p q n k (named-at (q ++ k ∷ []) (p ++ n ∷ [], 0) new) in
          omega (arith, above-here q k (p, n + 1) e.0 (omega (arith, e.1)), above-past q k (p, n) (omega (arith, e.1))))
          (λ nz. omega (arith, r.parent q k (omega arith)));
    }

pub exact_mine : (vs : List PassRecord) (id : ℕ) (v : PassRecord) (x : Name) → get_elem? vs id ≡ some v → v.names ≡ x ∷ [] → 0 < names_of vs (exact x)
exact_mine vs id v x e names =
    let c : weigh (exact x) v.names ≡ exact x x + 0 = ap (weigh (exact x)) names in
    omega (arith, term_le (λ (u : PassRecord). weigh (exact x) u.names) vs id v e, exact-here x)

-- if the names of two lists of passes weigh the same and those of one are in order, so are those of the other
pub same_names : (vs vs' : List PassRecord) → ((f : Name → ℕ) → names_of vs' f ≡ names_of vs f) → AreNames vs → AreNames vs'
same_names vs vs' same r = record {
  once = λ p. omega (arith, same (named p), r.once p);
  parent = λ p k h. omega (arith, same (above p k), r.parent p k (omega (arith, same (named (p ++ k ∷ [])))));
}

snoc_view : (p : List ℕ) → (p ≡ []) ⊎ ((q : List ℕ) × (k : ℕ) × (p ≡ q ++ k ∷ []) × (length q < length p))
snoc_view [] = inl refl
snoc_view (x ∷ xs) = inr (⊎_elim (λ (e : xs ≡ []). ([], x, (λ i. x ∷ e i), omega arith)) (λ t. (x ∷ t.0, t.1, (λ i. x ∷ t.2 i), omega arith)) (snoc_view xs))

two_names : (vs : List PassRecord) (p : List ℕ) (i j : ℕ) (u v : PassRecord) → AreNames vs → get_elem? vs i ≡ some u
    → get_elem? vs j ≡ some v → 0 < weigh (named p) u.names → 0 < weigh (named p) v.names → i ≡ j
two_names vs p i j u v r e d a b = dite (ℕ_discrete i j) (λ h. h)
    (λ ne. absurd (omega (arith, r.once p, terms_le (λ (w : PassRecord). weigh (named p) w.names) vs j i v u ne d e)))

-- if v has all names, each name of a pass is one of v's
module _ (vs : List PassRecord) (id : ℕ) (v : PassRecord) (r : AreNames vs) (me : get_elem? vs id ≡ some v) (all : AreAll (v ∷ [])) where
  known : (fuel : ℕ) (p : List ℕ) → length p < fuel → 0 < names_of vs (named p) → 0 < weigh (named p) v.names
  known zero p l h = absurd (omega arith)
  known (suc fuel) p l h = ⊎_elim
      (λ (e : p ≡ []). subst (λ (q : List ℕ). 0 < weigh (named q) v.names) (sym e) (omega (arith, all.first)))
      (λ (t : (q : List ℕ) × (k : ℕ) × (p ≡ q ++ k ∷ []) × (length q < length p)). let q = t.0 in let k = t.1 in
      let up = r.parent q k (subst (λ (x : List ℕ). 0 < names_of vs (named x)) t.2 h) in
      let place = some_place (λ (w : PassRecord). weigh (above q k) w.names) vs up in
      let u : PassRecord = place.1 in
      let le = weigh-le (above q k) (named q) u.names (λ x j. above_le q k x) in
      let total = term_le (λ (w : PassRecord). weigh (named q) w.names) vs place.0 u place.2 in
      let mine = known fuel q (omega (arith, t.3)) (omega (arith, place.3)) in
      let same = two_names vs q place.0 id u v r place.2 me (omega (arith, place.3)) mine in
      let is_v : u ≡ v = some-injective u v (sym place.2 ∙ (ap (λ (i : ℕ). get_elem? vs i) same ∙ me)) in
      let there : 0 < weigh (above q k) v.names = subst (λ (w : PassRecord). 0 < weigh (above q k) w.names) is_v place.3 in
      subst (λ (x : List ℕ). 0 < weigh (named x) v.names) (sym t.2) (omega (arith, all.split q k (omega (arith, there)))))
      (snoc_view p)

  no_names : (i : ℕ) (u : PassRecord) (l : List Name) → i ≢ id → get_elem? vs i ≡ some u → u.names ≡ l → l ≡ []
  no_names i u [] ne e is_l = refl
  no_names i u (x ∷ xs) ne e is_l =
      let has : 0 < weigh (named x.0) u.names = (let a : weigh (named x.0) u.names
      ≡ named x.0 x + weigh (named x.0) xs = ap (weigh (named x.0)) is_l in omega (arith, named-here x.0 x refl)) in
      let total = term_le (λ (w : PassRecord). weigh (named x.0) w.names) vs i u e in
      absurd (ne (two_names vs x.0 i id u v r e me has (known (suc (length x.0)) x.0 (omega arith) (omega arith))))

  -- no other pass has a name
  pub nameless : (i : ℕ) (u : PassRecord) → i ≢ id → get_elem? vs i ≡ some u → u.names ≡ []
  nameless i u ne e = no_names i u u.names ne e refl

pub named_not_empty : (l : List Name) → 0 < length l → l ≡ [] → ⊥
named_not_empty [] h e = absurd (omega arith)
named_not_empty (x ∷ xs) h e = cc

-- all passes, after one was split off under (p, n)
pub all_split : (vs vs' : List PassRecord) (p : List ℕ) (n : ℕ) → AreAll vs
    → ((f : Name → ℕ) → names_of vs' f + f (p, n) ≡ names_of vs f + f (p, n + 1) + f (p ++ n ∷ [], 0)) → AreAll vs'
all_split vs vs' p n all moved = record {
  first = let same : named [] (p, n) ≡ named [] (p, n + 1) = refl in omega (arith, moved (named []), all.first);
  split = λ q k h.
      let same : named (q ++ k ∷ []) (p, n) ≡ named (q ++ k ∷ []) (p, n + 1) = refl in
      let here = moved (named (q ++ k ∷ [])) in
      dite (ℕ_discrete (names_of vs (above q k)) 0)
      (λ z. let new : 0 < above q k (p, n + 1) = omega (arith, moved (above q k), above-past q k (p ++ n ∷ [], 0) (omega arith)) in
      let old : above q k (p, n) ≡ 0 = omega (
        arith,
        moved (above q k),
        above-past q k (p ++ n ∷ [], 0) (omega arith),
        one_at_most (has_split q k (p, n + 1)),
      ) in
      let is_q : p ≡ q = named-at q (p, n + 1) (omega (arith, above_le q k (p, n + 1))) in
      let at_k : k ≡ n = which q k is_q new old in
      omega (arith, here, named-here (q ++ k ∷ []) (p ++ n ∷ [], 0) (λ i. is_q i ++ sym at_k i ∷ [])))
      (λ nz. omega (arith, here, all.split q k (omega arith)));
}
  where
    which : (q : List ℕ) (k : ℕ) → p ≡ q → 0 < above q k (p, n + 1) → above q k (p, n) ≡ 0 → k ≡ n
    which q k is_q new old = dite (dec_le (n + 1) k)
        (λ l. absurd (omega (arith, above-past q k (p, n + 1) l)))
        (λ l. dite (dec_le n k) (λ m. omega arith) (λ m. absurd (omega (arith, above-here q k (p, n) is_q (omega arith)))))

-- if the names of two lists of passes weigh the same and one list is all passes, so is the other
pub same_all : (vs vs' : List PassRecord) → ((f : Name → ℕ) → names_of vs' f ≡ names_of vs f) → AreAll vs → AreAll vs'
same_all vs vs' same all = record {
  first = omega (arith, same (named []), all.first);
  split = λ q k h. omega (arith, same (named (q ++ k ∷ [])), all.split q k (omega (arith, same (above q k))));
}
