-- The counts of the pools of a bench.
use Rattle.std.proofs.Common.{◌≡◌, ◌≢◌, ℕ, zero, suc, ◌+◌, ◌<◌, ◌≤◌, ℤ, Bool, true, false, cond, nat_eq, List, [], ◌∷◌}
use Rattle.std.proofs.Common.{◌++◌, length, count_by, pos, replicate, refl, ap, sym, ◌∙◌, subst, slice_get, slice_index}
use Rattle.std.proofs.Common.{slice_set, Option, Some, None, arith, map, take, add-one}
use Rattle.std.proofs.lemmas.Bool.Decides.{nat_tests}
use Rattle.std.proofs.lemmas.List.Sums.{count_by-le-length, sum_by-append}
use Rattle.std.proofs.Math.Seq.{take-suc}
use Rattle.std.proofs.lemmas.List.{map-append, length-set}
use Rattle.std.specs.Option.{option_eq}
use Rattle.tile_pool.specs.Pool.{Pool, IsTakenFrom}
use Rattle.task_run.specs.declared.pools.TypePool.{TypePool}
use Rattle.task_run.specs.Pools.{AreBelow, IsPoolOf}
use Rattle.task_run.specs.PoolList.{ArePools, IsGivenBack}
use Rattle.list_lemmas.proofs.Places.{slice_get-set_other, slice_get-set_same}

-- one tile of type k, or none
abbrev pub one : ℕ → Option ℕ → ℕ
one k type = cond (option_eq nat_eq (Some k) type) 1 0

pub count-one : (k : ℕ) (lent : List (Option ℕ)) (type : Option ℕ)
    → count_by (option_eq nat_eq (Some k)) (lent ++ type ∷ []) ≡ count_by (option_eq nat_eq (Some k)) lent + one k type
count-one k lent type = sum_by-append (λ x. cond (option_eq nat_eq (Some k) x) 1 0) lent (type ∷ []) ∙ omega arith

same_type : (k : ℕ) → one k (Some k) ≡ 1
same_type k =
    let e : nat_eq k k ≡ true = grind (arith, nat_tests) in
    ap (λ b. cond b 1 0) e

other_type : (j k : ℕ) → j ≢ k → one j (Some k) ≡ 0
other_type j k h =
    let e : nat_eq j k ≡ false = grind (arith, nat_tests) in
    ap (λ b. cond b 1 0) e

pub map_set : {A B : Type 0} (f : A → B) (xs : List A) (k : ℕ) (x y : A) → slice_get xs k ≡ Some x → f y ≡ f x
    → map f (slice_set xs k y) ≡ map f xs
map_set f [] k x y h e = refl
map_set f (z ∷ zs) zero x y h e =
    let same : z ≡ x = cc in
    ap (λ b. b ∷ map f zs) (e ∙ ap f (sym same))
map_set f (z ∷ zs) (suc k) x y h e = ap (λ l. f z ∷ l) (map_set f zs k x y h e)

-- while fewer than eight flows have their tiles, a pool has a tile to lend
pub has_spare : (lent : List (Option ℕ)) (k : ℕ) (pool : Pool) (zeros : List ℤ) → IsPoolOf lent k pool zeros
    → length lent < 8 → 0 < pool.spare
has_spare lent k pool zeros is h = omega (
  arith,
  is.lent,
  is.enough,
  count_by-le-length (option_eq nat_eq (Some k))
      lent,
)

-- a pool after it lent a tile, and after it got one back
lent_one : (lent : List (Option ℕ)) (k : ℕ) (old new : Pool) (z y : List ℤ) → IsPoolOf lent k old z
    → IsTakenFrom old new → y ≡ z → IsPoolOf (lent ++ Some k ∷ []) k new y
lent_one lent k old new z y is taken same = record {
  zeros = same ∙ is.zeros ∙ ap (λ n. replicate n (pos 0)) (sym taken.elems);
  lent = omega (arith, taken.room, is.lent, count-one k lent (Some k), same_type k);
  enough = omega (arith, taken.room, taken.spare, is.enough);
}

got_one : (lent : List (Option ℕ)) (k : ℕ) (old new : Pool) (z y : List ℤ) → IsPoolOf (lent ++ Some k ∷ []) k old z
    → IsTakenFrom new old → y ≡ z → IsPoolOf lent k new y
got_one lent k old new z y is taken same = record {
  zeros = same ∙ is.zeros ∙ ap (λ n. replicate n (pos 0)) taken.elems;
  lent = omega (arith, taken.room, is.lent, count-one k lent (Some k), same_type k);
  enough = omega (arith, taken.room, taken.spare, is.enough);
}

-- a pool of another type has the same counts
one_more : (lent : List (Option ℕ)) (type : Option ℕ) (j : ℕ) (pool : Pool) (z : List ℤ) → one j type ≡ 0
    → IsPoolOf lent j pool z → IsPoolOf (lent ++ type ∷ []) j pool z
one_more lent type j pool z none is = record {
  zeros = is.zeros;
  lent = omega
      (arith, is.lent, count-one j lent type, none);
  enough = is.enough;
}

one_less : (lent : List (Option ℕ)) (type : Option ℕ) (j : ℕ) (pool : Pool) (z : List ℤ) → one j type ≡ 0
    → IsPoolOf (lent ++ type ∷ []) j pool z → IsPoolOf lent j pool z
one_less lent type j pool z none is = record {
  zeros = is.zeros;
  lent = omega
      (arith, is.lent, count-one j lent type, none);
  enough = is.enough;
}

pub none_lent : (pools : List TypePool) (lent : List (Option ℕ)) → ArePools pools lent
    → ArePools pools (lent ++ None ∷ [])
none_lent pools lent are k p is = one_more lent None k p.pool p.zeros refl (are k p is)

pub one_lent : (pools : List TypePool) (lent : List (Option ℕ)) (k : ℕ) (old new : TypePool) → ArePools pools lent
    → slice_get pools k ≡ Some old → IsTakenFrom old.pool new.pool → new.zeros ≡ old.zeros
    → ArePools (slice_set pools k new) (lent ++ Some k ∷ [])
one_lent pools lent k old new are is taken same j p at = by (nat_eq j k) refl
  where
    by : (b : Bool) → nat_eq j k ≡ b → IsPoolOf (lent ++ Some k ∷ []) j p.pool p.zeros
    by true e =
        let here : j ≡ k = grind (arith, nat_tests) in
        let new_is : new ≡ p = slice_get-set_same pools k new p
        (subst (λ n. slice_get (slice_set pools k new) n ≡ Some p) here at) in
        subst (λ n. IsPoolOf (lent ++ Some k ∷ []) n p.pool p.zeros) (sym here)
        (subst (λ (q : TypePool). IsPoolOf (lent ++ Some k ∷ []) k q.pool q.zeros) new_is
        (lent_one lent k old.pool new.pool old.zeros new.zeros (are k old is) taken same))
    by false e =
        let apart : j ≢ k = λ h. absurd (grind (arith, nat_tests)) in
        one_more lent (Some k) j p.pool p.zeros (other_type j k apart)
        (are j p (sym (slice_get-set_other pools k j new apart) ∙ at))

pub given_back : (old new : List TypePool) (lent : List (Option ℕ)) (type : Option ℕ) → ArePools old (lent ++ type ∷ [])
    → IsGivenBack old type new → ArePools new lent
given_back old new lent None are given k p is = one_less lent None k p.pool p.zeros refl
    (are k p (ap (λ l. slice_get l k) (sym given) ∙ is))
given_back old new lent (Some k) are given j p at = by (nat_eq j k) refl
  where
    at_set : slice_get (slice_set old k given.after) j ≡ Some p
    at_set = ap (λ l. slice_get l j) (sym given.set) ∙ at

    by : (b : Bool) → nat_eq j k ≡ b → IsPoolOf lent j p.pool p.zeros
    by true e =
        let here : j ≡ k = grind (arith, nat_tests) in
        let after_is : given.after ≡ p = slice_get-set_same old k given.after p
        (subst (λ n. slice_get (slice_set old k given.after) n ≡ Some p) here at_set) in
        subst (λ n. IsPoolOf lent n p.pool p.zeros) (sym here)
        (subst (λ (q : TypePool). IsPoolOf lent k q.pool q.zeros) after_is
        (got_one lent k given.before.pool given.after.pool given.before.zeros given.after.zeros
        (are k given.before given.is) given.taken given.zeros))
    by false e =
        let apart : j ≢ k = λ h. absurd (grind (arith, nat_tests)) in
        one_less lent (Some k) j p.pool p.zeros (other_type j k apart)
        (are j p (sym (slice_get-set_other old k j given.after apart) ∙ at_set))

-- the lengths of tiles stay
pub same_elems : (old new : List TypePool) (type : Option ℕ) → IsGivenBack old type new
    → map (λ (p : TypePool). p.pool.elems) new ≡ map (λ (p : TypePool). p.pool.elems) old
same_elems old new None given = ap (map (λ (p : TypePool). p.pool.elems)) given
same_elems old new (Some k) given =
    ap (map (λ (p : TypePool). p.pool.elems)) given.set
    ∙ map_set (λ (p : TypePool). p.pool.elems) old k given.before given.after given.is (sym given.taken.elems)

pub same_count : (old new : List TypePool) (type : Option ℕ) → IsGivenBack old type new → length new ≡ length old
same_count old new None given = ap length given
same_count old new (Some k) given = ap length given.set ∙ length-set old k given.after

-- which types may be lent
pub below_more : (types : ℕ) (lent : List (Option ℕ)) (type : Option ℕ) → AreBelow types lent
    → ((k : ℕ) → type ≡ Some k → k < types) → AreBelow types (lent ++ type ∷ [])
below_more types [] type below h zero k is = h k cc
below_more types [] type below h (suc n) k is = absurd cc
below_more types (x ∷ xs) type below h zero k is = below zero k is
below_more types (x ∷ xs) type below h (suc n) k is = below_more types xs type (λ m j e. below (suc m) j e) h n k is

pub below_less : (types : ℕ) (lent : List (Option ℕ)) (type : Option ℕ) → AreBelow types (lent ++ type ∷ [])
    → AreBelow types lent
below_less types [] type below n k is = absurd cc
below_less types (x ∷ xs) type below zero k is = below zero k is
below_less types (x ∷ xs) type below (suc n) k is = below_less types xs type (λ m j e. below (suc m) j e) n k is

pub below_last : (types : ℕ) (lent : List (Option ℕ)) (k : ℕ) → AreBelow types (lent ++ Some k ∷ []) → k < types
below_last types [] k below = below zero k refl
below_last types (x ∷ xs) k below = below_last types xs k (λ m j e. below (suc m) j e)

-- the same for an equal list
pub pools_along : (pools : List TypePool) {l m : List (Option ℕ)} → m ≡ l → ArePools pools l → ArePools pools m
pools_along pools e are = subst (ArePools pools) (sym e) are

pub below_along : (types : ℕ) {l m : List (Option ℕ)} → m ≡ l → AreBelow types l → AreBelow types m
below_along types e below = subst (AreBelow types) (sym e) below

pub elems_at : (pools : List TypePool) (k : ℕ) (p : TypePool) → slice_get pools k ≡ Some p
    → slice_index (map (λ (q : TypePool). q.pool.elems) pools) k ≡ p.pool.elems
elems_at [] k p h = absurd cc
elems_at (q ∷ qs) zero p h =
    let same : q ≡ p = cc in
    ap (λ (r : TypePool). r.pool.elems) same
elems_at (q ∷ qs) (suc k) p h = elems_at qs k p h

pub some_type : (types k j : ℕ) → k < types → Some k ≡ Some j → j < types
some_type types k j h e =
    let same : k ≡ j = cc in
    omega (arith, h, same)

pub lent_room : (lent : List (Option ℕ)) (k : ℕ) (pool : Pool) (z : List ℤ) → IsPoolOf (lent ++ Some k ∷ []) k pool z
    → 0 < pool.room
lent_room lent k pool z is = omega (arith, is.lent, count-one k lent (Some k), same_type k)

-- one pool more, while nothing is lent
pub one_pool : (pools : List TypePool) (p : TypePool) → ArePools pools [] → p.pool.room ≡ 0 → 8 ≤ p.pool.spare
    → p.zeros ≡ replicate p.pool.elems (pos 0) → ArePools (pools ++ p ∷ []) []
one_pool [] p are room enough zeros zero q at =
    let same : p ≡ q = cc in
    subst (λ (r : TypePool). IsPoolOf [] zero r.pool r.zeros) same
    (record { zeros = zeros; lent = room; enough = omega (arith, enough) })
one_pool [] p are room enough zeros (suc k) q at = absurd cc
one_pool (x ∷ xs) p are room enough zeros zero q at = are zero q at
one_pool (x ∷ xs) p are room enough zeros (suc k) q at =
    let is = one_pool xs p (λ j r e. let w = are (suc j) r e in record
    { zeros = w.zeros; lent = w.lent; enough = w.enough }) room enough zeros k q at in
    record { zeros = is.zeros; lent = is.lent; enough = is.enough }

pub pools_along_left : {l m : List TypePool} {lent : List (Option ℕ)} → l ≡ m → ArePools l lent → ArePools m lent
pools_along_left {lent = lent} e are = subst (λ pools. ArePools pools lent) e are

pub more_elems : (pools : List TypePool) (p : TypePool) (new : List TypePool) (items : List ℕ) (i : ℕ)
    → new ≡ pools ++ p ∷ [] → map (λ (q : TypePool). q.pool.elems) pools ≡ take i items → i < length items
    → p.pool.elems ≡ slice_index items i
    → map (λ (q : TypePool). q.pool.elems) new ≡ take (i + 1) items
more_elems pools p new items i e made h is =
    ap (map (λ (q : TypePool). q.pool.elems)) e ∙ map-append (λ (q : TypePool). q.pool.elems) pools (p ∷ [])
    ∙ ap (λ l. l ++ p.pool.elems ∷ []) made ∙ ap (λ n. take i items ++ n ∷ []) is
    ∙ sym (rw (add-one, take-suc items i 0 h) refl)
