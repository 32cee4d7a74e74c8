-- The tiles on a bench, one after another.
use Rattle.std.proofs.Common.{◌≡◌, ℕ, zero, suc, ◌-◌, ◌<◌, ◌≤◌, ℤ, List, [], ◌∷◌, ◌++◌, length, refl, ap, sym, ◌∙◌}
use Rattle.std.proofs.Common.{subst, take, drop, Option, Some, None, slice_get, slice_index, slice_index_or, slice_set}
use Rattle.std.proofs.Common.{arith}
use Rattle.std.specs.Prelude.{option_map}
use Rattle.std.proofs.Math.ListN.{get_or-append}
use Rattle.std.proofs.Math.Seq.{take-append_seam}
use Rattle.std.proofs.Common.{length-append, length-drop}
use Rattle.std.proofs.lemmas.List.{get_or-take, length-take-le}
use Rattle.std.proofs.lemmas.Option.{get_or_from_slice_get, slice_get_read, slice_get_within}
use Rattle.body_eval.specs.Sizes.{KeepsSizes, size_of}
use Rattle.task_run.specs.Bench.{FitLent}
use Rattle.task_run.specs.Pools.{Lent, LendsTo, without_last}

-- one more tile is laid
pub laid : (elems : List ℕ) (lent : List (Option ℕ)) (type : Option ℕ) (tiles : List (Option (List ℤ)))
    (tile : Option (List ℤ)) (n : ℕ) → FitLent elems lent tiles → n ≡ length lent → n < length tiles
    → ((k : ℕ) → type ≡ Some k → option_map length tile ≡ Some (slice_index elems k))
    → FitLent elems (lent ++ type ∷ []) (slice_set tiles n tile)
laid elems lent type [] tile n fit at h fits i k is = absurd (omega (arith, h))
laid elems [] type (t ∷ ts) tile zero fit at h fits zero k is = fits k cc
laid elems [] type (t ∷ ts) tile zero fit at h fits (suc i) k is = absurd cc
laid elems [] type (t ∷ ts) tile (suc n) fit at h fits i k is = absurd (omega (arith, at))
laid elems (l ∷ lent) type (t ∷ ts) tile zero fit at h fits i k is = absurd (omega (arith, at))
laid elems (l ∷ lent) type (t ∷ ts) tile (suc n) fit at h fits zero k is = fit zero k is
laid elems (l ∷ lent) type (t ∷ ts) tile (suc n) fit at h fits (suc i) k is =
    laid elems lent type ts tile n (λ j m e. fit (suc j) m e) (omega (arith, at)) (omega (arith, h)) fits i k is

-- the last place is cleared
pub cleared : (elems : List ℕ) (init : List (Option ℕ)) (type : Option ℕ) (tiles : List (Option (List ℤ))) (n : ℕ)
    (y : Option (List ℤ)) → FitLent elems (init ++ type ∷ []) tiles → n ≡ length init
    → FitLent elems init (slice_set tiles n y)
cleared elems [] type tiles n y fit at i k is = absurd cc
cleared elems (l ∷ init) type [] n y fit at i k is = let this = fit zero in here i is
  where
    here : (j : ℕ) → slice_get (l ∷ init) j ≡ Some (Some k) → size_of [] j ≡ Some (slice_index elems k)
    here j e = fit j k (more (l ∷ init) j e)
      where
        more : (xs : List (Option ℕ)) (j : ℕ) → slice_get xs j ≡ Some (Some k)
            → slice_get (xs ++ type ∷ []) j ≡ Some (Some k)
        more [] j e = absurd cc
        more (x ∷ xs) zero e = e
        more (x ∷ xs) (suc j) e = more xs j e
cleared elems (l ∷ init) type (t ∷ ts) zero y fit at i k is = absurd (omega (arith, at))
cleared elems (l ∷ init) type (t ∷ ts) (suc n) y fit at zero k is = fit zero k is
cleared elems (l ∷ init) type (t ∷ ts) (suc n) y fit at (suc i) k is = cleared elems init type ts n y
    (λ j m e. fit (suc j) m e) (omega (arith, at)) i k is

-- a list has a last member
pub record HasLast {A : Type 0} (xs : List A) : Type 0 where
  pub last : A
  pub split : xs ≡ take (length xs - 1) xs ++ last ∷ []
  pub is : slice_get xs (length xs - 1) ≡ Some last

pub split_last : {A : Type 0} (xs : List A) → 0 < length xs → HasLast xs
split_last [] h = absurd (omega (arith, h))
split_last (x ∷ []) h = record { last = x; split = refl; is = refl }
split_last (x ∷ y ∷ ys) h =
    let later = split_last (y ∷ ys) (omega arith) in
    let at : length (x ∷ y ∷ ys) - 1 ≡ suc (length (y ∷ ys) - 1) = omega arith in
    record {
      last = later.last;
      split = ap (λ l. x ∷ l) later.split ∙ ap (λ n. take n (x ∷ y ∷ ys) ++ later.last ∷ []) (sym at);
      is = ap (slice_get (x ∷ y ∷ ys)) at ∙ later.is;
    }

-- a body keeps what was lent
pub kept : (elems : List ℕ) (lent : List (Option ℕ)) (tiles new rest : List (Option (List ℤ))) (n : ℕ)
    → FitLent elems lent tiles → n ≡ length lent → length new ≡ n → KeepsSizes (take n tiles) new
    → FitLent elems lent (new ++ rest)
kept elems lent tiles new rest n fit at count keeps i k is =
    let below = slice_get_within lent i (Some k) is in
    ap (option_map length) (get_or-append new rest None i (omega (arith, below, at, count))) ∙ keeps i
    ∙ ap (option_map length) (get_or-take n tiles i None (omega (arith, below, at))) ∙ fit i k is

pub take_new : (n : ℕ) (new rest : List (Option (List ℤ))) → length new ≡ n → take n (new ++ rest) ≡ new
take_new n new rest e = ap (λ m. take m (new ++ rest)) (sym e) ∙ take-append_seam new rest

pub set_count : {A : Type 0} (xs : List A) (n m : ℕ) (y : A) → length xs ≡ m → length (slice_set xs n y) ≡ m
set_count xs n m y h = same xs n y ∙ h
  where
    same : {A : Type 0} (xs : List A) (n : ℕ) (y : A) → length (slice_set xs n y) ≡ length xs
    same [] n y = refl
    same (x ∷ xs) zero y = refl
    same (x ∷ xs) (suc n) y = ap suc (same xs n y)

-- the tile of the next flow, as it was lent
pub laid_by : (old new : Lent) (tiles : List (Option (List ℤ))) (tile : Option (List ℤ)) (n : ℕ)
    → FitLent old.elems old.lent tiles → n ≡ length old.lent → n < length tiles → LendsTo old new tile
    → FitLent new.elems new.lent (slice_set tiles n tile)
laid_by old new tiles tile n fit at h lends =
    subst (λ (b : Lent). FitLent b.elems b.lent (slice_set tiles n tile)) (sym lends.lent)
    (laid old.elems old.lent lends.type tiles tile n fit at h lends.fits)

-- the last flow, as it is taken back
pub last_lent : (b : Lent) (tiles : List (Option (List ℤ))) (n : ℕ) (tile d : Option (List ℤ))
    → FitLent b.elems b.lent tiles → 0 < length b.lent → n ≡ length b.lent → n ≤ length tiles
    → d ≡ slice_index_or tiles (n - 1) d → tile ≡ slice_index_or tiles (n - 1) d → LendsTo (without_last b) b tile
last_lent b tiles n tile d fit some at h here is =
    let l = split_last b.lent some in
    let index : length b.lent - 1 ≡ n - 1 = omega (arith, at) in
    let there : slice_get tiles (n - 1) ≡ Some d = slice_get_read tiles (length tiles) (n - 1) d refl
    (omega (arith, h, some, at)) here in
    let size : (k : ℕ) → l.last ≡ Some k → option_map length tile ≡ Some (slice_index b.elems k) =
    λ k e. ap (option_map length) (is ∙ sym here ∙ sym (get_or_from_slice_get tiles (n - 1) d None there))
    ∙ ap (size_of tiles) (sym index) ∙ fit (length b.lent - 1) k (l.is ∙ ap Some e) in
    record { type = l.last; lent = λ i. record { elems = b.elems; lent = l.split i }; fits = size }

pub less_lent : (b new : Lent) (tiles : List (Option (List ℤ))) (n : ℕ) (y : Option (List ℤ))
    → FitLent b.elems b.lent tiles → 0 < length b.lent → n ≡ length b.lent → new ≡ without_last b
    → FitLent new.elems new.lent (slice_set tiles (n - 1) y)
less_lent b new tiles n y fit some at e =
    let l = split_last b.lent some in
    let before : length b.lent - 1 ≤ length b.lent = omega arith in
    let index : n - 1 ≡ length (take (length b.lent - 1) b.lent) = omega
    (arith, at, length-take-le (length b.lent - 1) b.lent before) in
    let split : FitLent b.elems (take (length b.lent - 1) b.lent ++ l.last ∷ []) tiles = subst
    (λ m. FitLent b.elems m tiles) l.split fit in
    subst (λ (c : Lent). FitLent c.elems c.lent (slice_set tiles (n - 1) y)) (sym e)
    (cleared b.elems (take (length b.lent - 1) b.lent) l.last tiles (n - 1) y split index)

pub whole_count : {A : Type 0} (n : ℕ) (xs ys : List A) → length ys ≡ n → n ≤ length xs
    → length (ys ++ drop n xs) ≡ length xs
whole_count n xs ys is h = omega (arith, length-append ys (drop n xs), length-drop n xs, is, h)
