-- Sums of joined lists, and how many elements well made data have.
use Rattle.std.proofs.Common.{◌≡◌, ℕ, ◌+◌, ◌*◌, ◌^◌, ◌<◌, ◌≤◌, ℤ, pos, ◌+ℤ◌, unsigned_abs, fold, List, [], ◌∷◌, ◌++◌, length, length-append}
use Rattle.std.proofs.Common.{slice_index, get_or, take, FitsSigned, refl, ap, sym, ◌∙◌, arith}
use Rattle.std.specs.List.{AllByRecursion, flat_map}
use Rattle.std.specs.Int.{w128}
use Rattle.std.proofs.lemmas.Int.{ints}
use Rattle.std.proofs.lemmas.List.{append-nil, take_more}
use Rattle.std.proofs.lemmas.List.Concat.{flat_map-append}
use Rattle.std.proofs.lemmas.List.Folds.{length-flat_map-take}
use Rattle.std.proofs.lemmas.List.Sums.{fold-append, sum_by-cons}
use Rattle.coll_data.specs.declared.coll.Coll.{Coll}
use Rattle.coll_data.specs.Data.{Data}
use Rattle.coll_data.specs.Sums.{all_elements, sum_of, tile_elements}
use Rattle.coll_data.specs.WellMade.{elements_by_type, element_total, IsWellColl, IsWellMade}

add_assoc : (a b c : ℤ) → (a +ℤ b) +ℤ c ≡ a +ℤ (b +ℤ c)
add_assoc a b c = omega (arith, ints)

zero_plus : (a : ℤ) → pos 0 +ℤ a ≡ a
zero_plus a = omega (arith, ints)

-- a sum that starts from a number is that number plus the sum
sum_from : (a : ℤ) (xs : List ℤ) → fold ◌+ℤ◌ a xs ≡ a +ℤ sum_of xs
sum_from a [] = omega (arith, ints)
sum_from a (x ∷ xs) =
    sum_from (a +ℤ x) xs ∙ add_assoc a x (sum_of xs) ∙ ap (λ s. a +ℤ s) (ap (λ y. y +ℤ sum_of xs) (sym (zero_plus x)) ∙ sym (sum_from (pos 0 +ℤ x) xs))

-- the sum of these numbers, which fits since each has 64 bits
pub record IsSumOf (sum : ℤ) (numbers : List ℤ) : Type 0 where
  pub is : sum ≡ sum_of numbers
  pub bounds : unsigned_abs sum ≤ 2 ^ 63 * length numbers
  pub fits : FitsSigned w128 sum

-- the sum of a list and of the next one, if together they are not too long
joined : (before part : List ℤ) (a b : ℤ) → a ≡ sum_of before → b ≡ sum_of part
    → unsigned_abs a ≤ 2 ^ 63 * length before → unsigned_abs b ≤ 2 ^ 63 * length part
    → length before + length part ≤ 2 ^ 24 → IsSumOf (a +ℤ b) (before ++ part)
joined before part a b d e h k most =
    let n = length-append before part in
    record {
      is = ap (λ z. z +ℤ b) d ∙ ap (λ z. sum_of before +ℤ z) e ∙ sym (sum_from (sum_of before) part) ∙ sym (fold-append ◌+ℤ◌ (pos 0) before part);
      bounds = omega (arith, ints);
      fits = omega (arith, ints);
    }

-- the sum of the parts before an index, and of the part at it
pub next_sum : {X : Type 0} (g : X → List ℤ) (xs : List X) (i : ℕ) (x : X) (a b : ℤ) → i < length xs
    → x ≡ get_or xs i x → length (flat_map g xs) ≤ 2 ^ 24 → a ≡ sum_of (flat_map g (take i xs))
    → unsigned_abs a ≤ 2 ^ 63 * length (flat_map g (take i xs)) → b ≡ sum_of (g x)
    → unsigned_abs b ≤ 2 ^ 63 * length (g x) → IsSumOf (a +ℤ b) (flat_map g (take (i + 1) xs))
next_sum g xs i x a b within at most d h e k =
    let split : flat_map g (take (i + 1) xs) ≡ flat_map g (take i xs) ++ g x =
    ap (flat_map g) (take_more xs i x within) ∙ flat_map-append g (take i xs) (get_or xs i x ∷ [])
    ∙ ap (λ z. flat_map g (take i xs) ++ (g z ++ [])) (sym at)
    ∙ ap (λ l. flat_map g (take i xs) ++ l) (append-nil (g x)) in
    let n : length (flat_map g (take i xs)) + length (g (get_or xs i x)) ≤ length (flat_map g xs) = length-flat_map-take g xs i x within in
    let m : length (g (get_or xs i x)) ≡ length (g x) = ap (λ z. length (g z)) (sym at) in
    rw split (joined (flat_map g (take i xs)) (g x) a b d e h k (omega arith))

-- no part has more numbers than all parts together
pub part_at_most : {X : Type 0} (g : X → List ℤ) (xs : List X) (i : ℕ) (x : X) → i < length xs → x ≡ get_or xs i x → length (g x) ≤ length (flat_map g xs)
part_at_most g xs i x within at =
    let n = length-flat_map-take g xs i x within in
    let m : length (g (get_or xs i x)) ≡ length (g x) = ap (λ z. length (g z)) (sym at) in
    omega arith

-- the elements of tiles that have n elements each
tile_elements_count : (n : ℕ) (tiles : List (List ℤ)) → AllByRecursion (λ (tile : List ℤ). length tile ≡ n) tiles
    → length (tile_elements tiles) ≡ length tiles * n
tile_elements_count n [] w = omega arith
tile_elements_count n (t ∷ ts) w =
    let e = length-append t (tile_elements ts) in
    let f = tile_elements_count n ts w.1 in
    let g = w.0 in
    grind arith

-- the collections have as many elements as their tiles and types say
elements_count : (elements : List ℕ) (colls : List Coll) → AllByRecursion (IsWellColl elements) colls
    → length (all_elements colls) ≡ element_total elements colls
elements_count elements [] w = refl
elements_count elements (c ∷ cs) w =
    let e = length-append (tile_elements c.tiles) (all_elements cs) in
    let f = elements_count elements cs w.1 in
    let g = tile_elements_count (slice_index elements c.datatype) c.tiles w.0.tile_lengths in
    let h = sum_by-cons (λ (x : Coll). length x.tiles * slice_index elements x.datatype) c cs in
    omega arith

pub elements_at_most : (d : Data) → IsWellMade d → length (all_elements d.colls) ≤ 2 ^ 24
elements_at_most d w = let e = elements_count (elements_by_type d) d.colls w.colls in let h = w.elements_at_most in omega arith
