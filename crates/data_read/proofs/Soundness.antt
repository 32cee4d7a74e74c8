-- What holds for the data so far after each record, and that at the end the data are well made.
use Rattle.std.specs.Prelude.{◌&&◌}
use Rattle.std.proofs.Common.{◌≡◌, ℕ, zero, suc, ◌+◌, ◌*◌, ◌<◌, ◌≤◌, ℤ, pos, Bool, true, false, List, [], ◌∷◌, ◌++◌, length, map, get_or, replicate}
use Rattle.std.proofs.Common.{unwrap_or, Option, IsTrue, refl, sym, ◌∙◌, ap, arith}
use Rattle.std.specs.List.{list_all, AllByRecursion, sum_by}
use Rattle.std.proofs.lemmas.List.{length-map}
use Rattle.std.proofs.lemmas.List.Sums.{sum_by-cons}
use Rattle.coll_data.specs.declared.coll.Coll.{Coll}
use Rattle.coll_data.specs.Tiles.{tile_count}
use Rattle.coll_data.specs.WellMade.{IsWellColl, IsWellMade, element_total, is_element_count}
use Rattle.data_read.specs.declared.growing.GrowingColl.{GrowingColl}
use Rattle.data_read.specs.Draft.{Draft, data_after, finished}

-- ---- lists

all_map : {A B : Type 0} (f : A → B) (P : A → Type 0) (Q : B → Type 0) (xs : List A) → ((x : A) → P x → Q (f x))
    → AllByRecursion P xs → AllByRecursion Q (map f xs)
all_map f P Q [] each all = tt
all_map f P Q (x ∷ xs) each all = (each x all.0, all_map f P Q xs each all.1)

pub all_replicate : {A : Type 0} (P : A → Type 0) (n : ℕ) (x : A) → P x → AllByRecursion P (replicate n x)
all_replicate P zero x one = tt
all_replicate P (suc n) x one = (one, all_replicate P n x one)

pub at_push : (xs : List ℕ) (x n : ℕ) → n < length xs → get_or (xs ++ x ∷ []) n 0 ≡ get_or xs n 0
at_push [] x n within = absurd (omega arith)
at_push (y ∷ ys) x zero within = refl
at_push (y ∷ ys) x (suc n) within = at_push ys x n (omega arith)

pub all_true_push : (p : ℕ → Bool) (xs : List ℕ) (x : ℕ) → IsTrue (list_all p xs) → p x ≡ true → IsTrue (list_all p (xs ++ x ∷ []))
all_true_push p [] x all one = rw one refl
all_true_push p (y ∷ ys) x all one = let parts = both (p y) (list_all p ys) all in rw parts.0 (all_true_push p ys x parts.1 one)
  where
    both : (a b : Bool) → IsTrue (a && b) → (a ≡ true) × IsTrue b
    both true b h = (refl, h)
    both false b h = absurd cc

-- ---- sound data

abbrev pub counts_of : Draft → List ℕ
counts_of d = d.elems ∷ map (λ (type : List ℕ × ℕ). type.1) d.types

-- the tile has this many elements, with zeros if no record has it
abbrev pub HasLength : ℕ → Option (List ℤ) → Type 0
HasLength elements tile = length (unwrap_or tile (replicate elements (pos 0))) ≡ elements

pub record IsSoundColl (counts : List ℕ) (c : GrowingColl) : Type 0 where
  pub datatype : c.datatype < length counts
  pub elements : get_or counts c.datatype 0 ≡ c.elements
  pub has_tiles : 1 ≤ tile_count c.shape.0 c.shape.1
  pub tiles_at_most : tile_count c.shape.0 c.shape.1 ≤ 65536
  pub all_tiles : length c.tiles ≡ tile_count c.shape.0 c.shape.1
  pub lengths : AllByRecursion (HasLength c.elements) c.tiles

abbrev pub elements_in : GrowingColl → ℕ
elements_in c = length c.tiles * c.elements

pub record IsSound (d : Draft) : Type 0 where
  pub types_at_most : length d.types ≤ 15
  pub counts : IsTrue (list_all is_element_count (counts_of d))
  pub colls : AllByRecursion (IsSoundColl (counts_of d)) d.colls
  pub total : sum_by elements_in d.colls ≡ d.elements
  pub at_most : d.elements ≤ 16777216

-- ---- at the end

well_coll : (counts : List ℕ) (c : GrowingColl) → IsSoundColl counts c → IsWellColl counts (finished c)
well_coll counts c sound =
    let zeros = λ (tile : Option (List ℤ)). unwrap_or tile (replicate c.elements (pos 0)) in
    record {
      datatype = sound.datatype;
      whole = record { has_tiles = sound.has_tiles; all_tiles = length-map c.tiles zeros ∙ sound.all_tiles };
      tiles_at_most = sound.tiles_at_most;
      tile_lengths = all_map zeros (HasLength c.elements)
          (λ (tile : List ℤ). length tile ≡ get_or counts c.datatype 0) c.tiles (λ tile h. h ∙ sym sound.elements)
          sound.lengths;
    }

same_total : (counts : List ℕ) (colls : List GrowingColl) → AllByRecursion (IsSoundColl counts) colls
    → element_total counts (map finished colls) ≡ sum_by elements_in colls
same_total counts [] all = refl
same_total counts (c ∷ cs) all =
    let f = λ (coll : Coll). length coll.tiles * get_or counts coll.datatype 0 in
    let rest = same_total counts cs all.1 in
    let zeros = λ (tile : Option (List ℤ)). unwrap_or tile (replicate c.elements (pos 0)) in
    let one : f (finished c) ≡ elements_in c = ap (λ n. n * get_or counts c.datatype 0) (length-map c.tiles zeros)
    ∙ ap (λ n. length c.tiles * n) all.0.elements in
    sum_by-cons f (finished c) (map finished cs) ∙ ap (λ n. n + sum_by f (map finished cs)) one
    ∙ ap (λ n. elements_in c + n) rest ∙ sym (sum_by-cons elements_in c cs)

pub well_made : (d : Draft) (records : ℕ) → IsSound d → IsWellMade (data_after records d)
well_made d records sound =
    let total = same_total (counts_of d) d.colls sound.colls ∙ sound.total in
    let few = sound.at_most in
    record {
      types_at_most = sound.types_at_most;
      element_counts = sound.counts;
      colls = all_map finished (IsSoundColl (counts_of d)) (IsWellColl (counts_of d)) d.colls (well_coll (counts_of d)) sound.colls;
      elements_at_most = omega arith;
    }
