-- What one more write-back replaces.
use Rattle.std.proofs.Common.{◌≡◌, ◌≢◌, ℕ, zero, suc, ◌+◌, ◌<◌, ◌≤◌, ℤ, Bool, true, false, ◌&&◌, cond, List, [], ◌∷◌}
use Rattle.std.proofs.Common.{◌++◌, length, set, slice_get, slice_index, eqb, Option, Some, None, unwrap_or, IsSomeAnd}
use Rattle.std.proofs.Common.{IfSome, refl, ap, sym, ◌∙◌, subst, arith}
use Rattle.std.proofs.lemmas.Bool.{eqb-true, false_from_ne_true}
use Rattle.std.proofs.lemmas.List.Elements.{All-pop, All-weaker}
use Rattle.std.specs.List.{All}
use Rattle.std.specs.Option.{option_map_or, option_eq}
use Rattle.ptg_base.specs.declared.place.Place.{Place}
use Rattle.ptg_base.specs.declared.edge.WriteBack.{WriteBack}
use Rattle.coll_data.specs.declared.coll.Coll.{Coll}
use Rattle.coll_data.specs.Data.{Data}
use Rattle.coll_data.specs.Replacing.{coll_with, with_tile_at}
use Rattle.coll_data.specs.Tiles.{IsRow, IsColumn, tile_index}
use Rattle.coll_data.specs.WellMade.{elements_by_type}
use Rattle.flow_meaning.specs.Final.{is_place_of, replaced_colls, replaced_data, replaced_tiles}
use Rattle.flow_meaning.specs.StateAnswer.{first_written}
use Rattle.run_answer.specs.Written.{IsWritable, with_tiles}
use Rattle.list_lemmas.proofs.Numbers.{eqb-self}

-- what was written to the place that passes a test, by these write-backs
abbrev pub written_to : List (WriteBack × List ℤ) → (Place → Bool) → Option (List ℤ)
written_to ws here = first_written here (with_tiles ws)

first_of : (b : Bool) (t tile : List ℤ) → unwrap_or (cond b (Some t) None) tile ≡ cond b t tile
first_of true t tile = refl
first_of false t tile = refl

before_it : (b : Bool) (t tile other : List ℤ) (o p : Option (List ℤ)) → unwrap_or o tile ≡ unwrap_or p other
    → unwrap_or (cond b (Some t) o) tile ≡ unwrap_or (cond b (Some t) p) other
before_it true t tile other o p e = refl
before_it false t tile other o p e = e

-- the last write-back counts if no earlier one is to the place
last_counts : (here : Place → Bool) (ws : List (WriteBack × List ℤ)) (w : WriteBack × List ℤ) (tile : List ℤ)
    → unwrap_or (written_to (ws ++ w ∷ []) here) tile ≡ unwrap_or (written_to ws here) (cond (here w.0.place) w.1 tile)
last_counts here [] w tile = first_of (here w.0.place) w.1 tile
last_counts here (v ∷ vs) w tile = before_it (here v.0.place) v.1 tile (cond (here w.0.place) w.1 tile)
    (written_to (vs ++ w ∷ []) here) (written_to vs here) (last_counts here vs w tile)

-- the tiles, numbered from k on; those whose number passes a test are replaced
abbrev marked : (ℕ → Bool) → List ℤ → ℕ → List (List ℤ) → List (List ℤ)
marked test t k [] = []
marked test t k (tile ∷ tiles) = cond (test k) t tile ∷ marked test t (suc k) tiles

marked_none : (test : ℕ → Bool) (t : List ℤ) (k : ℕ) (tiles : List (List ℤ)) → ((n : ℕ) → k ≤ n → test n ≡ false) → marked test t k tiles ≡ tiles
marked_none test t k [] h = refl
marked_none test t k (tile ∷ tiles) h =
    ap (λ b. cond b t tile ∷ marked test t (suc k) tiles) (h k (omega arith))
    ∙ ap (λ l. tile ∷ l) (marked_none test t (suc k) tiles (λ n le. h n (omega arith)))

marked_one : (test : ℕ → Bool) (t : List ℤ) (i j k : ℕ) (tiles : List (List ℤ)) → test i ≡ true
    → ((n : ℕ) → n ≢ i → test n ≡ false) → i ≡ k + j → marked test t k tiles ≡ set tiles j t
marked_one test t i j k [] holds other e = refl
marked_one test t i zero k (tile ∷ tiles) holds other e =
    let here : k ≡ i = omega arith in
    ap (λ b. cond b t tile ∷ marked test t (suc k) tiles) (ap test here ∙ holds)
    ∙ ap (λ l. t ∷ l) (marked_none test t (suc k) tiles (λ n le. other n (λ same. omega arith)))
marked_one test t i (suc j) k (tile ∷ tiles) holds other e =
    ap (λ b. cond b t tile ∷ marked test t (suc k) tiles) (other k (λ same. omega arith))
    ∙ ap (λ l. tile ∷ l) (marked_one test t i j (suc k) tiles holds other (omega arith))

eqb_other : (i n : ℕ) → n ≢ i → eqb i n ≡ false
eqb_other i n ne = false_from_ne_true (eqb i n) (λ h. ne (sym (eqb-true i n h)))

module _ (ws : List (WriteBack × List ℤ)) (w : WriteBack × List ℤ) where
  abbrev before : (Place → Bool) → Option (List ℤ)
  before = written_to ws

  abbrev after : (Place → Bool) → Option (List ℤ)
  after = written_to (ws ++ w ∷ [])

  abbrev place : Place
  place = w.0.place

  -- whether the last write-back is to the tile with this index
  abbrev is_here : ℕ → Coll → ℕ → Bool
  is_here c x k = is_place_of c x k w.0.place

  tiles_after : (c : ℕ) (x : Coll) (k : ℕ) (tiles : List (List ℤ))
      → replaced_tiles after c x k tiles ≡ replaced_tiles before c x k (marked (is_here c x) w.1 k tiles)
  tiles_after c x k [] = refl
  tiles_after c x k (tile ∷ tiles) =
      ap (λ l. l ∷ replaced_tiles after c x (suc k) tiles) (last_counts (is_place_of c x k) ws w tile)
      ∙ ap (λ l. unwrap_or (before (is_place_of c x k)) (cond (is_here c x k) w.1 tile) ∷ l) (tiles_after c x (suc k) tiles)

  -- in another collection nothing is replaced
  elsewhere : (c : ℕ) (x : Coll) → eqb place.coll c ≡ false → replaced_tiles after c x 0 x.tiles ≡ replaced_tiles before c x 0 x.tiles
  elsewhere c x other =
      tiles_after c x 0 x.tiles
      ∙ ap (replaced_tiles before c x 0) (marked_none (is_here c x) w.1 0 x.tiles
      (λ n le. ap (λ b. b && option_eq eqb (tile_index x.shape.0 x.shape.1 place.i place.j) (Some n)) other))

  marked_index : (o : Option ℕ) (tiles : List (List ℤ)) → marked (λ n. option_eq eqb o (Some n)) w.1 0 tiles ≡ option_map_or (λ n. set tiles n w.1) o tiles
  marked_index None tiles = marked_none (λ n. false) w.1 0 tiles (λ n le. refl)
  marked_index (Some i) tiles = marked_one (eqb i) w.1 i i 0 tiles (eqb-self i) (λ n ne. eqb_other i n ne) (omega arith)

  same_marks : (p q : ℕ → Bool) (t : List ℤ) (k : ℕ) (tiles : List (List ℤ)) → ((n : ℕ) → p n ≡ q n) → marked p t k tiles ≡ marked q t k tiles
  same_marks p q t k [] e = refl
  same_marks p q t k (tile ∷ tiles) e = ap (λ b. cond b t tile ∷ marked p t (suc k) tiles) (e k)
      ∙ ap (λ l. cond (q k) t tile ∷ l) (same_marks p q t (suc k) tiles e)

  -- in its collection the tile at the place is replaced
  here_in : (c : ℕ) (x : Coll) → eqb place.coll c ≡ true → replaced_tiles after c x 0 x.tiles
      ≡ replaced_tiles before c x 0 (coll_with x place.i place.j w.1).tiles
  here_in c x same =
      tiles_after c x 0 x.tiles
      ∙ ap (replaced_tiles before c x 0)
      (same_marks (is_here c x) (λ n. option_eq eqb (tile_index x.shape.0 x.shape.1 place.i place.j) (Some n)) w.1 0
      x.tiles (λ n. ap (λ b. b && option_eq eqb (tile_index x.shape.0 x.shape.1 place.i place.j) (Some n)) same)
      ∙ marked_index (tile_index x.shape.0 x.shape.1 place.i place.j) x.tiles)

  colls_past : (c : ℕ) (xs : List Coll) → place.coll < c → replaced_colls after c xs ≡ replaced_colls before c xs
  colls_past c [] lt = refl
  colls_past c (x ∷ xs) lt =
      ap (λ (l : List (List ℤ)). record x { tiles = l } ∷ replaced_colls after (suc c) xs) (elsewhere c x (eqb_other place.coll c (λ same. omega arith)))
      ∙ ap (λ l. record x { tiles = replaced_tiles before c x 0 x.tiles } ∷ l) (colls_past (suc c) xs (omega arith))

  -- the collections with the one at an index changed
  abbrev changed : ℕ → List Coll → List Coll
  changed j xs = option_map_or (λ x. set xs j (coll_with x place.i place.j w.1)) (slice_get xs j) xs

  changed_next : (x : Coll) (xs : List Coll) (j : ℕ) (o : Option Coll)
      → option_map_or (λ y. set (x ∷ xs) (suc j) (coll_with y place.i place.j w.1)) o (x ∷ xs)
      ≡ x ∷ option_map_or (λ y. set xs j (coll_with y place.i place.j w.1)) o xs
  changed_next x xs j None = refl
  changed_next x xs j (Some y) = refl

  colls_at : (c j : ℕ) (xs : List Coll) → place.coll ≡ c + j → replaced_colls after c xs ≡ replaced_colls before c (changed j xs)
  colls_at c zero [] e = refl
  colls_at c (suc j) [] e = refl
  colls_at c zero (x ∷ xs) e =
      let here : place.coll ≡ c = omega arith in
      ap (λ (l : List (List ℤ)). record x { tiles = l } ∷ replaced_colls after (suc c) xs)
      (here_in c x (subst (λ n. eqb place.coll n ≡ true) here (eqb-self place.coll)))
      ∙ ap (λ l. record x { tiles = replaced_tiles before c x 0 (coll_with x place.i place.j w.1).tiles } ∷ l) (colls_past (suc c) xs (omega arith))
  colls_at c (suc j) (x ∷ xs) e =
      ap (λ (l : List (List ℤ)). record x { tiles = l } ∷ replaced_colls after (suc c) xs) (elsewhere c x (eqb_other place.coll c (λ same. omega arith)))
      ∙ ap (λ l. record x { tiles = replaced_tiles before c x 0 x.tiles } ∷ l) (colls_at (suc c) j xs (omega arith))
      ∙ ap (replaced_colls before c) (sym (changed_next x xs j (slice_get xs j)))

  -- replacing with one more write-back is to write it to the data first
  pub one_more : (d : Data) → replaced_data after d ≡ replaced_data before (with_tile_at d w.0.place w.1)
  one_more d = ap (λ xs. record d { colls = xs }) (colls_at 0 place.coll d.colls (omega arith))

none_in_tiles : (c : ℕ) (x : Coll) (k : ℕ) (tiles : List (List ℤ)) → replaced_tiles (written_to []) c x k tiles ≡ tiles
none_in_tiles c x k [] = refl
none_in_tiles c x k (tile ∷ tiles) = ap (λ l. tile ∷ l) (none_in_tiles c x (suc k) tiles)

none_in_colls : (c : ℕ) (xs : List Coll) → replaced_colls (written_to []) c xs ≡ xs
none_in_colls c [] = refl
none_in_colls c (x ∷ xs) =
    ap (λ (l : List (List ℤ)). record x { tiles = l } ∷ replaced_colls (written_to []) (suc c) xs)
    (none_in_tiles c x 0 x.tiles) ∙ ap (λ l. x ∷ l) (none_in_colls (suc c) xs)

-- without write-backs the data stay the same
pub no_more : (d : Data) → replaced_data (written_to []) d ≡ d
no_more d = ap (λ xs. record d { colls = xs }) (none_in_colls 0 d.colls)

-- what holds of the element at an index still does after an element is replaced, if it holds of the new one too
kept_set : {A : Type 0} (P : Option A → Type 0) (xs : List A) (k q : ℕ) (x y : A) → slice_get xs k ≡ Some x
    → (P (Some x) → P (Some y)) → P (slice_get xs q) → P (slice_get (set xs k y) q)
kept_set P [] k q x y there h p = p
kept_set P (z ∷ zs) zero zero x y there h p = let same : z ≡ x = cc in h (subst (λ v. P (Some v)) same p)
kept_set P (z ∷ zs) zero (suc q) x y there h p = p
kept_set P (z ∷ zs) (suc k) zero x y there h p = p
kept_set P (z ∷ zs) (suc k) (suc q) x y there h p = kept_set P zs k q x y there h p

module _ (d : Data) (p : Place) (t : List ℤ) where
  kept_at : (P : Option Coll → Type 0) → ((x : Coll) → P (Some x) → P (Some (coll_with x p.i p.j t))) → (q : ℕ)
      → P (slice_get d.colls q) → P (slice_get (with_tile_at d p t).colls q)
  kept_at P h q have = by (slice_get d.colls p.coll) refl
    where
      by : (o : Option Coll) → slice_get d.colls p.coll ≡ o → P (slice_get (option_map_or (λ x. set d.colls p.coll (coll_with x p.i p.j t)) o d.colls) q)
      by None e = have
      by (Some x) e = kept_set P d.colls p.coll q x (coll_with x p.i p.j t) e (h x) have

  -- the other write-backs may still be made
  pub still_writable : (v : WriteBack × List ℤ) → IsWritable d v → IsWritable (with_tile_at d p t) v
  still_writable v w = record {
    exists = kept_at (λ o. IsSomeAnd o (λ (c : Coll). IsRow c.shape.0 v.0.place.i × IsColumn c.shape.1 v.0.place.j)) (λ x h. h) v.0.place.coll w.exists;
    elements = kept_at (λ o. IfSome o (λ (c : Coll). length v.1 ≡ slice_index (elements_by_type d) c.datatype)) (λ x h. h) v.0.place.coll w.elements;
  }

-- the last of the write-backs may be made, and after it the others
pub last_of : (d : Data) (ws rest : List (WriteBack × List ℤ)) (w : WriteBack × List ℤ) → ws ≡ rest ++ w ∷ [] → All (IsWritable d) ws → IsWritable d w
last_of d ws rest w e all = (All-pop (IsWritable d) ws rest (Some w) e all).1

pub still_all : (d : Data) (p : Place) (t : List ℤ) (ws rest : List (WriteBack × List ℤ)) (w : WriteBack × List ℤ)
    → ws ≡ rest ++ w ∷ [] → All (IsWritable d) ws → All (IsWritable (with_tile_at d p t)) rest
still_all d p t ws rest w e all = All-weaker (IsWritable d) (IsWritable (with_tile_at d p t)) (still_writable d p t)
    rest ((All-pop (IsWritable d) ws rest (Some w) e all).0)

-- What the first list wrote counts before what the second one did.
earlier_counts : (here : Place → Bool) (vs ws : List (WriteBack × List ℤ)) (tile : List ℤ)
    → unwrap_or (written_to (vs ++ ws) here) tile ≡ unwrap_or (written_to vs here) (unwrap_or (written_to ws here) tile)
earlier_counts here [] ws tile = refl
earlier_counts here (v ∷ vs) ws tile = before_it (here v.0.place) v.1 tile (unwrap_or (written_to ws here) tile)
    (written_to (vs ++ ws) here) (written_to vs here) (earlier_counts here vs ws tile)

module _ (vs ws : List (WriteBack × List ℤ)) where
  tiles_twice : (c : ℕ) (x : Coll) (k : ℕ) (tiles : List (List ℤ))
      → replaced_tiles (written_to (vs ++ ws)) c x k tiles ≡ replaced_tiles (written_to vs) c x k
      (replaced_tiles (written_to ws) c x k tiles)
  tiles_twice c x k [] = refl
  tiles_twice c x k (tile ∷ tiles) = λ i. earlier_counts (is_place_of c x k) vs ws tile i ∷ tiles_twice c x (suc k) tiles i

  colls_twice : (c : ℕ) (xs : List Coll) → replaced_colls (written_to (vs ++ ws)) c xs ≡ replaced_colls (written_to vs) c (replaced_colls (written_to ws) c xs)
  colls_twice c [] = refl
  colls_twice c (x ∷ xs) = λ i. record x { tiles = tiles_twice c x 0 x.tiles i } ∷ colls_twice (suc c) xs i

  -- two lists of write-backs are made one after the other
  pub replaced_twice : (d : Data) → replaced_data (written_to (vs ++ ws)) d ≡ replaced_data (written_to vs) (replaced_data (written_to ws) d)
  replaced_twice d = ap (λ xs. record d { colls = xs }) (colls_twice 0 d.colls)

module _ (ws : List (WriteBack × List ℤ)) where
  kept_replaced : (P : Option Coll → Type 0) → ((x : Coll) (tiles : List (List ℤ)) → P (Some x)
      → P (Some (record x { tiles = tiles }))) → (c : ℕ) (xs : List Coll) (q : ℕ) → P (slice_get xs q)
      → P (slice_get (replaced_colls (written_to ws) c xs) q)
  kept_replaced P h c [] q p = p
  kept_replaced P h c (x ∷ xs) zero p = h x (replaced_tiles (written_to ws) c x 0 x.tiles) p
  kept_replaced P h c (x ∷ xs) (suc q) p = kept_replaced P h (suc c) xs q p

  -- what may be written may still be written after others were
  pub replaced_writable : (d : Data) (v : WriteBack × List ℤ) → IsWritable d v → IsWritable (replaced_data (written_to ws) d) v
  replaced_writable d v w = record {
    exists = kept_replaced (λ o. IsSomeAnd o (λ (c : Coll). IsRow c.shape.0 v.0.place.i
        × IsColumn c.shape.1 v.0.place.j)) (λ x tiles h. h) 0 d.colls v.0.place.coll w.exists;
    elements = kept_replaced (λ o. IfSome o (λ (c : Coll). length v.1 ≡ slice_index (elements_by_type d) c.datatype))
        (λ x tiles h. h) 0 d.colls v.0.place.coll w.elements;
  }
