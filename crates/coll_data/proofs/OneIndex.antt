-- The index of a tile is that of one place alone.
use Rattle.std.proofs.Common.{◌≡◌, ℕ, ◌+◌, ◌*◌, ◌<◌, ℤ, pos, negsuc, Bool, true, false, cond, nat_lt, refl, ap, sym, ◌∙◌, subst, Option, Some, None, arith}
use Rattle.std.specs.Prelude.{option_map}
use Rattle.std.proofs.lemmas.Bool.{ltb-true}
use Rattle.std.proofs.lemmas.Nat.{same_from_place}
use Rattle.ptg_base.specs.Index.{index_in}
use Rattle.coll_data.specs.Tiles.{tile_index}
use Rattle.list_lemmas.proofs.Options.{from_option_and_then, from_option_map}

-- the number that an index comes from
pub record IsBelow (limit n : ℕ) (z : ℤ) : Type 0 where
  pub is : z ≡ pos n
  pub within : n < limit

pub index_in_is : (limit : ℕ) (z : ℤ) (n : ℕ) → index_in limit z ≡ Some n → IsBelow limit n z
index_in_is limit (pos m) n e = by (nat_lt m limit) refl e
  where
    by : (b : Bool) → nat_lt m limit ≡ b → cond b (Some m) None ≡ Some n → IsBelow limit n (pos m)
    by true h e = let same : m ≡ n = cc in record { is = ap pos same; within = subst (λ k. k < limit) same (ltb-true m limit h) }
    by false h e = absurd cc
index_in_is limit (negsuc m) n e = absurd cc

pub one_index : (rows : ℕ) (cols : Option ℕ) (i j u v : ℤ) (k : ℕ) → tile_index rows cols i j ≡ Some k → tile_index rows cols u v ≡ Some k → (i ≡ u) × (j ≡ v)
one_index rows None i j u v k e f =
    let p = from_option_and_then (λ (column : ℕ). index_in rows i) (index_in 1 j) k e in
    let q = from_option_and_then (λ (column : ℕ). index_in rows u) (index_in 1 v) k f in
    let a = index_in_is 1 j p.0 p.1 in
    let b = index_in_is 1 v q.0 q.1 in
    let same : p.0 ≡ q.0 = omega (arith, a.within, b.within) in
    ((index_in_is rows i k p.2).is ∙ sym (index_in_is rows u k q.2).is, a.is ∙ ap pos same ∙ sym b.is)
one_index rows (Some cols) i j u v k e f =
    let p = from_option_and_then (λ column. option_map (λ row. row * cols + column) (index_in rows i)) (index_in cols j) k e in
    let q = from_option_and_then (λ column. option_map (λ row. row * cols + column) (index_in rows u)) (index_in cols v) k f in
    let r = from_option_map (λ row. row * cols + p.0) (index_in rows i) k p.2 in
    let s = from_option_map (λ row. row * cols + q.0) (index_in rows u) k q.2 in
    let a = index_in_is cols j p.0 p.1 in
    let b = index_in_is cols v q.0 q.1 in
    let same = same_from_place r.0 p.0 s.0 q.0 cols a.within b.within (r.2 ∙ sym s.2) in
    ((index_in_is rows i r.0 r.1).is ∙ ap pos same.0 ∙ sym (index_in_is rows u s.0 s.1).is, a.is ∙ ap pos same.1 ∙ sym b.is)
