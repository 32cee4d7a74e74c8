-- A bound on the number of collections: each has an element, and all together have at most 2 ^ 24.
use Rattle.std.proofs.Common.{ℕ, zero, suc, ◌+◌, ◌*◌, ◌<◌, ◌≤◌, ◌^◌, nat_le, List, [], ◌∷◌, length, IsTrue, slice_index, arith, mul-pos}
use Rattle.std.specs.List.{AllByRecursion, list_all, fold}
use Rattle.coll_data.specs.declared.coll.Coll.{Coll}
use Rattle.coll_data.specs.Data.{Data}
use Rattle.coll_data.specs.WellMade.{is_element_count, elements_by_type, IsWellColl, element_total, IsWellMade}
use Rattle.std.specs.Cmp.{first_so, second_so}

counted : (elements : List ℕ) (n : ℕ) → IsTrue (list_all is_element_count elements) → n < length elements → 1 ≤ slice_index elements n
counted [] n h lt = omega (arith, lt)
counted (e ∷ elements) zero h lt = let k : IsTrue (nat_le 1 e) =
    first_so (nat_le 1 e) (nat_le e 4096) (first_so (is_element_count e) (list_all is_element_count elements) h) in
    grind (arith, k)
counted (e ∷ elements) (suc n) h lt = counted elements n (second_so (is_element_count e) (list_all is_element_count elements) h) (omega (arith, lt))

-- the elements of some tiles, added to a number
abbrev added : List ℕ → ℕ → List Coll → ℕ
added elements start colls = fold (λ n (c : Coll). n + length c.tiles * slice_index elements c.datatype) start colls

total : (elements : List ℕ) (start : ℕ) (colls : List Coll) → IsTrue (list_all is_element_count elements)
    → AllByRecursion (IsWellColl elements) colls → start + length colls ≤ added elements start colls
total elements start [] h k = omega arith
total elements start (c ∷ colls) h k =
    let tiles : 1 ≤ length c.tiles = omega (arith, k.0.whole.has_tiles, k.0.whole.all_tiles) in
    let first = mul-pos tiles (counted elements c.datatype h k.0.datatype) in
    let rest : (start + length c.tiles * slice_index elements c.datatype) + length colls ≤ added elements start
    (c ∷ colls) = total elements (start + length c.tiles * slice_index elements c.datatype) colls h k.1 in
    omega (arith, first, rest)

pub colls_at_most : (d : Data) → IsWellMade d → length d.colls ≤ 2 ^ 24
colls_at_most d w =
    let all : 0 + length d.colls ≤ element_total (elements_by_type d) d.colls = total (elements_by_type d) 0 d.colls w.element_counts w.colls in
    omega (arith, all, w.elements_at_most)
