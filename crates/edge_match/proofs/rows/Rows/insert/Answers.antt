use Rattle.std.proofs.Common.{◌≡◌, ◌↔◌, ◌<◌, ◌+◌, ◌*◌, ◌⊎◌, ℕ, zero, suc, ℤ, pos, negsuc, ◌≤ℤ◌, List, [], ◌∷◌, Bool}
use Rattle.std.proofs.Common.{true, false, length, slice_index_or, slice_set, unsigned_abs, IsTrue, FitsSigned, w64}
use Rattle.std.proofs.Common.{inl, inr, refl, ap, ◌∙◌, sym, rules, arith}
use Rattle.std.proofs.lemmas.Int.{ints, to_z-of_z}
use Rattle.std.proofs.lemmas.Nat.{same_from_place}
use Rattle.plan_core.specs.Place.{IsRow}
use Rattle.edge_match.proofs.rows.Rows.insert.Goals as goal

set_bit : (bits : List Bool) (m n : ℕ) → m < length bits
    → IsTrue (slice_index_or (slice_set bits m true) n false) ↔ (IsTrue (slice_index_or bits n false) ⊎ (n ≡ m))
set_bit [] m n h = absurd (omega arith)
set_bit (b ∷ bits) zero zero h = (λ w. inr refl, λ w. refl)
set_bit (b ∷ bits) zero (suc n) h = (λ w. inl w, λ w. elim w [ inl a ↦ a | inr e ↦ absurd cc ])
set_bit (b ∷ bits) (suc m) zero h = (λ w. inl w, λ w. elim w [ inl a ↦ a | inr e ↦ absurd cc ])
set_bit (b ∷ bits) (suc m) (suc n) h =
    let r = set_bit bits m n (omega arith) in
    (λ w. elim (r.0 w) [ inl a ↦ inl a | inr e ↦ inr (ap suc e) ], λ w. r.1 (elim w [ inl a ↦ inl a | inr e ↦ inr cc ]))

-- the absolute value of a valid row is below the number of rows
abs_below : (i : ℤ) (n : ℕ) → IsRow n i → unsigned_abs i < n
abs_below (pos k) n h = let r = h.1 in omega (arith, ints)
abs_below (negsuc k) n h = let r = h.0 in absurd (omega (arith, ints))

one_abs : (a b : ℤ) → pos 0 ≤ℤ a → pos 0 ≤ℤ b → unsigned_abs a ≡ unsigned_abs b → a ≡ b
one_abs (pos k) (pos l) h r e = ap pos e
one_abs (pos k) (negsuc l) h r e = absurd (omega (arith, ints))
one_abs (negsuc k) b h r e = absurd (omega (arith, ints))

pub returns-clause-added : goal.returns-clause-added
returns-clause-added c = λ within k l place.
    let s = c.args.self.now in
    let i = c.args.i in
    let j = c.args.j in
    let f : FitsSigned w64 i = search rules in
    let g : FitsSigned w64 j = search rules in
    let e = simp to_z-of_z at c.in-Some.ensures.0 in
    let w = set_bit s.has.items c.in-Some.k (unsigned_abs k * s.cols + unsigned_abs l) c.in-Some.ensures.1 in (
      λ h. elim (w.0 h) [
        | inl a ↦ inl a
        | inr q ↦
            let f = abs_below l s.cols place.1 in
            let g = abs_below j s.cols within.1 in
            let p = same_from_place (unsigned_abs k) (unsigned_abs l) (unsigned_abs i) (unsigned_abs j) s.cols f g (q ∙ e) in
            inr (one_abs k i place.0.0 within.0.0 p.0, one_abs l j place.1.0 within.1.0 p.1)
      ],
      λ h. w.1 (elim h [
        | inl a ↦ inl a
        | inr q ↦ inr (ap (λ n. unsigned_abs n * s.cols + unsigned_abs l) q.0 ∙ ap (λ n. unsigned_abs i * s.cols + unsigned_abs n) q.1 ∙ sym e)
      ]),
    )
