-- The value of a binary operation is within the bound that the bounds of its operands give.
use Rattle.std.proofs.Common.{◌≡◌, ◌≢◌, ◌+◌, ◌*◌, ◌/◌, ◌%◌, ◌≤◌, ◌<◌, ℕ, zero, suc, ℤ, pos, negsuc, ◌+ℤ◌, ◌-ℤ◌, ◌*ℤ◌, neg_ℤ}
use Rattle.std.proofs.Common.{Bool, true, false, ◌&&◌, ◌||◌, refl, sym, ◌∙◌, Some, None, Result, Ok, Err, arith}
use Rattle.std.specs.Prelude.{IsOkAnd, unsigned_abs, if◌then◌else◌, int_div, int_rem}
use Rattle.std.specs.Option.{option_map_or}
use Rattle.std.specs.Ordering.{int_eq}
use Rattle.std.proofs.lemmas.Bool.{false≢true}
use Rattle.std.proofs.lemmas.Bool.Decides.{Decides-int_eq, nat_tests}
use Rattle.std.proofs.lemmas.Int.{ints, unsigned_abs-mul}
use Rattle.std.proofs.lemmas.Nat.{mul-le}
use Rattle.std.proofs.Math.Nat.{div-le_self, mod-le}
use Rattle.term_core.specs.Arith.{divided, fitted, holds, is_number, truth}
use Rattle.term_core.specs.Term.{Term, Binary}
use Rattle.term_core.specs.Value.{binary_with, map_fault, value}
use Rattle.term_core.specs.ValueBounds.{HasBound, IsAtMost, IsBoundBy, IsWithin}
use Rattle.term_core.specs.declared.fault.ExprFault.{ExprFault}
use Rattle.term_core.specs.declared.operator.BinOp.{BinOp}
use Rattle.term_core.specs.declared.operator.BinOp.TheVariants.{Add, Sub, Mul, Div, Rem, Eq, Ne, Lt, Le, Gt, Ge, And, Or}
use Rattle.term_core.specs.declared.value_bound.ValueBound.{ValueBound}

-- a whole number within a bound fits 64 bits
fits : (z : ℤ) (n : ℕ) → unsigned_abs z ≤ n → n < 9223372036854775808 → is_number z ≡ true
fits (pos k) n h l = grind (arith, nat_tests)
fits (negsuc k) n h l = grind (arith, nat_tests)

within : (r : ValueBound) (z : ℤ) → r.nonzero ≡ false → unsigned_abs z ≤ r.most → IsWithin r z
within r z e h = record { at_most = h; nonzero = λ k. absurd (false≢true (sym e ∙ k)) }

fitted_within : (r : ValueBound) (z : ℤ) → r.nonzero ≡ false → unsigned_abs z ≤ r.most → IsOkAnd (map_fault (λ (f : ExprFault). f) (fitted z)) (IsWithin r)
fitted_within r z e h = rw (fits z r.most h r.fits) (within r z e h)

-- absolute values
abs_add : (y z : ℤ) (m n : ℕ) → unsigned_abs y ≤ m → unsigned_abs z ≤ n → unsigned_abs (y +ℤ z) ≤ m + n
abs_add y z m n p q = grind (arith, ints)

abs_sub : (y z : ℤ) (m n : ℕ) → unsigned_abs y ≤ m → unsigned_abs z ≤ n → unsigned_abs (y -ℤ z) ≤ m + n
abs_sub y z m n p q = grind (arith, ints)

abs_neg : (z : ℤ) → unsigned_abs (neg_ℤ z) ≡ unsigned_abs z
abs_neg (pos zero) = refl
abs_neg (pos (suc n)) = refl
abs_neg (negsuc n) = refl

abs_mul : (y z : ℤ) (m n : ℕ) → unsigned_abs y ≤ m → unsigned_abs z ≤ n → unsigned_abs (y *ℤ z) ≤ m * n
abs_mul y z m n p q = rw (unsigned_abs-mul y z) (mul-le (unsigned_abs y) (unsigned_abs z) m n p q)

abs_div : (y z : ℤ) → unsigned_abs (int_div y z) ≤ unsigned_abs y
abs_div (pos a) (pos b) = div-le_self a b
abs_div (pos a) (negsuc b) = rw (abs_neg (pos (a / suc b))) (div-le_self a (suc b))
abs_div (negsuc a) (pos b) = rw (abs_neg (pos (suc a / b))) (div-le_self (suc a) b)
abs_div (negsuc a) (negsuc b) = div-le_self (suc a) (suc b)

abs_rem : (y z : ℤ) → unsigned_abs (int_rem y z) ≤ unsigned_abs y
abs_rem (pos a) z = mod-le a (unsigned_abs z)
abs_rem (negsuc a) z = rw (abs_neg (pos (suc a % unsigned_abs z))) (mod-le (suc a) (unsigned_abs z))

refuted : (b : Bool) → (b ≡ true → ⊥) → b ≡ false
refuted true h = absurd (h refl)
refuted false h = refl

-- a number other than 0 is not equal to 0
pub is_nonzero : (z : ℤ) → z ≢ pos 0 → int_eq z (pos 0) ≡ false
is_nonzero z h = refuted (int_eq z (pos 0)) (λ e. h ((Decides-int_eq z (pos 0)).0 e))

divided_within : (r : ValueBound) (y z w : ℤ) → r.nonzero ≡ false → unsigned_abs y ≤ r.most → z ≢ pos 0 → unsigned_abs w ≤ unsigned_abs y
    → IsOkAnd (map_fault (λ (f : ExprFault). f) (divided y z w)) (IsWithin r)
divided_within r y z w e h nonzero le =
    let d = abs_div y z in
    rw (is_nonzero z nonzero, fits (int_div y z) r.most (omega arith) r.fits) (within r w e (omega arith))

truth_within : (t : Bool) (r : ValueBound) → IsAtMost 1 r → IsWithin r (truth t)
truth_within true r h = let e = h.0 in within r (pos 1) h.1 (omega arith)
truth_within false r h = let e = h.0 in within r (pos 0) h.1 (omega arith)

abbrev number : ℤ → Result ℤ ExprFault
number z = Ok z

and_within : (b c : Bool) (r : ValueBound) → IsAtMost 1 r
    → IsOkAnd (option_map_or number (if b then None else Some (pos 0)) (Ok (truth (b && c)))) (IsWithin r)
and_within true c r h = truth_within c r h
and_within false c r h = truth_within false r h

or_within : (b c : Bool) (r : ValueBound) → IsAtMost 1 r
    → IsOkAnd (option_map_or number (if b then Some (pos 1) else None) (Ok (truth (b || c)))) (IsWithin r)
or_within true c r h = truth_within true r h
or_within false c r h = truth_within c r h

-- an operation on values within bounds
operation_within : (op : BinOp) (a b r : ValueBound) → IsBoundBy op a b r → (y z : ℤ) → IsWithin a y → IsWithin b z
    → IsOkAnd (binary_with (λ (f : ExprFault). f) op (Ok y) (Ok z)) (IsWithin r)
operation_within Add a b r h y z p q = fitted_within r (y +ℤ z) h.1 (rw h.0 (abs_add y z a.most b.most p.at_most q.at_most))
operation_within Sub a b r h y z p q = fitted_within r (y -ℤ z) h.1 (rw h.0 (abs_sub y z a.most b.most p.at_most q.at_most))
operation_within Mul a b r h y z p q = fitted_within r (y *ℤ z) h.1 (rw h.0 (abs_mul y z a.most b.most p.at_most q.at_most))
operation_within Div a b r h y z p q = divided_within r y z (int_div y z) h.1.1 (rw h.1.0 p.at_most) (q.nonzero h.0) (abs_div y z)
operation_within Rem a b r h y z p q = divided_within r y z (int_rem y z) h.1.1 (rw h.1.0 p.at_most) (q.nonzero h.0) (abs_rem y z)
operation_within Eq a b r h y z p q = truth_within _ r h
operation_within Ne a b r h y z p q = truth_within _ r h
operation_within Lt a b r h y z p q = truth_within _ r h
operation_within Le a b r h y z p q = truth_within _ r h
operation_within Gt a b r h y z p q = truth_within _ r h
operation_within Ge a b r h y z p q = truth_within _ r h
operation_within And a b r h y z p q = and_within (holds y) (holds z) r h
operation_within Or a b r h y z p q = or_within (holds y) (holds z) r h

both_within : (op : BinOp) (a b r : ValueBound) → IsBoundBy op a b r → (left right : Result ℤ ExprFault)
    → IsOkAnd left (IsWithin a) → IsOkAnd right (IsWithin b)
    → IsOkAnd (binary_with (λ (f : ExprFault). f) op left right) (IsWithin r)
both_within op a b r h (Ok y) (Ok z) p q = operation_within op a b r h y z p q
both_within op a b r h (Ok y) (Err e) p q = absurd q
both_within op a b r h (Err e) right p q = absurd p

pub binary_bounded : (op : BinOp) (a b r : ValueBound) → IsBoundBy op a b r → (e f : Term) → HasBound e a → HasBound f b → HasBound (Binary op e f) r
binary_bounded op a b r h e f p q = record {
  within = λ locals small. both_within op a b r h (value e locals) (value f locals) (p.within locals small) (q.within locals small);
}
