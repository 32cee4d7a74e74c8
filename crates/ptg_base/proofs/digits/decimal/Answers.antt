use Rattle.std.proofs.Common.{inl, inr, arith, refl}
use Rattle.ptg_base.proofs.DecimalDigits.{begins, no_digits, bad_digit, too_large, all_fit}
use Rattle.ptg_base.proofs.digits.decimal.Goals as goal
use Rattle.ptg_base.proofs.digits.decimal.Goals.{then-byte-lt48-via-then-byte-lt48, then-byte-lt48-via-else-byte-lt48+then-byte-gt57}
use Rattle.ptg_base.proofs.digits.decimal.Goals.{then-digit-most-via-then-digit-most, then-digit-most-via-else-digit-most+then-value-most}

pub returns-then-is_empty : goal.returns-then-is_empty
returns-then-is_empty c = no_digits c.args.most c.args.text.now (grind arith)

pub loop-byte-init : goal.loop-byte-init
loop-byte-init c = record { fits = omega arith; same = begins c.args.text.now; digits = refl }

pub returns-then-byte-lt48 : goal.returns-then-byte-lt48
returns-then-byte-lt48 c =
    bad_digit c.args.most c.args.text.now c.loop-byte.byte-index c.loop-byte.invariant.digits c.loop-byte-test.true
    (elim c.then-byte-lt48.branch [
      | then-byte-lt48-via-then-byte-lt48 w ↦ inl w.if-byte-lt48.true
      | then-byte-lt48-via-else-byte-lt48+then-byte-gt57 w ↦ inr w.if-byte-gt57.true
    ])

pub returns-then-digit-most : goal.returns-then-digit-most
returns-then-digit-most c =
    too_large c.args.most c.args.text.now c.loop-byte.byte-index c.loop-byte.value c.loop-byte.invariant.same c.loop-byte-test.true
    (elim c.then-digit-most.branch [
      | then-digit-most-via-then-digit-most w ↦ inl w.if-digit-most.true
      | then-digit-most-via-else-digit-most+then-value-most w ↦ inr w.if-value-most.true
    ])

pub returns : goal.returns
returns c =
    all_fit c.args.most c.args.text.now c.loop-byte.byte-index c.loop-byte.value (grind arith)
    c.loop-byte.invariant.same c.loop-byte.invariant.digits (omega (arith, c.loop-byte-test.false))
    c.loop-byte.invariant.fits
