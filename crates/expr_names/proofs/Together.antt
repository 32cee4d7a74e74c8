-- Two parts of an expression together, from what is returned for each.
use Rattle.std.proofs.Common.{Ok, Err, refl}
use Rattle.ptg_base.specs.declared.refusal.Refusal.{Refusal}
use Rattle.ptg_base.specs.declared.refusal.Refusal.TheVariants.{Fault, OutOfMemory}
use Rattle.ptg_base.specs.Returns.{Returns}
use Rattle.jdf_lex.specs.declared.fault.JdfFault.{JdfFault}
use Rattle.expr_names.specs.Symbols.{Resolved}
use Rattle.expr_names.specs.Expressions.{together}
use Rattle.expr_names.specs.Refusals.{reported_refusal}

module _ {A B : Type 0} (reported : JdfFault → JdfFault → JdfFault) where
  pub both_there : (a : A) (b : B) (p : Resolved A) (q : Resolved B) → Returns {X = A} {Y = A} (λ x. x) (Ok a) p
      → Returns {X = B} {Y = B} (λ x. x) (Ok b) q → Returns {X = A × B} {Y = A × B} (λ x. x) (Ok (a, b)) (together reported p q)
  both_there a b p q h k = rw (h, k) refl

  pub second_refused : (a : A) (e : Refusal JdfFault) (p : Resolved A) (q : Resolved B) → Returns {X = A} {Y = A} (λ x. x) (Ok a) p
      → Returns {X = B} {Y = B} (λ x. x) (Err e) q → Returns {X = A × B} {Y = A × B} (λ x. x) (Err e) (together reported p q)
  second_refused a OutOfMemory p q h k = tt
  second_refused a (Fault g) p q h k = rw (h, k) refl

  pub first_refused : (e : Refusal JdfFault) (b : B) (p : Resolved A) (q : Resolved B) → Returns {X = A} {Y = A} (λ x. x) (Err e) p
      → Returns {X = B} {Y = B} (λ x. x) (Ok b) q → Returns {X = A × B} {Y = A × B} (λ x. x) (Err e) (together reported p q)
  first_refused OutOfMemory b p q h k = tt
  first_refused (Fault f) b p q h k = rw (h, k) refl

  pub both_refused : (d e : Refusal JdfFault) (p : Resolved A) (q : Resolved B) → Returns {X = A} {Y = A} (λ x. x) (Err d) p
      → Returns {X = B} {Y = B} (λ x. x) (Err e) q → Returns {X = A × B} {Y = A × B} (λ x. x) (Err (reported_refusal reported d e)) (together reported p q)
  both_refused OutOfMemory e p q h k = tt
  both_refused (Fault f) OutOfMemory p q h k = tt
  both_refused (Fault f) (Fault g) p q h k = rw (h, k) refl
