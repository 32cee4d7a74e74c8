-- What the outcome of a choice, a test or a value shows.
use Rattle.std.proofs.Common.{◌≡◌, Option, Some, None, Result, Ok, Err, refl}

pub by_option : {A P : Type 0} (o : Option A) → (o ≡ None → P) → ((a : A) → o ≡ Some a → P) → P
by_option None if_none if_some = if_none refl
by_option (Some a) if_none if_some = if_some a refl

-- a fault is no value
pub no_value : {A E P : Type 0} {e : E} {a : A} → ◌≡◌ {A = Result A E} (Err e) (Ok a) → P
no_value {A} {E} {P} {e} {a} is = absurd (let none : ◌≡◌ {A = Result A E} (Err e) (Ok a) = is in cc)
