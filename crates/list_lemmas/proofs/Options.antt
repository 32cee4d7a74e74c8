-- Options and results: what is known of the value inside.
use Rattle.std.proofs.Common.{None, Option, Some, refl, ◌≡◌, IsSomeAnd, option_and_then, option_map, ℕ}
use Rattle.std.proofs.Common.{◌+◌, false, is_some, subst, Err}
use Rattle.std.proofs.lemmas.Option.{same_Some}
use Rattle.std.specs.Option.{IsSome}
use Rattle.std.specs.Prelude.{Ok, OnOk, Result}
use Rattle.ptg_base.specs.Returns.{and_then}

pub some_value : {A : Type 0} (o : Option A) → IsSome o → (x : A) × (o ≡ Some x)
some_value None h = absurd cc
some_value (Some x) h = (x, refl)

pub from_is_some_and : {A : Type 0} (o : Option A) (Q : A → Type 0) → IsSomeAnd o Q → (x : A) × (o ≡ Some x) × Q x
from_is_some_and None Q h = absurd h
from_is_some_and (Some x) Q h = (x, refl, h)

pub from_option_and_then : {A B : Type 0} (f : A → Option B) (o : Option A) (y : B) → option_and_then f o ≡ Some y
    → (x : A) × (o ≡ Some x) × (f x ≡ Some y)
from_option_and_then f None y e = absurd cc
from_option_and_then f (Some x) y e = (x, refl, e)

pub from_option_map : {A B : Type 0} (f : A → B) (o : Option A) (z : B) → option_map f o ≡ Some z
    → (x : A) × (o ≡ Some x) × (f x ≡ z)
from_option_map f None z e = absurd cc
from_option_map f (Some x) z e = (x, refl, same_Some (f x) z e)

pub IsSome-option_map : {A B : Type 0} (f : A → B) (o : Option A) → IsSome o → IsSome (option_map f o)
IsSome-option_map f None h = absurd cc
IsSome-option_map f (Some x) h = refl

pub none_from_option_map : {A B : Type 0} (f : A → B) (o : Option A) → option_map f o ≡ None → o ≡ None
none_from_option_map f None e = refl
none_from_option_map f (Some x) e = absurd cc

pub some_from_one_more : (o : Option ℕ) (at : ℕ) → option_map (λ n. n + 1) o ≡ Some at
    → (m : ℕ) × (o ≡ Some m) × (m + 1 ≡ at)
some_from_one_more None at e = absurd cc
some_from_one_more (Some m) at e = (m, refl, cc)

-- equal `Ok`s hold the same value, equal `Err`s the same fault, and an `Ok` is no `Err`
pub same_Ok : {A E : Type 0} (x y : A) → ◌≡◌ {A = Result A E} (Ok x) (Ok y) → x ≡ y
same_Ok x y e = cc

pub same_Err : {A E : Type 0} (d e : E) → ◌≡◌ {A = Result A E} (Err d) (Err e) → d ≡ e
same_Err d e same = cc

pub Ok≢Err : {A E : Type 0} (x : A) (e : E) → ◌≡◌ {A = Result A E} (Ok x) (Err e) → ⊥
Ok≢Err x e same = cc

-- what `OnOk` says of a result holds if that is an `Ok`
pub on_success : {T E P : Type 0} (r : Result T E) (x : T) → r ≡ Ok x → OnOk r P → P
on_success {T} {E} {P} r x e h = subst (λ (s : Result T E). OnOk s P) e h

pub by_result : {A E P : Type 0} (r : Result A E) → ((a : A) → r ≡ Ok a → P) → ((e : E) → r ≡ Err e → P) → P
by_result (Ok a) if_ok if_err = if_ok a refl
by_result (Err e) if_ok if_err = if_err e refl

-- if two steps return a value, each of them returned one
pub steps_of : {A B F : Type 0} (r : Result A F) (next : A → Result B F) (y : B) → and_then r next ≡ Ok y
    → (x : A) × (r ≡ Ok x) × (next x ≡ Ok y)
steps_of (Ok x) next y e = (x, refl, e)
steps_of (Err f) next y e = absurd cc

pub none_of : {A : Type 0} (o : Option A) → is_some o ≡ false → o ≡ None
none_of None h = refl
none_of (Some x) h = absurd cc
