use mir.Val.{of_z, to_z}
use Rattle.std.proofs.Common.{◌≡◌, ℕ, ℤ, true, List, Result, Ok, Err, sym, ◌∙◌, subst, w64}
use Rattle.std.specs.Fmt.{signed_decimal}
use Rattle.std.specs.Str.{IsAscii, IsUtf8}
use Rattle.std.specs.Str.Parse.{ParsesSigned}
use Rattle.std.proofs.lemmas.Fmt.{IsAscii-signed, parse-signed_decimal}
use Rattle.std.proofs.lemmas.Int.{to_z-of_z}
use Rattle.std.proofs.lemmas.Str.{IsUtf8-from_ascii}
use Rattle.trace_core.specs.Spelling.{is_number}
use Rattle.trace_core.proofs.Spelled.{fits_mag, fits_signed}
use Rattle.trace_core.proofs.numbers.read_number.Goals as goal

is_text : (bs : List ℕ) (z : ℤ) → is_number z ≡ true → bs ≡ signed_decimal z → IsUtf8 bs
is_text bs z fits is = IsUtf8-from_ascii bs (subst IsAscii (sym is) (IsAscii-signed z (fits_mag z fits)))

read_is : {E : Type 0} (r : Result ℤ E) (text bs : List ℕ) (z : ℤ) → is_number z ≡ true → bs ≡ signed_decimal z
    → text ≡ bs → ParsesSigned w64 10 text r → r ≡ Ok z
read_is r text bs z fits is same parses = parse-signed_decimal w64 z text r (fits_signed z fits) (fits_mag z fits) (same ∙ is) parses

same_value : {E : Type 0} (r : Result ℤ E) (n z : ℤ) → is_number z ≡ true → r ≡ Ok n → r ≡ Ok z → to_z w64 (of_z w64 n) ≡ z
same_value r n z fits h k =
    let e : Ok n ≡ Ok z = sym h ∙ k in
    let same : n ≡ z = cc in
    subst (λ m. to_z w64 (of_z w64 m) ≡ z) (sym same) (to_z-of_z w64 z (fits_signed z fits))

never : {E : Type 0} (r : Result ℤ E) (e : E) (z : ℤ) → r ≡ Err e → r ≡ Ok z → ⊥
never r e z h k = let l : Err e ≡ Ok z = sym h ∙ k in cc

pub returns-in_default : goal.returns-in_default
returns-in_default c = λ n fits is. c.in_default.ensures.cases.0 (is_text c.args.field.now n fits is)

pub returns-in-Ok-from_str_radix : goal.returns-in-Ok-from_str_radix
returns-in-Ok-from_str_radix c = λ n fits is.
    same_value c.from_str_radix.result c.in-Ok-from_str_radix.n n fits c.in-Ok-from_str_radix.is
    (read_is c.from_str_radix.result c.in-Ok.text.now c.args.field.now n fits is c.in-Ok.ensures.cases.0 c.from_str_radix.ensures.value)

pub returns-in-Err : goal.returns-in-Err
returns-in-Err c = λ n fits is.
    never c.from_str_radix.result c.in-Err.field-0 n c.in-Err.is
    (read_is c.from_str_radix.result c.in-Ok.text.now c.args.field.now n fits is c.in-Ok.ensures.cases.0 c.from_str_radix.ensures.value)
