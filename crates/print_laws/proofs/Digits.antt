-- The digits of a number from 0 to 2^63 - 1 are spelled as a number in a text, and their value is the number.
use Rattle.std.proofs.Common.{◌≡◌, ℕ, ℤ, pos, subst, zero, suc, ◌+◌, ◌*◌, ◌-◌, ◌/◌, ◌%◌, ◌^◌, ◌≤◌, ◌<◌, Bool, true}
use Rattle.std.proofs.Common.{false, List, [], ◌∷◌, ◌++◌, length, refl, sym, ap, ◌∙◌, arith, length-append}
use Rattle.std.specs.Prelude.{◌==◌}
use Rattle.std.specs.List.{list_all}
use Rattle.std.specs.Fmt as fmt
use Rattle.std.proofs.Math.Nat.{pow-suc}
use Rattle.std.proofs.lemmas.Fmt.{decimal_by_steps}
use Rattle.std.proofs.lemmas.List.Folds.{list_all-append}
use Rattle.jdf_lex.specs.declared.kind.TokenKind.{TokenKind}
use Rattle.jdf_lex.specs.declared.kind.TokenKind.TheVariants as kinds
use Rattle.jdf_lex.specs.Spelling.{is_letter, is_digit}
use Rattle.jdf_lex.specs.declared.terminal.Terminal.TheVariants as terminal
use Rattle.jdf_lex.specs.Terminals.{is, terminal_by}
use Rattle.print_laws.proofs.Readable.{kind_of, terminal_at}
use Rattle.jdf_tree.specs.Numbers.{decimal, has_leading_zero, is_number}
use Rattle.print_laws.proofs.NumberTexts.{number_from}

-- Whether the text is empty or begins with the digit 0.
abbrev begins_zero : List ℕ → Bool
begins_zero [] = true
begins_zero (b ∷ bs) = b == 48

-- The text is the digits of n.
record AreDigits (n : ℕ) (text : List ℕ) : Type 0 where
  digits : list_all is_digit text ≡ true
  value : decimal text ≡ n
  front : 0 < n → begins_zero text ≡ false
  alone : n ≡ 0 → has_leading_zero text ≡ false
  kind : kind_of text ≡ kinds.Number

digit_test : (d : ℕ) → d < 10 → is_digit (48 + d) ≡ true
digit_test d h = grind arith

no_letter : (d : ℕ) → d < 10 → is_letter (48 + d) ≡ false
no_letter d h = grind arith

kind_stays : (xs ys : List ℕ) → kind_of xs ≡ kinds.Number → kind_of (xs ++ ys) ≡ kinds.Number
kind_stays [] ys h = absurd (cc)
kind_stays (x ∷ xs) ys h = h

one_more : (xs : List ℕ) (d : ℕ) → decimal (xs ++ d ∷ []) ≡ decimal xs * 10 + (d - 48)
one_more [] d = omega arith
one_more (x ∷ xs) d =
    let more = one_more xs d in
    let len : length (xs ++ d ∷ []) ≡ suc (length xs) = omega (arith, length-append xs (d ∷ [])) in
    let power : 10 ^ length (xs ++ d ∷ []) ≡ 10 ^ length xs * 10 = ap (λ (n : ℕ). 10 ^ n) len ∙ pow-suc 10 (length xs) in
    omega (arith, more, ap (λ (n : ℕ). (x - 48) * n) power)

front_stays : (xs ys : List ℕ) → begins_zero xs ≡ false → begins_zero (xs ++ ys) ≡ false
front_stays [] ys h = absurd (cc)
front_stays (x ∷ xs) ys h = h

small : (n : ℕ) → n < 10 → AreDigits n ((48 + n) ∷ [])
small n h =
    record {
      digits = rw (digit_test n h) refl;
      value = omega arith;
      front = λ pos. grind arith;
      alone = λ e. refl;
      kind = rw (no_letter n h, digit_test n h) refl;
    }

large : (n : ℕ) (text : List ℕ) → 10 ≤ n → AreDigits (n / 10) text → AreDigits n (text ++ (48 + n % 10) ∷ [])
large n text low k =
    let rem : n % 10 < 10 = omega arith in
    record {
      digits = list_all-append is_digit text ((48 + n % 10) ∷ []) ∙ rw (k.digits, digit_test (n % 10) rem) refl;
      value = one_more text (48 + n % 10) ∙ (rw k.value (omega arith));
      front = λ pos. front_stays text ((48 + n % 10) ∷ []) (k.front (omega arith));
      alone = λ e. absurd (omega arith);
      kind = kind_stays text ((48 + n % 10) ∷ []) k.kind;
    }

are_digits : (n : ℕ) → n < 2 ^ 64 → AreDigits n (fmt.decimal n)
are_digits n fit = decimal_by_steps AreDigits small large n fit

-- A number that a text can have.
abbrev pub IsNumber : ℤ → Type 0
IsNumber z = (n : ℕ) × (z ≡ pos n) × (n ≤ 9223372036854775807)

-- What the grammar needs to know about the number's spelling.
pub record NumberFacts (z : ℤ) : Type 0 where
  pub good : is_number (fmt.signed_decimal z) ≡ true
  pub value : pos (decimal (fmt.signed_decimal z)) ≡ z
  pub terminal : is terminal.Number (terminal_at (fmt.signed_decimal z)) ≡ true
  pub kind : kind_of (fmt.signed_decimal z) ≡ kinds.Number

no_zero_before : (n : ℕ) (text : List ℕ) → AreDigits n text → has_leading_zero text ≡ false
no_zero_before n [] k = refl
no_zero_before n (b ∷ []) k = refl
no_zero_before zero (b ∷ c ∷ bs) k = k.alone refl
no_zero_before (suc n) (b ∷ c ∷ bs) k = k.front (omega arith)

has_some : (text : List ℕ) → kind_of text ≡ kinds.Number → 0 < length text
has_some [] e = absurd (cc)
has_some (b ∷ bs) e = omega arith

natural : (n : ℕ) → n ≤ 9223372036854775807 → NumberFacts (pos n)
natural n h =
    let k = are_digits n (omega arith) in
    let some : 0 < length (fmt.decimal n) = has_some (fmt.decimal n) k.kind in
    record {
      good = number_from (fmt.decimal n) some (no_zero_before n (fmt.decimal n) k) k.digits (rw k.value h);
      value = ap pos k.value;
      terminal = ap (λ (q : TokenKind). is terminal.Number (terminal_by q (fmt.decimal n))) k.kind;
      kind = k.kind;
    }

pub number_facts : (z : ℤ) → IsNumber z → NumberFacts z
number_facts z formed = subst NumberFacts (sym formed.1) (natural formed.0 formed.2)
