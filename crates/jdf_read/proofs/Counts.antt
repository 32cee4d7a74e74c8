-- How many elements of a list with a limit were read.
use Rattle.std.proofs.Common.{◌≡◌, ℕ, suc, ◌<◌, ◌≤◌, ◌-◌, List, [], ◌∷◌, ◌++◌, length, Ok, ap, ◌∙◌, arith}
use Rattle.grammar_core.specs.declared.token.Token.{Token}
use Rattle.grammar_core.specs.Reading.{reading}
use Rattle.grammar_core.proofs.CallerLemmas.{so_far}
use Rattle.jdf_lex.specs.Codes.{TooManyClasses}
use Rattle.jdf_tree.specs.declared.tree.ClassTree.{ClassTree}
use Rattle.jdf_tree.specs.Grammar.{productions, class_and_skips, classes}
use Rattle.jdf_read.proofs.ListSteps.{counted}
use Rattle.jdf_read.proofs.Listed.{classes_after_first}

-- what holds after the first class was read
pub record First (s next : List Token) (list : List ClassTree) : Type 0 where
  pub reads : so_far list (counted 63 TooManyClasses class_and_skips (length list - 1) next) ≡ reading productions classes s
  pub at_most : length list ≤ 64
  pub some : 1 ≤ length list

pub first_within : (s : List Token) (x : ClassTree) (next : List Token) (empty list : List ClassTree) → empty ≡ []
    → list ≡ empty ++ x ∷ [] → reading productions class_and_skips s ≡ Ok (x, next) → First s next list
first_within s x next empty list none added read =
    let alone : list ≡ [] ++ x ∷ [] = added ∙ ap (λ (l : List ClassTree). l ++ x ∷ []) none in
    let one : length list ≡ 1 = ap length alone in
    let index : length list - 1 ≡ 0 = omega (arith, one) in
    record {
      reads = ap (λ (i : ℕ). so_far list (counted 63 TooManyClasses class_and_skips i next)) index ∙ classes_after_first s x next list alone read;
      at_most = omega (arith, one);
      some = omega (arith, one);
    }

-- what holds of the numbers of classes before and after another one was read
pub record Another (n m : ℕ) : Type 0 where
  pub room : n - 1 < 63
  pub next : m - 1 ≡ suc (n - 1)
  pub at_most : m ≤ 64
  pub some : 1 ≤ m

pub another_within : (n m len : ℕ) → len ≡ n → (len ≡ 64 → ⊥) → n ≤ 64 → 1 ≤ n → m ≡ suc n → Another n m
another_within n m len is not_full at_most some up = record { room = omega arith; next = omega arith; at_most = omega arith; some = omega arith }

pub room : (len n : ℕ) → len ≡ n → (len ≡ 64 → ⊥) → n ≤ 64 → n - 1 < 63
room len n is not_full at_most = omega arith

-- there is room for another element in a list that is not full
pub room_left : (most n len : ℕ) → len ≡ n → (len ≡ most → ⊥) → n ≤ most → n < most
room_left most n len is not_full at_most = omega arith

pub still_within : (most n m : ℕ) → n < most → m ≡ suc n → m ≤ most
still_within most n m room up = omega arith

pub none_within : (most : ℕ) → 0 ≤ most
none_within most = omega arith
