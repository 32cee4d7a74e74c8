-- Texts that are compared byte by byte.
use Rattle.std.proofs.Common.{List, refl, true, ℕ, ◌≡◌, Bool, false, sym, ◌∙◌, subst, nat_eq, drop, length, take}
use Rattle.std.proofs.Common.{take-append-drop, ◌++◌, ap, inl, inr, ◌≢◌, ◌⊎◌}
use Rattle.std.proofs.Math.Seq.{take-append_seam}
use Rattle.std.proofs.lemmas.Bool.{false_from_ne_true, false≢true}
use Rattle.std.specs.Cmp.{unsigned_Decides}
use Rattle.std.specs.Cmp.Lexicographic.{bytes_decides, pointwise, pointwise_decides}
use Rattle.std.specs.Str.{bytes_eq}
use Rattle.list_lemmas.proofs.Truth.{by_test}

pub bytes_eq-self : (n : List ℕ) → bytes_eq n n ≡ true
bytes_eq-self n = (bytes_decides n n).1 refl

pub bytes_eq-sym : (x n : List ℕ) → bytes_eq x n ≡ bytes_eq n x
bytes_eq-sym x n = go (bytes_eq x n) (bytes_eq n x) refl refl
  where
    go : (a b : Bool) → bytes_eq x n ≡ a → bytes_eq n x ≡ b → a ≡ b
    go true true e f = refl
    go false false e f = refl
    go true false e f = let s : bytes_eq n x ≡ true = (bytes_decides n x).1 (sym ((bytes_decides x n).0 e)) in absurd cc
    go false true e f = let s : bytes_eq x n ≡ true = (bytes_decides x n).1 (sym ((bytes_decides n x).0 f)) in absurd cc

pub bytes_eq-sym_false : (a b : List ℕ) → bytes_eq a b ≡ false → bytes_eq b a ≡ false
bytes_eq-sym_false a b apart =
    false_from_ne_true (bytes_eq b a)
    (λ same. false≢true (sym apart ∙ (bytes_decides a b).1 (sym ((bytes_decides b a).0 same))))

-- if a is b and b is not c, a is not c
pub bytes_eq-apart : (a b c : List ℕ) → bytes_eq a b ≡ true → bytes_eq b c ≡ false → bytes_eq a c ≡ false
bytes_eq-apart a b c same apart = subst (λ n. bytes_eq n c ≡ false) (sym ((bytes_decides a b).0 same)) apart

pub same_bytes : (xs ys : List ℕ) → pointwise nat_eq xs ys ≡ true → xs ≡ ys
same_bytes xs ys h = (pointwise_decides unsigned_Decides xs ys).0 h

pub equal_bytes : (xs ys : List ℕ) → xs ≡ ys → pointwise nat_eq xs ys ≡ true
equal_bytes xs ys e = (pointwise_decides unsigned_Decides xs ys).1 e

pub word_first : (bytes word rest : List ℕ) → pointwise nat_eq (take (length word) bytes) word ≡ true
    → rest ≡ drop (length word) bytes → bytes ≡ word ++ rest
word_first bytes word rest h e =
    let same = same_bytes (take (length word) bytes) word h in
    sym (take-append-drop (length word) bytes) ∙ (λ i. same i ++ sym e i)

pub other_word : (bytes word : List ℕ) → pointwise nat_eq (take (length word) bytes) word ≡ false → (rest : List ℕ)
    → bytes ≡ word ++ rest → ⊥
other_word bytes word fails rest e =
    false≢true (sym fails ∙ equal_bytes (take (length word) bytes) word (ap (take (length word)) e ∙ take-append_seam word rest))

pub same_or_not : (xs ys : List ℕ) → (xs ≡ ys) ⊎ (xs ≢ ys)
same_or_not xs ys = by_test (pointwise nat_eq xs ys) (λ k. inl (same_bytes xs ys k)) (λ k. inr (λ e. false≢true (sym k ∙ equal_bytes xs ys e)))
