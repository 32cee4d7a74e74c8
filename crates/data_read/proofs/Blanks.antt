-- The blanks around a field, byte by byte.
use Rattle.std.proofs.Common.{◌≡◌, ℕ, ◌+◌, ◌<◌, List, [], ◌∷◌, ◌++◌, length, drop, get_or, true, false, refl, arith}
use Rattle.std.proofs.lemmas.Bool.{ne_eqb}
use Rattle.std.proofs.lemmas.List.{drop_more}
use Rattle.std.specs.Prelude.{◌==◌}
use Rattle.data_read.specs.Fields.{is_blank, after_blanks, content_length}

-- a blank before the rest is dropped
pub first_blank : (bytes : List ℕ) (i : ℕ) → i < length bytes → is_blank (get_or bytes i 0) ≡ true
    → after_blanks (drop i bytes) ≡ after_blanks (drop (i + 1) bytes)
unfolding after_blanks
first_blank bytes i lt w = rw (drop_more bytes i 0 lt, w) refl

-- a byte that is no blank stays
pub first_content : (bytes : List ℕ) (i : ℕ) → i < length bytes → is_blank (get_or bytes i 0) ≡ false → after_blanks (drop i bytes) ≡ drop i bytes
unfolding after_blanks
first_content bytes i lt w = rw (drop_more bytes i 0 lt, w) refl

-- a blank at the end does not count
pub last_blank : (bytes : List ℕ) (b : ℕ) → is_blank b ≡ true → content_length (bytes ++ (b ∷ [])) ≡ content_length bytes
unfolding content_length
last_blank [] b w = rw w refl
last_blank (x ∷ bytes) b w = rw (last_blank bytes b w) refl

-- a byte that is no blank ends the content
pub last_content : (bytes : List ℕ) (b : ℕ) → is_blank b ≡ false → content_length (bytes ++ (b ∷ [])) ≡ length bytes + 1
unfolding content_length
last_content [] b w = rw w refl
last_content (x ∷ bytes) b w =
    let e = last_content bytes b w in
    let n : (length bytes + 1 == 0) ≡ false = ne_eqb (length bytes + 1) 0 (λ z. absurd (omega arith)) in
    let one : length (x ∷ bytes) + 1 ≡ (length bytes + 1) + 1 = omega arith in
    rw (e, n, one) refl
