-- A text, cut at its first `=`.
use Rattle.std.proofs.Common.{◌≡◌, ℕ, suc, ◌+◌, Bool, true, false, cond, not, ◌==◌, ◌||◌, List, [], ◌∷◌, ◌++◌, ◌⊎◌, inl}
use Rattle.std.proofs.Common.{inr, Some, None, take, drop, refl, ap, ◌∙◌, arith}
use Rattle.std.proofs.lemmas.Bool.{eqb-true}
use Rattle.std.specs.List.{after_first, before_first, list_any, prefix_len}
use Rattle.std.specs.Prelude.{if◌then◌else◌}
use Rattle.ptg_words.specs.Parts.{text_after}

-- a text with an `=`: what comes before the first one, and what comes after it
pub record IsCut (v : List ℕ) : Type 0 where
  pub name : List ℕ
  pub text : List ℕ
  pub is : v ≡ name ++ 61 ∷ text
  pub before : before_first (λ b. b == 61) v ≡ name
  pub after : text_after v ≡ Some text

-- a text without an `=`
pub record IsWhole (v : List ℕ) : Type 0 where
  pub before : before_first (λ b. b == 61) v ≡ v
  pub after : text_after v ≡ None

-- the first character decides, or the later ones do
one_is : (c : ℕ) (v : List ℕ) → (c == 61) ≡ true → IsCut (c ∷ v)
one_is c v e =
    let same : c ≡ 61 = eqb-true c 61 e in
    let none : prefix_len (λ b. not (b == 61)) (c ∷ v) ≡ 0 = ap (λ x. cond (not x) (1 + prefix_len (λ b. not (b == 61)) v) 0) e in
    record {
      name = [];
      text = v;
      is = ap (λ x. x ∷ v) same;
      before = ap (λ n. take n (c ∷ v)) none;
      after = ap (λ x. if x || list_any (λ b. b == 61) v then Some (after_first (λ b. b == 61) (c ∷ v)) else None) e
          ∙ ap (λ n. Some (drop (n + 1) (c ∷ v))) none;
    }

one_more : (c : ℕ) (v : List ℕ) → (c == 61) ≡ false → prefix_len (λ b. not (b == 61)) (c ∷ v) ≡ suc (prefix_len (λ b. not (b == 61)) v)
one_more c v e =
    let step : 1 + prefix_len (λ b. not (b == 61)) v ≡ suc (prefix_len (λ b. not (b == 61)) v) = omega arith in
    ap (λ x. cond (not x) (1 + prefix_len (λ b. not (b == 61)) v) 0) e ∙ step

before_more : (c : ℕ) (v : List ℕ) → (c == 61) ≡ false → before_first (λ b. b == 61) (c ∷ v) ≡ c ∷ before_first (λ b. b == 61) v
before_more c v e = ap (λ n. take n (c ∷ v)) (one_more c v e)

after_more : (c : ℕ) (v : List ℕ) → (c == 61) ≡ false → text_after (c ∷ v) ≡ text_after v
after_more c v e =
    let k = prefix_len (λ b. not (b == 61)) v in
    let step : suc k + 1 ≡ suc (k + 1) = omega arith in
    ap (λ x. if x || list_any (λ b. b == 61) v then Some (after_first (λ b. b == 61) (c ∷ v)) else None) e
    ∙ ap (λ n. if list_any (λ b. b == 61) v then Some (drop (n + 1) (c ∷ v)) else None) (one_more c v e)
    ∙ ap (λ n. if list_any (λ b. b == 61) v then Some (drop n (c ∷ v)) else None) step

pub cut : (v : List ℕ) → IsCut v ⊎ IsWhole v
cut [] = inr (record { before = refl; after = refl })
cut (c ∷ v) = by (c == 61) refl (cut v) where
  by : (x : Bool) → (c == 61) ≡ x → IsCut v ⊎ IsWhole v → IsCut (c ∷ v) ⊎ IsWhole (c ∷ v)
  by true e rest = inl (one_is c v e)
  by false e (inl p) = inl (record {
    name = c ∷ p.name;
    text = p.text;
    is = ap (λ l. c ∷ l) p.is;
    before = before_more c v e ∙ ap (λ l. c ∷ l) p.before;
    after = after_more c v e ∙ p.after;
  })
  by false e (inr p) = inr (record { before = before_more c v e ∙ ap (λ l. c ∷ l) p.before; after = after_more c v e ∙ p.after })
