-- What a derivation leaves is the end of the tokens; and if it has no fault, its parts have none.
use Rattle.std.proofs.Common.{◌≡◌, ℕ, suc, List, [], ◌∷◌, ◌++◌, refl, sym, ap, ◌∙◌, inl, inr, append_assoc}
use Rattle.std.specs.Prelude.{Option, Some, None}
use Rattle.std.specs.Option.{option_or}
use Rattle.grammar_core.specs.declared.token.Token.{Token}
use Rattle.grammar_core.specs.declared.code.Code.{Code}
use Rattle.grammar_core.specs.Production.{Production, seq, map, alt, opt, star, limited, Fault, Language, Many, Derives}
use Rattle.grammar_core.specs.Production.{at_start, one_of, checked, pick, after_token}

-- The second list is the end of the first.
abbrev pub HasEnd : List Token → List Token → Type 0
HasEnd s r = (w : List Token) × (s ≡ w ++ r)

one_has_end : (x : Token) (s r : List Token) → s ≡ x ∷ r → HasEnd s r
one_has_end x s r h = (x ∷ [], h)

through : (s m r : List Token) → HasEnd s m → HasEnd m r → HasEnd s r
through s m r a b = (a.0 ++ b.0, a.1 ∙ ap (λ (l : List Token). a.0 ++ l) b.1 ∙ sym (append_assoc a.0 b.0 r))

abbrev pub Shortens : {A : Type 0} → Language A → Type 0
Shortens {A = A} G = (s : List Token) (t : A) (o : Fault) (r : List Token) → G s t o r → HasEnd s r

many_has_end : {A : Type 0} (full : ℕ → Option Code) (G : Language A) → Shortens G
    → (i : ℕ) (ts : List A) (s : List Token) (o : Fault) (r : List Token) → Many full G i s ts o r → HasEnd s r
many_has_end full G f i [] s o r h = ([], h.0)
many_has_end full G f i (t ∷ ts) s o r h = through s h.0 r (f s t h.1 h.0 h.3) (many_has_end full G f (suc i) ts h.0 h.2 r h.4)

pub derives_has_end : {N : Type 0} {Tree : N → Type 0} (R : (n : N) → Language (Tree n)) → ((n : N) → Shortens (R n))
    → {A : Type 0} (g : Production N Tree A) (s : List Token) (t : A) (o : Fault) (r : List Token) → Derives R g s t o r
    → HasEnd s r
derives_has_end R f (one_of q) s t o r h = one_has_end t s r h.0.0
derives_has_end R f (checked q good c) s t o r h = one_has_end t s r h.0.0
derives_has_end R f (seq g k) s t o r h = through s h.0 r (derives_has_end R f g s t.0 h.1 h.0 h.3) (derives_has_end R f k h.0 t.1 h.2 r h.4)
derives_has_end R f (map v g) s t o r h = derives_has_end R f g s h.0 o r h.1
derives_has_end R f (alt g k) s t o r h = elim h [ inl u ↦ derives_has_end R f g s t o r u | inr u ↦ derives_has_end R f k s t o r u ]
derives_has_end R f (pick q g k) s t o r h = elim h [ inl u ↦ derives_has_end R f g s t o r u | inr u ↦ derives_has_end R f k s t o r u ]
derives_has_end R f (opt g) s None o r h = ([], h.0)
derives_has_end R f (opt g) s (Some t) o r h = derives_has_end R f g s t o r h
derives_has_end R f (star full g) s t o r h = many_has_end full (Derives R g) (derives_has_end R f g) 0 t s o r h
derives_has_end R f (after_token q n) s t o r h = through s h.0 r (one_has_end t.0 s h.0 h.2.0) (f n h.0 t.1 h.1 r h.3)
derives_has_end R f (limited l c g) s t o r h = derives_has_end R f g s t h.0 r h.1

-- ---- no fault

pub none_or : (c : Option Code) (x : Fault) → option_or (at_start c) x ≡ None → (c ≡ None) × (x ≡ None)
none_or None x e = (refl, e)
none_or (Some c) x e = absurd (cc)

abbrev pub IsNone : Fault → Type 0
IsNone o = o ≡ None
