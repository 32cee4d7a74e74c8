-- A single token is read soundly.
use Rattle.std.proofs.Common.{◌≡◌, Bool, true, false, List, [], ◌∷◌, length, Ok, Err, refl, inl, inr, sym, ap, ◌∙◌, subst}
use Rattle.std.specs.Prelude.{Some, None}
use Rattle.grammar_core.specs.Terminals.{Terminal}
use Rattle.grammar_core.specs.declared.token.Token.{Token}
use Rattle.grammar_core.specs.declared.code.Code.{Code}
use Rattle.grammar_core.specs.declared.code.Code.TheVariants.{Syntax}
use Rattle.grammar_core.proofs.Tokens.{token_of, terminal_of_token}
use Rattle.grammar_core.specs.Terminals.{terminal_of, terminal_count, some_is}
use Rattle.grammar_core.specs.Production.{Language, bad_unless, IsOne}
use Rattle.grammar_core.specs.Reading.{◌>>=◌, check, starts, token_at, fault_from_end}
use Rattle.grammar_core.proofs.Sets.{some_at}
use Rattle.grammar_core.proofs.ReadCases.{bind_ok, bind_err, token_ok, token_err, check_ok, check_err}
use Rattle.grammar_core.proofs.Sound.{Accepted, Late, SameHead, Sound, code_is, from_zero, late_here, late_syntax, left_is, starts_same}

abbrev pub One : (Terminal → Bool) → Language Token
One q s t o r = IsOne q s t r × (o ≡ None)

token_accepted : (q : Terminal → Bool) (s : List Token) (x : Token × List Token) → token_at q s ≡ Ok x → Accepted (One q) (token_at q) s x
token_accepted q s x e =
    let t = token_ok q s x e in
    record { word = x.0 ∷ []; parts = t.0; derives = λ z. ((refl, t.1), refl); same = λ r h. rw t.1 refl }

pub token_refuses : (q : Terminal → Bool) (s : List Token) → starts q s ≡ false → token_at q s ≡ Err (fault_from_end (length s) Syntax)
token_refuses q [] h = refl
token_refuses q (x ∷ s) h = rw h refl

pub one_text : (q : Terminal → Bool) → some_is q terminal_count ≡ true → (x : Token) × ((z : List Token) → IsOne q (x ∷ z) x z)
one_text q h =
    let k = some_at q terminal_count h in
    (token_of k.0, λ z. (refl, rw (terminal_of_token k.0 k.1) k.2))

pub token_sound : (q : Terminal → Bool) (s : List Token) → some_is q terminal_count ≡ true → Sound (One q) (token_at q) s
token_sound q s h =
    record {
      accepted = λ x e. token_accepted q s x e;
      faulted = λ n e.
          let t = token_err q s n e in
          let one = one_text q h in
          let syntax = code_is t.0 in
          record {
            word = [];
            rest = s;
            parts = refl;
            left = sym (left_is t.0);
            more = one.0 ∷ [];
            tree = one.0;
            fault = λ z. None;
            late = λ z. late_syntax n.code 0 None syntax tt;
            extends = λ d. absurd (d syntax);
            derives = λ z. (one.1 z, refl);
            same = λ r same. token_refuses q r (sym (starts_same q s r same) ∙ t.1) ∙ ap (λ (c : Code). Err (fault_from_end (length r) c)) (sym syntax);
          };
    }

abbrev pub Valued : (Terminal → Bool) → (Token → Bool) → Code → Language Token
Valued q good c s t o r = IsOne q s t r × (o ≡ bad_unless (good t) c)

pub checked_sound : (q : Terminal → Bool) (good : Token → Bool) (c : Code) (s : List Token)
    → some_is q terminal_count ≡ true → Sound (Valued q good c) (λ l. token_at q l >>= check good c l) s
checked_sound q good c s h =
    record {
      accepted = λ x e.
          let a = bind_ok (token_at q s) (check good c s) x e in
          let t = token_ok q s a.0 a.1 in
          let k = check_ok good c s a.0 x a.2 in
          subst (λ (y : Token × List Token). Accepted (Valued q good c) (λ l. token_at q l >>= check good c l) s y) k.1
          (record { word = a.0.0 ∷ []; parts = t.0; derives = λ z. ((refl, t.1), rw k.0 refl); same = λ r h. rw (t.1, k.0) refl });
      faulted = λ n e.
          elim (bind_err (token_at q s) (check good c s) n e) [
            | inl u ↦
                let t = token_err q s n u in
                let one = one_text q h in
                let syntax = code_is t.0 in
                record {
                  word = [];
                  rest = s;
                  parts = refl;
                  left = sym (left_is t.0);
                  more = one.0 ∷ [];
                  tree = one.0;
                  fault = λ z. bad_unless (good one.0) c;
                  late = λ z. late_syntax n.code 0 _ syntax (from_zero (bad_unless (good one.0) c));
                  extends = λ d. absurd (d syntax);
                  derives = λ z. (one.1 z, refl);
                  same = λ r same. rw (token_refuses q r (sym (starts_same q s r same) ∙ t.1))
                      (ap (λ (c : Code). Err (fault_from_end (length r) c)) (sym syntax));
                }
            | inr a ↦
                let t = token_ok q s a.0 a.1 in
                let k = check_err good c s a.0 n a.2 in
                let code = code_is k.1 in
                record {
                  word = [];
                  rest = s;
                  parts = refl;
                  left = sym (left_is k.1);
                  more = a.0.0 ∷ [];
                  tree = a.0.0;
                  fault = λ z. Some (0, c);
                  late = λ z. subst (λ (d : Code). Late d 0 (Some (0, c))) (sym code) (late_here c 0);
                  extends = λ d. record { head = a.0.0; rest_tail = a.0.1; more_tail = []; rest_is = t.0; more_is = refl };
                  derives = λ z. ((refl, t.1), rw k.0 refl);
                  same = λ r same. bad_again a.0.0 a.0.1 r t.0 t.1 k.0 same ∙ ap (λ (d : Code). Err (fault_from_end (length r) d)) (sym code);
                }
          ];
    }
  where
    bad_again : (x : Token) (m r : List Token) → s ≡ x ∷ m → q (terminal_of x) ≡ true → good x ≡ false
        → SameHead s r → (token_at q r >>= check good c r) ≡ Err (fault_from_end (length r) c)
    bad_again x m [] e qx bad same = absurd (subst (λ (l : List Token). SameHead l []) e same)
    bad_again x m (y ∷ r) e qx bad same =
        let is : x ≡ y = subst (λ (l : List Token). SameHead l (y ∷ r)) e same in
        rw (← is, qx, bad) refl
