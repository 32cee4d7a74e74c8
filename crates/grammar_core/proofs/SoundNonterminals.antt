-- A token and the nonterminal after it are read soundly.
use Rattle.std.proofs.Common.{◌≡◌, suc, Bool, true, List, [], ◌∷◌, ◌++◌, length, Ok, Err, refl, inl, inr, sym, ap, ◌∙◌, arith}
use Rattle.std.specs.Prelude.{None}
use Rattle.grammar_core.specs.Terminals.{Terminal}
use Rattle.grammar_core.specs.declared.token.Token.{Token}
use Rattle.grammar_core.specs.declared.code.Code.{Code}
use Rattle.grammar_core.specs.Terminals.{terminal_count, some_is}
use Rattle.grammar_core.specs.Production.{Language, Fault, then_fault, IsOne}
use Rattle.grammar_core.specs.Reading.{◌>>=◌, Read, token_at, fault_from_end}
use Rattle.grammar_core.proofs.ReadCases.{bind_ok, bind_err, token_ok, token_err}
use Rattle.grammar_core.proofs.Sound.{Sound, Text, code_is, from_zero, late_after, late_syntax, left_is, starts_same}
use Rattle.grammar_core.proofs.SoundTokens.{one_text, token_refuses}
use Rattle.list_lemmas.proofs.Options.{same_Ok, Ok≢Err}

abbrev pub AfterToken : {A : Type 0} → (Terminal → Bool) → Language A → Language (Token × A)
AfterToken q G s t o r = (m : List Token) × (y : Fault) × IsOne q s t.0 m × G m t.1 y r × (o ≡ then_fault None 1 y)

pub after_token_sound : {A : Type 0} (q : Terminal → Bool) (G : Language A) (p : List Token → Read A)
    → some_is q terminal_count ≡ true → ((s : List Token) → Sound G p s) → Text G → (s : List Token)
    → Sound (AfterToken q G) (λ l. token_at q l >>= λ x. p x.1 >>= λ b. Ok ((x.0, b.0), b.1)) s
after_token_sound q G p some g text s =
    record {
      accepted = λ x e.
          let a = bind_ok (token_at q s) (λ y. p y.1 >>= λ b. Ok ((y.0, b.0), b.1)) x e in
          let t = token_ok q s a.0 a.1 in
          let d = bind_ok (p a.0.1) (λ b. Ok ((a.0.0, b.0), b.1)) x a.2 in
          let b = (g a.0.1).accepted d.0 d.1 in
          rw (← (same_Ok ((a.0.0, d.0.0), d.0.1) x d.2)) (record {
            word = a.0.0 ∷ b.word;
            parts = t.0 ∙ ap (λ (l : List Token). a.0.0 ∷ l) b.parts;
            derives = λ z. (b.word ++ z, None, (refl, t.1), b.derives z, refl);
            same = λ r same. rw (t.1, b.same r same) refl;
          });
      faulted = λ n e.
          elim (bind_err (token_at q s) (λ y. p y.1 >>= λ b. Ok ((y.0, b.0), b.1)) n e) [
            | inl u ↦
                let t = token_err q s n u in
                let one = one_text q some in
                let syntax = code_is t.0 in
                record {
                  word = [];
                  rest = s;
                  parts = refl;
                  left = sym (left_is t.0);
                  more = one.0 ∷ text.word;
                  tree = (one.0, text.tree);
                  fault = λ z. then_fault None 1 (text.fault z);
                  late = λ z. late_syntax n.code 0 _ syntax (from_zero (then_fault None 1 (text.fault z)));
                  extends = λ d. absurd (d syntax);
                  derives = λ z. (text.word ++ z, text.fault z, one.1 (text.word ++ z), text.derives z, refl);
                  same = λ r same. rw (token_refuses q r (sym (starts_same q s r same) ∙ t.1))
                      (ap (λ (c : Code). Err (fault_from_end (length r) c)) (sym syntax));
                }
            | inr a ↦ elim (bind_err (p a.0.1) (λ b. Ok ((a.0.0, b.0), b.1)) n a.2) [
              | inl v ↦
                  let t = token_ok q s a.0 a.1 in
                  let b = (g a.0.1).faulted n v in
                  record {
                    word = a.0.0 ∷ b.word;
                    rest = b.rest;
                    parts = t.0 ∙ ap (λ (l : List Token). a.0.0 ∷ l) b.parts;
                    left = b.left;
                    more = b.more;
                    tree = (a.0.0, b.tree);
                    fault = λ z. then_fault None 1 (b.fault z);
                    late = λ z. late_after n.code (suc (length b.word)) (length b.word) 1 (b.fault z) (omega arith) (b.late z);
                    extends = b.extends;
                    derives = λ z. (b.word ++ (b.more ++ z), b.fault z, (refl, t.1), b.derives z, refl);
                    same = λ r same. rw (t.1, b.same r same) refl;
                  }
              | inr v ↦ absurd (Ok≢Err _ n v.2)
            ]
          ];
    }
