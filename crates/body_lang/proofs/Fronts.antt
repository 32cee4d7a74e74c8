-- How the names at the front of a body are judged, one token after another.
use Rattle.std.proofs.Common.{◌≡◌, ℕ, zero, suc, ◌+◌, ◌-◌, ◌<◌, Bool, true, false, cond, List, [], ◌∷◌, length, drop, get_or, Ok, Err, refl, sym, ap}
use Rattle.std.proofs.Common.{◌∙◌, arith, add-one}
use Rattle.std.proofs.Math.Seq.{drop-cons}
use Rattle.std.proofs.lemmas.List.{length-drop}
use Rattle.grammar_core.specs.declared.fault.ReadFault.{ReadFault}
use Rattle.grammar_core.specs.declared.token.Token.{Token}
use Rattle.jdf_lex.specs.declared.fault.JdfFault.{JdfFault}
use Rattle.ptg_base.specs.declared.refusal.Refusal.{Refusal}
use Rattle.grammar_core.specs.declared.code.Code.TheVariants.{Syntax}
use Rattle.grammar_core.specs.Reading.{Read, ◌>>=◌, reading, fault_from_end}
use Rattle.grammar_core.proofs.CallerLemmas.{applied}
use Rattle.jdf_lex.specs.Terminals.{terminal_of}
use Rattle.ptg_base.specs.Returns.{ReturnsRefusal, and_then}
use Rattle.jdf_tree.specs.declared.expression.Word.{Word}
use Rattle.jdf_tree.specs.declared.part.Part.TheVariants.{Body}
use Rattle.jdf_tree.specs.Grammar.{productions}
use Rattle.jdf_tree.specs.GrammarParts.{name, names, word_of}
use Rattle.body_lang.specs.Environment.{Environment}
use Rattle.expr_names.specs.Symbols.{Resolved}
use Rattle.body_lang.specs.TokenScan.{TokenScan, role_of, judged_as, judged, judged_among, after_token}
use Rattle.ptg_base.proofs.CallerLemmas.{refuses_before}
use Rattle.list_lemmas.proofs.Options.{same_Ok}

-- ---- the next token

-- the first token, if it is a name
abbrev token_if : Bool → Token → List Token → Read Token
token_if b x s = cond b (Ok (x, s)) (Err (fault_from_end (length (x ∷ s)) Syntax))

-- a name was read
pub name_read : (scope : Environment) (st : TokenScan) (s : List Token) (w : Word) (r : List Token)
    → reading productions (name Body) s ≡ Ok (w, r)
    → judged scope st s ≡ judged_as (role_of st.previous r) scope st.bindings w
name_read scope st [] w r e = absurd cc
name_read scope st (x ∷ s) w r e = go (names Body (terminal_of x)) e
  where
    go : (b : Bool) → (token_if b x s >>= applied word_of) ≡ Ok (w, r)
        → cond b (judged_as (role_of st.previous s) scope st.bindings (word_of x)) (Ok tt) ≡ judged_as (role_of st.previous r) scope st.bindings w
    go true e = let same = same_Ok (word_of x, s) (w, r) e in let same_word : word_of x ≡ w =
        ap (λ (y : Word × List Token). y.0) same in let same_rest : s ≡ r =
        ap (λ (y : Word × List Token). y.1) same in rw (same_word, same_rest) refl
    go false e = absurd cc

-- no name was read
pub no_name : (scope : Environment) (st : TokenScan) (s : List Token) (n : ReadFault) → reading productions (name Body) s ≡ Err n → judged scope st s ≡ Ok tt
no_name scope st [] n e = refl
no_name scope st (x ∷ s) n e = go (names Body (terminal_of x)) e
  where
    go : (b : Bool) → (token_if b x s >>= applied word_of) ≡ Err n
        → cond b (judged_as (role_of st.previous s) scope st.bindings (word_of x)) (Ok tt) ≡ Ok tt
    go true e = absurd cc
    go false e = refl

-- ---- one after another

-- a token, and then those after it
step : (scope : Environment) (st : TokenScan) (s : List Token) (count i : ℕ) (x : Token) → i < count → i < length s → x ≡ get_or s i x
    → judged_among scope st (count - i) (drop i s)
    ≡ and_then (judged scope st (drop i s))
    (λ _. judged_among scope (after_token x st) (count - (i + 1)) (drop (i + 1) s))
step scope st s count i x more lt is =
    let cut : drop i s ≡ x ∷ drop (i + 1) s = drop-cons s i x lt
    ∙ (ap (λ (y : Token). y ∷ drop (suc i) s) (sym is) ∙ ap (λ (n : ℕ). x ∷ drop n s) (sym (add-one i))) in
    let left : count - i ≡ suc (count - (i + 1)) = omega (arith, more) in
    rw (cut, left) refl

module _ (scope : Environment) (st : TokenScan) (s : List Token) (count i : ℕ) (x : Token) (more : i < count)
    (lt : i < length s) (is : x ≡ get_or s i x) (total : Resolved (Unit {0}))
    (so_far : judged_among scope st (count - i) (drop i s) ≡ total) where
  pub goes_on : judged scope st (drop i s) ≡ Ok tt → (next : TokenScan) → next ≡ after_token x st
      → judged_among scope next (count - (i + 1)) (drop (i + 1) s) ≡ total
  goes_on fine next e =
      ap (λ (m : TokenScan). judged_among scope m (count - (i + 1)) (drop (i + 1) s)) e
      ∙ (sym (step scope st s count i x more lt is
      ∙ ap (λ (r : Resolved (Unit {0})). and_then r
      (λ _. judged_among scope (after_token x st) (count - (i + 1)) (drop (i + 1) s))) fine) ∙ so_far)

-- a fault of the first token is the first fault
fails_in : (scope : Environment) (st : TokenScan) (n : ℕ) (s : List Token) (e : Refusal JdfFault) → 0 < n
    → 0 < length s → ReturnsRefusal e (judged scope st s) → ReturnsRefusal e (judged_among scope st n s)
fails_in scope st zero s e more some h = absurd (omega arith)
fails_in scope st (suc n) [] e more some h = absurd (omega arith)
fails_in scope st (suc n) (x ∷ s) e more some h = refuses_before e (judged scope st (x ∷ s)) (λ _. judged_among scope (after_token x st) n s) h

pub fails : (scope : Environment) (st : TokenScan) (s : List Token) (count i : ℕ) (total : Resolved (Unit {0}))
    (e : Refusal JdfFault) → i < count → i < length s → judged_among scope st (count - i) (drop i s) ≡ total
    → ReturnsRefusal e (judged scope st (drop i s)) → ReturnsRefusal e total
fails scope st s count i total e more lt so_far h =
    rw (← so_far) (fails_in scope st (count - i) (drop i s) e (omega (arith, more)) (omega (arith, length-drop i s, lt)) h)
