-- Names judged one token after another, over a stretch of tokens.
use Rattle.std.proofs.Common.{◌≡◌, ℕ, Bool, true, false, cond, List, [], ◌∷◌, ◌++◌, length, Result, Ok, Err, refl, sym, ap, ◌∙◌, subst, append_assoc}
use Rattle.std.specs.Prelude.{◌&&◌, ◌||◌, not, Option, Some, None}
use Rattle.std.proofs.lemmas.List.{append-nil}
use Rattle.grammar_core.specs.declared.token.Token.{Token}
use Rattle.jdf_lex.specs.declared.terminal.Terminal.{Terminal}
use Rattle.jdf_lex.specs.declared.terminal.Terminal.TheVariants as terminal
use Rattle.jdf_lex.specs.Sets.{starts}
use Rattle.jdf_lex.specs.Terminals.{terminal_of, is}
use Rattle.ptg_base.specs.Returns.{and_then}
use Rattle.jdf_tree.specs.declared.part.Part.TheVariants.{Body}
use Rattle.jdf_tree.specs.GrammarParts.{names, word_of}
use Rattle.body_lang.specs.declared.role.Role.{Role}
use Rattle.body_lang.specs.declared.role.Role.TheVariants as role
use Rattle.body_lang.specs.Environment.{Environment}
use Rattle.body_lang.specs.declared.variable.Variable.{Variable}
use Rattle.body_lang.specs.Meanings.{meaning_of}
use Rattle.expr_names.specs.Symbols.{Resolved}
use Rattle.body_lang.specs.Expressions.{value_of, read_flow}
use Rattle.body_lang.specs.TokenScan.{TokenScan, after_terminal, after_token, previous_is, role_of, fault_of, judged_as, judged, judged_among}
use Rattle.std.proofs.lemmas.Bool.{and_parts, not-true}

-- ---- one after another

pub after_after : {A B C F : Type 0} (r : Result A F) (f : A → Result B F) (g : B → Result C F) → and_then (and_then r f) g ≡ and_then r (λ x. and_then (f x) g)
after_after (Ok x) f g = refl
after_after (Err e) f g = refl

pub after_same : {A B F : Type 0} (r : Result A F) (f g : A → Result B F) → ((x : A) → f x ≡ g x) → and_then r f ≡ and_then r g
after_same (Ok x) f g h = h x
after_same (Err e) f g h = refl

-- what is known after the tokens of the first list, or the first fault of a name among them; the second list has the
-- tokens after them
abbrev pub along : Environment → TokenScan → List Token → List Token → Resolved TokenScan
along scope st [] r = Ok st
along scope st (x ∷ w) r = and_then (judged scope st (x ∷ (w ++ r))) (λ _. along scope (after_token x st) w r)

pub along_append : (scope : Environment) (st : TokenScan) (u v r : List Token)
    → along scope st (u ++ v) r ≡ and_then (along scope st u (v ++ r)) (λ m. along scope m v r)
along_append scope st [] v r = refl
along_append scope st (x ∷ u) v r =
    ap (λ (l : List Token). and_then (judged scope st (x ∷ l)) (λ _. along scope (after_token x st) (u ++ v) r)) (append_assoc u v r)
    ∙ (after_same (judged scope st (x ∷ (u ++ (v ++ r)))) (λ _. along scope (after_token x st) (u ++ v) r)
    (λ _. and_then (along scope (after_token x st) u (v ++ r)) (λ m. along scope m v r))
    (λ _. along_append scope (after_token x st) u v r)
    ∙ sym (after_after (judged scope st (x ∷ (u ++ (v ++ r)))) (λ _. along scope (after_token x st) u (v ++ r)) (λ m. along scope m v r)))

-- the same for a whole list
pub among_all : (scope : Environment) (st : TokenScan) (s : List Token) → judged_among scope st (length s) s ≡ fault_of (along scope st s [])
among_all scope st [] = refl
among_all scope st (x ∷ s) =
    ap (λ (l : List Token). and_then (judged scope st (x ∷ l)) (λ _. judged_among scope (after_token x st) (length s) s)) (sym (append-nil s))
    ∙ (after_same (judged scope st (x ∷ (s ++ []))) (λ _. judged_among scope (after_token x st) (length s) s)
    (λ _. fault_of (along scope (after_token x st) s [])) (λ _. among_all scope (after_token x st) s)
    ∙ sym (after_after (judged scope st (x ∷ (s ++ []))) (λ _. along scope (after_token x st) s []) (λ _. Ok tt)))

-- ---- inside an expression

-- a token after which no statement and no declaration begins
abbrev pub is_plain : Terminal → Bool
is_plain k = not (is terminal.Semicolon k || (is terminal.LeftBrace k ||
    (is terminal.RightBrace k || (is terminal.Int k || (is terminal.For k || is terminal.Trap k)))))

-- such a token that is no name either
abbrev pub is_quiet : Terminal → Bool
is_quiet k = is_plain k && not (names Body k)

abbrev pub is_inside : Option Terminal → Bool
is_inside None = false
is_inside (Some k) = is_plain k

-- the same scan, with this terminal as the token before
abbrev pub with_previous : Terminal → TokenScan → TokenScan
with_previous k st = record st { previous = Some k }

six_false : (a b c d e f : Bool) → not (a || (b || (c || (d || (e || f))))) ≡ true
    → (a ≡ false) × (b ≡ false) × (c ≡ false) × (d ≡ false) × (e ≡ false) × (f ≡ false)
six_false true b c d e f h = absurd cc
six_false false true c d e f h = absurd cc
six_false false false true d e f h = absurd cc
six_false false false false true e f h = absurd cc
six_false false false false false true f h = absurd cc
six_false false false false false false true h = absurd cc
six_false false false false false false false h = (refl, refl, refl, refl, refl, refl)

-- inside an expression, the token after a name decides its role
inside_role : (last : Option Terminal) (s : List Token) → is_inside last ≡ true
    → role_of last s ≡ cond (starts (is terminal.LeftBracket) s) role.Element role.Value
inside_role None s h = absurd cc
inside_role (Some k) s h = let f = six_false (is terminal.Semicolon k) (is terminal.LeftBrace k)
    (is terminal.RightBrace k) (is terminal.Int k) (is terminal.For k) (is terminal.Trap k) h in rw
    (f.3, f.4, f.5, f.0, f.1, f.2) refl

-- a quiet token changes nothing
quiet_terminal : (k : Terminal) (text : List ℕ) (st : TokenScan) → is_quiet k ≡ true → after_terminal k text st ≡ st
quiet_terminal terminal.Semicolon text st h = absurd cc
quiet_terminal terminal.LeftBrace text st h = absurd cc
quiet_terminal terminal.RightBrace text st h = absurd cc
quiet_terminal terminal.Name text st h = absurd cc
quiet_terminal terminal.TypeWord text st h = absurd cc
quiet_terminal _ text st h = refl

pub quiet_after : (x : Token) (st : TokenScan) → is_quiet (terminal_of x) ≡ true → after_token x st ≡ with_previous (terminal_of x) st
quiet_after x st h = ap (with_previous (terminal_of x)) (quiet_terminal (terminal_of x) x.text st h)

pub quiet_judged : (scope : Environment) (x : Token) (s : List Token) (st : TokenScan) → is_quiet (terminal_of x) ≡ true → judged scope st (x ∷ s) ≡ Ok tt
quiet_judged scope x s st h = rw (not-true (names Body (terminal_of x)) (and_parts (is_plain (terminal_of x)) (not (names Body (terminal_of x))) h).1) refl

-- inside an expression, a name declares nothing
name_terminal : (k : Terminal) (text : List ℕ) (st : TokenScan) → names Body k ≡ true → is_inside st.previous ≡ true → after_terminal k text st ≡ st
name_terminal terminal.Name text st h i = no_name st.previous i
  where
    no_name : (last : Option Terminal) → is_inside last ≡ true
        → cond (previous_is terminal.Int last || previous_is terminal.For last) (record st { naming = Some text }) st
        ≡ st
    no_name None i = absurd cc
    no_name (Some k) i = let f = six_false (is terminal.Semicolon k) (is terminal.LeftBrace k)
        (is terminal.RightBrace k) (is terminal.Int k) (is terminal.For k) (is terminal.Trap k) i in rw (f.3, f.4) refl
name_terminal terminal.TypeWord text st h i = no_name st.previous i
  where
    no_name : (last : Option Terminal) → is_inside last ≡ true
        → cond (previous_is terminal.Int last || previous_is terminal.For last) (record st { naming = Some text }) st
        ≡ st
    no_name None i = absurd cc
    no_name (Some k) i = let f = six_false (is terminal.Semicolon k) (is terminal.LeftBrace k)
        (is terminal.RightBrace k) (is terminal.Int k) (is terminal.For k) (is terminal.Trap k) i in rw (f.3, f.4) refl
name_terminal _ text st h i = absurd cc

name_plain : (k : Terminal) → names Body k ≡ true → is_plain k ≡ true
name_plain terminal.Name h = refl
name_plain terminal.TypeWord h = refl
name_plain _ h = absurd cc

-- ---- a stretch of tokens inside an expression

-- The tokens of s before the rest r. The verdict says whether their names have a fault; along them nothing else
-- changes.
pub record Judges (scope : Environment) (s r : List Token) (verdict : List Variable → Resolved (Unit {0})) : Type 0 where
  pub word : List Token
  pub parts : s ≡ word ++ r
  pub ends : Terminal
  pub plain : is_plain ends ≡ true
  pub judges : (st : TokenScan) → is_inside st.previous ≡ true → along scope st word r ≡ and_then (verdict st.bindings.seen) (λ _. Ok (with_previous ends st))

-- no fault
abbrev pub faultless : List Variable → Resolved (Unit {0})
faultless seen = Ok tt

module _ (scope : Environment) where
  pub same_verdict : (s r : List Token) (V U : List Variable → Resolved (Unit {0}))
      → ((seen : List Variable) → V seen ≡ U seen) → Judges scope s r V → Judges scope s r U
  same_verdict s r V U e j =
      record {
        word = j.word;
        parts = j.parts;
        ends = j.ends;
        plain = j.plain;
        judges = λ st i. j.judges st i ∙ ap (λ (v : Resolved (Unit {0})). and_then v (λ _. Ok (with_previous j.ends st))) (e st.bindings.seen);
      }

  pub same_rest : (s r q : List Token) (V : List Variable → Resolved (Unit {0})) → r ≡ q → Judges scope s r V → Judges scope s q V
  same_rest s r q V e j = subst (λ (l : List Token). Judges scope s l V) e j

  -- a quiet token alone
  pub quiet_judges : (s r : List Token) (x : Token) → s ≡ x ∷ r → is_quiet (terminal_of x) ≡ true → Judges scope s r faultless
  quiet_judges s r x e q =
      record {
        word = x ∷ [];
        parts = e;
        ends = terminal_of x;
        plain = (and_parts (is_plain (terminal_of x)) (not (names Body (terminal_of x))) q).0;
        judges = λ st i. rw (quiet_judged scope x r st q) (ap (λ (m : TokenScan). Ok m) (quiet_after x st q));
      }

  -- one stretch, and then another
  pub then_judges : (s m r : List Token) (V U : List Variable → Resolved (Unit {0})) → Judges scope s m V
      → Judges scope m r U → Judges scope s r (λ seen. and_then (V seen) (λ _. U seen))
  then_judges s m r V U a b =
      record {
        word = a.word ++ b.word;
        parts = a.parts ∙ (ap (λ (l : List Token). a.word ++ l) b.parts ∙ sym (append_assoc a.word b.word r));
        ends = b.ends;
        plain = b.plain;
        judges = λ st i.
            along_append scope st a.word b.word r
            ∙ (ap (λ (l : List Token). and_then (along scope st a.word l) (λ m. along scope m b.word r)) (sym b.parts)
            ∙ (ap (λ (v : Resolved TokenScan). and_then v (λ m. along scope m b.word r)) (a.judges st i)
            ∙ (after_after (V st.bindings.seen) (λ _. Ok (with_previous a.ends st)) (λ m. along scope m b.word r)
            ∙ (after_same (V st.bindings.seen) (λ _. along scope (with_previous a.ends st) b.word r)
            (λ _. and_then (U st.bindings.seen) (λ _. Ok (with_previous b.ends st)))
            (λ _. b.judges (with_previous a.ends st) a.plain)
            ∙ sym (after_after (V st.bindings.seen) (λ _. U st.bindings.seen) (λ _. Ok (with_previous b.ends st)))))));
      }

  nothing_after : (v : Resolved (Unit {0})) → and_then v (λ _. Ok tt) ≡ v
  nothing_after (Ok x) = refl
  nothing_after (Err e) = refl

  -- a quiet token before a stretch, and one after it
  pub token_then : (s m r : List Token) (x : Token) (V : List Variable → Resolved (Unit {0})) → s ≡ x ∷ m
      → is_quiet (terminal_of x) ≡ true → Judges scope m r V → Judges scope s r V
  token_then s m r x V e q j = same_verdict s r (λ seen. and_then (faultless seen) (λ _. V seen)) V (λ seen. refl)
      (then_judges s m r faultless V (quiet_judges s m x e q) j)

  pub then_token : (s m r : List Token) (x : Token) (V : List Variable → Resolved (Unit {0})) → m ≡ x ∷ r
      → is_quiet (terminal_of x) ≡ true → Judges scope s m V → Judges scope s r V
  then_token s m r x V e q j = same_verdict s r (λ seen. and_then (V seen) (λ _. faultless seen)) V
      (λ seen. nothing_after (V seen)) (then_judges s m r V faultless j (quiet_judges m r x e q))

  -- a name that stands for a number, and one before an index
  name_judges : (s r : List Token) (x : Token) (j : Role) (V : List Variable → Resolved (Unit {0})) → s ≡ x ∷ r
      → names Body (terminal_of x) ≡ true → cond (starts (is terminal.LeftBracket) r) role.Element role.Value ≡ j
      → ((st : TokenScan) → judged_as j scope st.bindings (word_of x) ≡ V st.bindings.seen) → Judges scope s r V
  name_judges s r x j V e n role_is verdict =
      record {
        word = x ∷ [];
        parts = e;
        ends = terminal_of x;
        plain = name_plain (terminal_of x) n;
        judges = λ st i.
            let judged_is : judged scope st (x ∷ r) ≡ V st.bindings.seen = rw (n, inside_role st.previous r i, role_is) (verdict st) in
            rw (judged_is, name_terminal (terminal_of x) x.text st n i) refl;
      }

  pub value_judges : (s r : List Token) (x : Token) → s ≡ x ∷ r → names Body (terminal_of x) ≡ true
      → starts (is terminal.LeftBracket) r ≡ false → Judges scope s r
      (λ seen. fault_of (value_of (word_of x) (meaning_of scope seen x.text)))
  value_judges s r x e n b = name_judges s r x role.Value (λ seen. fault_of (value_of (word_of x) (meaning_of scope seen x.text))) e n (rw b refl) (λ st. refl)

  pub element_judges : (s r : List Token) (x : Token) → s ≡ x ∷ r → names Body (terminal_of x) ≡ true
      → starts (is terminal.LeftBracket) r ≡ true → Judges scope s r (λ seen. fault_of (read_flow scope (word_of x)))
  element_judges s r x e n b = name_judges s r x role.Element (λ seen. fault_of (read_flow scope (word_of x))) e n (rw b refl) (λ st. refl)
