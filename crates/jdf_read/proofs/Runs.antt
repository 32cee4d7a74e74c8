-- The longest run of tokens of a set.
use Rattle.std.proofs.Common.{◌≡◌, ℕ, suc, ◌+◌, length, Bool, true, false, cond, List, [], ◌∷◌, Ok, Err, take, drop, refl, sym, ap, ◌∙◌, arith}
use Rattle.std.specs.Prelude.{Some, None, not}
use Rattle.std.specs.List.{prefix_len}
use Rattle.jdf_lex.specs.declared.terminal.Terminal.TheVariants as terminal
use Rattle.jdf_tree.specs.ClassGrammar.{is_in_body, begins_body, body_tokens}
use Rattle.grammar_core.specs.declared.token.Token.{Token}
use Rattle.jdf_lex.specs.declared.terminal.Terminal.{Terminal}
use Rattle.jdf_lex.specs.Terminals.{is, set, terminal_of}
use Rattle.grammar_core.specs.declared.code.Code.TheVariants.{Syntax}
use Rattle.grammar_core.specs.Production.{star}
use Rattle.jdf_lex.specs.Sets.{one_of, starts}
use Rattle.grammar_core.specs.Reading.{◌>>=◌, Read, reading, fault_from_end}
use Rattle.grammar_core.proofs.CallerLemmas.{IsListed, applied, many_from, many_step, pair_with}
use Rattle.jdf_tree.specs.Nonterminal.{Grammar}
use Rattle.jdf_tree.specs.GrammarParts.{any, maybe}
use Rattle.jdf_tree.specs.Grammar.{productions}
use Rattle.std.specs.Cmp.{first_so}
use Rattle.std.specs.Option.{unwrap_or}

-- a token of this set
abbrev one : (Terminal → Bool) → Grammar Token
one q = one_of q

-- the length of the run
abbrev pub run_len : (Terminal → Bool) → List Token → ℕ
run_len q s = prefix_len (λ x. q (terminal_of x)) s

listed : (q : Terminal → Bool) → IsListed productions (one q) (set q)
listed q = record { full = refl; begins = λ s. refl }

-- the first token, if it is in the set
abbrev token_if : Bool → Token → List Token → Read Token
token_if b x s = cond b (Ok (x, s)) (Err (fault_from_end (length (x ∷ s)) Syntax))

run_from : (q : Terminal → Bool) (i : ℕ) (s : List Token) → many_from productions any (one q) i s ≡ Ok (take (run_len q s) s, drop (run_len q s) s)
run_from q i [] = many_step productions any (one q) (set q) (listed q) i []
run_from q i (x ∷ s) = many_step productions any (one q) (set q) (listed q) i (x ∷ s) ∙ go (q (terminal_of x)) (run_from q (suc i) s)
  where
    go : (b : Bool) → many_from productions any (one q) (suc i) s ≡ Ok (take (run_len q s) s, drop (run_len q s) s)
        → cond b (token_if b x s >>= λ a. many_from productions any (one q) (suc i) a.1 >>= applied (λ (more : List Token). a.0 ∷ more)) (Ok ([], x ∷ s))
        ≡ Ok (take (cond b (1 + run_len q s) 0) (x ∷ s), drop (cond b (1 + run_len q s) 0) (x ∷ s))
    go false h = refl
    go true h = let up : 1 + run_len q s ≡ suc (run_len q s) = omega arith in rw (h, up) refl

pub run_reads : (q : Terminal → Bool) (s : List Token) → reading productions (star any (one_of q)) s ≡ Ok (take (run_len q s) s, drop (run_len q s) s)
unfolding many_from
run_reads q s = run_from q 0 s

-- ---- properties

-- splitting off the run is reading a list of tokens of the set
pub split_is : (q : Terminal → Bool) (s front back : List Token) → front ≡ take (run_len q s) s
    → back ≡ drop (run_len q s) s → reading productions (star any (one_of q)) s ≡ Ok (front, back)
split_is q s front back f b = run_reads q s ∙ sym (rw (f, b) refl)

-- ---- bodies

pub no_body : (s : List Token) → starts begins_body s ≡ false → reading productions (maybe body_tokens) s ≡ Ok ([], s)
unfolding body_tokens
no_body s h = rw h refl

abbrev first_and : Token × List Token → List Token
first_and y = y.0 ∷ y.1

pub body_is : (s front back : List Token) → starts begins_body s ≡ true → front ≡ take (run_len is_in_body s) s
    → back ≡ drop (run_len is_in_body s) s → reading productions (maybe body_tokens) s ≡ Ok (front, back)
unfolding body_tokens
body_is [] front back h f b = absurd cc
body_is (x ∷ s) front back h f b =
    let n = run_len is_in_body s in
    let g : is_in_body (terminal_of x) ≡ true = first_so (is_in_body (terminal_of x)) (not (is terminal.LeftBracket (terminal_of x))) h in
    let up : run_len is_in_body (x ∷ s) ≡ suc n = ap (λ (c : Bool). cond c (1 + n) 0) g ∙ omega arith in
    let front_is : front ≡ x ∷ take n s = f ∙ ap (λ (m : ℕ). take m (x ∷ s)) up in
    let back_is : back ≡ drop n s = b ∙ ap (λ (m : ℕ). drop m (x ∷ s)) up in
    let read : reading productions (maybe body_tokens) (x ∷ s) ≡ Ok (x ∷ take n s, drop n s) =
    go (starts begins_body (x ∷ s)) (reading productions (star any (one_of is_in_body))) h
    (run_reads is_in_body s) in
    rw (front_is, back_is) read
  where
    go : (c : Bool) (r : List Token → Read (List Token)) → c ≡ true → r s ≡ Ok (take (run_len is_in_body s) s, drop (run_len is_in_body s) s)
        → (cond c (((token_if c x s >>= λ a. r a.1 >>= pair_with a.0) >>= applied first_and) >>= applied Some)
        (Ok (None, x ∷ s)) >>= applied (λ o. unwrap_or o []))
        ≡ Ok (x ∷ take (run_len is_in_body s) s, drop (run_len is_in_body s) s)
    go c r e h = rw (e, h) refl
