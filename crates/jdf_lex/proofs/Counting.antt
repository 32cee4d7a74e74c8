-- The loop that looks for the first token that is too many.
use Rattle.std.proofs.Common.{◌≡◌, ℕ, suc, ◌+◌, ◌≤◌, ◌<◌, Bool, true, false, List, ◌∷◌, length, drop, get_or, sym, ap, ◌∙◌, arith, add-one}
use Rattle.std.proofs.Math.Seq.{drop-cons}
use Rattle.std.proofs.lemmas.List.{drop_all}
use Rattle.grammar_core.specs.declared.token.Token.{Token}
use Rattle.grammar_core.specs.Terminals as numbered
use Rattle.jdf_lex.specs.declared.terminal.Terminal.{Terminal}
use Rattle.jdf_lex.specs.Terminals.{terminal_of}
use Rattle.jdf_lex.specs.Counted.{is_counted}
use Rattle.grammar_core.specs.TooMany.{token_indices, limit_at}
use Rattle.grammar_core.specs.CountedLimit.{indices_none, indices_kept, indices_passed, not_before}

-- what the code found of the token at this index holds of its terminal
pub found : (x y : Token) (k : Terminal) (r b : Bool) → x ≡ y → k ≡ terminal_of x → r ≡ is_counted k → r ≡ b → is_counted (terminal_of y) ≡ b
found x y k r b e f g h = ap (λ (z : Token). is_counted (terminal_of z)) (sym e) ∙ (sym (ap is_counted f) ∙ (sym g ∙ h))

-- i tokens were passed, and m more tokens of this set may follow
module _ (q : ℕ → Bool) (s : List Token) (cap n i m : ℕ) (same : get_or (token_indices q i (drop i s)) m cap ≡ get_or (token_indices q 0 s) n cap) where
  pub all_passed : i ≡ cap → cap ≡ limit_at q cap n s
  unfolding limit_at
  all_passed e = omega (arith, same, not_before q (drop i s) i m cap)

  pub none_follows : length s ≤ i → cap ≡ limit_at q cap n s
  unfolding limit_at
  none_follows h = let e = rw (drop_all i s h, indices_none q i) at same in omega (arith, e)

  module _ (d : Token) (inside : i < length s) where
    here : drop i s ≡ get_or s i d ∷ drop (i + 1) s
    here = drop-cons s i d inside ∙ ap (λ (j : ℕ). get_or s i d ∷ drop j s) (sym (add-one i))

    pub stops_here : i < cap → m ≡ 0 → q (numbered.terminal_of (get_or s i d)) ≡ true → i ≡ limit_at q cap n s
    unfolding limit_at
    stops_here few e t = let k = rw (here, indices_kept q i (get_or s i d) (drop (i + 1) s) t, e) at same in omega (arith, k)

    pub one_counted : (l : ℕ) → m ≡ suc l → q (numbered.terminal_of (get_or s i d)) ≡ true
        → get_or (token_indices q (i + 1) (drop (i + 1) s)) l cap ≡ get_or (token_indices q 0 s) n cap
    one_counted l e t = rw (here, indices_kept q i (get_or s i d) (drop (i + 1) s) t, e) at same

    pub one_passed : q (numbered.terminal_of (get_or s i d)) ≡ false
        → get_or (token_indices q (i + 1) (drop (i + 1) s)) m cap ≡ get_or (token_indices q 0 s) n cap
    one_passed f = rw (here, indices_passed q i (get_or s i d) (drop (i + 1) s) f) at same
