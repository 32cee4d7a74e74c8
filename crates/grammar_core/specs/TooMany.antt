-- The index of the first token that is too many, by count.
-- Carried by: law `text_laws::is_read_exactly`; the readers of `expr_read`, `jdf_read`, `body_lang`.
-- Tested by: `body_limits.txt`, `too_many.txt`, `long_expressions.txt`.
use Rattle.std.specs.Prelude.{ℕ, Bool, List, min, map, filter, slice_index_or}
use Rattle.std.specs.List.{enumerate_from}
use Rattle.grammar_core.specs.declared.token.Token.{Token}
use Rattle.grammar_core.specs.Terminals.{Terminal}
use Rattle.grammar_core.specs.Terminals.{terminal_of}

-- the indices of the tokens of this set, if the first token has index i
unfoldable pub token_indices : (Terminal → Bool) → ℕ → List Token → List ℕ
token_indices q i s = map (λ p. p.0) (filter (λ p. q (terminal_of p.1)) (enumerate_from i s))

-- The index of the first token that is too many: the one after cap tokens, or the token of this set after n others of
-- it, whichever comes first.
unfoldable pub limit_at : (Terminal → Bool) → ℕ → ℕ → List Token → ℕ
limit_at q cap n s = min cap (slice_index_or (token_indices q 0 s) n cap)
