-- When one token of lookahead suffices for a grammar.
-- Carried by: law `text_laws::is_read_exactly`.
use Rattle.std.specs.Prelude.{◌≡◌, true}
use Rattle.grammar_core.specs.Production.{Production}
use Rattle.grammar_core.specs.Predictive.{Claims, is_fine, are_names, LimitsOnly}

-- For the grammar from this production on, one token of lookahead is enough, with a second one at a `pick`. Each
-- production is fine, the claims of each nonterminal hold, and no limit has the code Syntax.
pub record IsPredictive {N : Type 0} {Tree : N → Type 0} (body : (n : N) → Production N Tree (Tree n))
    (claims : Claims N) {A : Type 0} (g : Production N Tree A) : Type 0 where
  pub nonterminals : (n : N) → are_names body claims n ≡ true
  pub nonterminal_limits : (n : N) → LimitsOnly (body n)
  pub start : is_fine claims g ≡ true
  pub start_limits : LimitsOnly g
