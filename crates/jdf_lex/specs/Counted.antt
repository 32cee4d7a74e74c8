-- The limit of an expression: 512 tokens, of which at most 128 are names, numbers, operators or "?".
-- Carried by: law `text_laws::is_read_exactly`; the readers of `expr_read`, `jdf_read`, `body_lang`.
-- Tested by: `body_limits.txt`, `too_many.txt`, `long_expressions.txt`.
use Rattle.std.specs.Prelude.{ℕ, pred, Bool, ◌||◌}
use Rattle.jdf_lex.specs.declared.terminal.Terminal.{Terminal}
use Rattle.jdf_lex.specs.declared.terminal.Terminal.TheVariants.{Name, TypeWord, Int, If, Else, For, Trap, Number, Question, Plus, Minus, Star}
use Rattle.jdf_lex.specs.declared.terminal.Terminal.TheVariants.{Slash, Percent, Equal, NotEqual, Less, AtMost, Greater, AtLeast, And, AndAnd, Or}
use Rattle.jdf_lex.specs.declared.terminal.Terminal.TheVariants.{OrOr, Not}
use Rattle.jdf_lex.specs.Terminals.{is, set}
use Rattle.grammar_core.specs.Production.{Limit}
use Rattle.grammar_core.specs.CountedLimit.{limit_one, limit_keeps, limit_stays}
use Rattle.grammar_core.specs.TooMany.{limit_at}

-- the words that are names outside of bodies, including `type` and the words that have a meaning in bodies alone
abbrev pub is_name : Terminal → Bool
is_name k = is Name k || is TypeWord k || is Int k || is If k || is Else k || is For k || is Trap k

-- the terminals that are counted: names, numbers, operators and "?"
unfoldable pub is_counted : Terminal → Bool
is_counted k =
    is_name k || is Number k || is Question k || is Plus k || is Minus k || is Star k || is Slash k || is Percent k
    || is Equal k || is NotEqual k || is Less k || is AtMost k || is Greater k || is AtLeast k
    || is And k || is AndAnd k || is Or k || is OrOr k || is Not k

-- how many tokens an expression may have
abbrev pub most_expression_tokens : ℕ
most_expression_tokens = 512

-- how many counted tokens an expression may have
abbrev pub most_counted : ℕ
most_counted = 128

-- the limit: at most 512 tokens, and at most 128 counted ones among them
abbrev pub expression_limit : Limit
expression_limit =
    record {
      at = limit_at (set is_counted) most_expression_tokens most_counted;
      one = limit_one (set is_counted) (pred most_expression_tokens) (pred most_counted);
      keeps = λ w r r' h. limit_keeps (set is_counted) w most_expression_tokens most_counted r r' h;
      stays = λ w x r r' h. limit_stays (set is_counted) w most_expression_tokens most_counted x r r' h;
    }
