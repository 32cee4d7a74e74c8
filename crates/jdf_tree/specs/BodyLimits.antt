-- How deep the blocks of a body may nest, and how many variables it may declare.
-- Carried by: `body_lang::tree`, `body_lang::read`.
-- Tested by: `body_syntax.txt`, `body_reserved.txt`, `body_limits.txt`, `body_two_faults.txt`.
use Rattle.std.specs.Prelude.{◌≡◌, ℕ, ◌-◌, Bool, true, false, nat_le, ◌&&◌, ◌||◌, List, [], if◌then◌else◌, count_by, refl, ◌+◌}
use Rattle.ptg_base.specs.Limits.{most_variables}
use Rattle.grammar_core.specs.declared.token.Token.{Token}
use Rattle.jdf_lex.specs.declared.terminal.Terminal.{Terminal}
use Rattle.jdf_lex.specs.declared.terminal.Terminal.TheVariants as terminal
use Rattle.jdf_lex.specs.Terminals.{terminal_of, is}
use Rattle.grammar_core.specs.Production.{Limit}
use Rattle.grammar_core.specs.LimitBy.{limit_by}
use Rattle.jdf_lex.specs.Sets.{starts}

-- how many of the tokens are in this set
abbrev pub how_many : (Terminal → Bool) → List Token → ℕ
how_many q s = count_by (λ x. q (terminal_of x)) s

-- how many blocks are open after these tokens
abbrev pub open_blocks : List Token → ℕ
open_blocks s = how_many (is terminal.LeftBrace) s - how_many (is terminal.RightBrace) s

-- how deep blocks may nest
abbrev pub most_nested : ℕ
most_nested = 32

-- How many blocks may be open before a brace that opens another one; the braces around a whole body do not count.
abbrev pub most_blocks : List Token → ℕ
most_blocks s = if starts (is terminal.LeftBrace) s then most_nested + 1 else most_nested

-- Whether a token is a brace that opens a block too deep: the greatest number of blocks is open before it.
unfoldable pub is_too_deep : List Token → Token → Bool
is_too_deep front x = is terminal.LeftBrace (terminal_of x) && nat_le (most_blocks front) (open_blocks front)

-- whether a terminal is a word that declares a variable
abbrev pub declares : Terminal → Bool
declares k = is terminal.Int k || is terminal.For k

-- Whether a token declares a variable too many: `most_variables` are declared before it.
unfoldable pub is_too_many : List Token → Token → Bool
is_too_many front x = declares (terminal_of x) && nat_le most_variables (how_many declares front)

-- a conjunction with false is false
never : (b : Bool) → (b && false) ≡ false
never b = elim b as (λ v. (v && false) ≡ false) [ true ↦ refl | false ↦ refl ]

-- the first token of a body is not too deep
pub none_too_deep : (x : Token) → is_too_deep [] x ≡ false
unfolding is_too_deep
none_too_deep x = never (is terminal.LeftBrace (terminal_of x))

-- the first token of a body does not declare a variable too many
pub none_too_many : (x : Token) → is_too_many [] x ≡ false
unfolding is_too_many
none_too_many x = never (declares (terminal_of x))

-- the limit: blocks nest at most `most_nested` deep
unfoldable pub block_limit : Limit
block_limit = limit_by is_too_deep none_too_deep

-- the limit: at most `most_variables` variables
unfoldable pub variable_limit : Limit
variable_limit = limit_by is_too_many none_too_many
