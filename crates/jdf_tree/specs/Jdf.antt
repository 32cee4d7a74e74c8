-- The text of a JDF. Source: the JDF documentation.
-- Carried by: `jdf_read::read`; law `trees_are_within_limits`.
-- Tested by: `spelling.txt`, `as_many_as_may_be.txt`.
use Rattle.std.specs.Prelude.{ℕ, ◌≤◌, List, length, None}
use Rattle.std.specs.Str.{IsUtf8}
use Rattle.ptg_base.specs.Limits.{most_bytes, most_tokens}
use Rattle.grammar_core.specs.declared.token.Spot.{Spot}
use Rattle.grammar_core.specs.declared.token.Token.{Token}
use Rattle.jdf_lex.specs.Tokens.{IsLexed}
use Rattle.grammar_core.specs.Production.{IsText}
use Rattle.jdf_tree.specs.declared.tree.Jdf.{Jdf}
use Rattle.jdf_tree.specs.Grammar.{productions, file}

-- The bytes are the text of this tree: at most `most_bytes` bytes of UTF-8, with at most `most_tokens` tokens, which
-- are a text of the grammar without a fault.
pub record IsJdf (bytes : List ℕ) (jdf : Jdf) : Type 0 where
  pub bytes_at_most : length bytes ≤ most_bytes
  pub utf8 : IsUtf8 bytes
  pub tokens : List Token
  pub end : Spot
  pub lexed : IsLexed bytes tokens end
  pub tokens_at_most : length tokens ≤ most_tokens
  pub text : IsText productions file tokens jdf None
