use Rattle.std.proofs.Common.{◌≡◌, ◌≤◌, ◌-◌, drop, get_or}
use Rattle.jdf_lex.specs.Counted.{is_counted}
use Rattle.jdf_lex.specs.Terminals.{set}
use Rattle.grammar_core.specs.TooMany.{token_indices}
use Rattle.jdf_lex.proofs.limit.expression_limit.Given as goal

-- counted from here on, the first token that is too many is the same
abbrev pub invariant-loop-index : goal.invariant-loop-index
invariant-loop-index l = record {
  at_most : l.index ≤ 512;
  left : l.counted ≤ 128;
  same : get_or (token_indices (set is_counted) l.index (drop l.index l.tokens)) (128 - l.counted) 512
      ≡ get_or (token_indices (set is_counted) 0 l.tokens) 128 512;
}
