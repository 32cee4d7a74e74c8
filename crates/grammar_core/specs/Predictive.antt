-- The test for predictive grammars: those that can be read with one token of lookahead, and a second one at a `pick`.
-- Source: the field's LL(1) grammars.
use Rattle.std.specs.Prelude.{◌≡◌, ℕ, Option, Some, None, Bool, true, false, ◌&&◌, ◌||◌, not, is_none}
use Rattle.grammar_core.specs.Terminals.{Terminal}
use Rattle.grammar_core.specs.declared.code.Code.{Code}
use Rattle.grammar_core.specs.declared.code.Code.TheVariants.{Syntax}
use Rattle.grammar_core.specs.Terminals.{terminal_count, some_is, are_disjoint, is_within}
use Rattle.grammar_core.specs.Production.{Production, one_of, checked, seq, map, alt, opt, star, pick, after_token, limited}
use Rattle.grammar_core.specs.Reading.{may_be_empty, first}

-- Two sets of terminals, claimed of each nonterminal: its first set, and the terminals with which reading would
-- continue a text of it.
pub record Claims (N : Type 0) : Type 0 where
  pub firsts : N → Terminal → Bool
  pub continues : N → Terminal → Bool

-- The terminals with which reading would continue a text of this production, instead of ending it.
abbrev pub continuing : {N : Type 0} {Tree : N → Type 0} → Claims N → {A : Type 0} → Production N Tree A → Terminal
    → Bool
continuing c (one_of q) k = false
continuing c (checked q good d) k = false
continuing c (seq g h) k = continuing c h k || (may_be_empty h && continuing c g k)
continuing c (map f g) k = continuing c g k
continuing c (alt g h) k = continuing c g k || (continuing c h k || (may_be_empty h && first g k))
continuing c (pick q g h) k = continuing c g k || continuing c h k
continuing c (opt g) k = first g k || continuing c g k
continuing c (star full g) k = first g k || continuing c g k
continuing c (after_token q n) k = c.continues n k
continuing c (limited l d g) k = continuing c g k

-- Whether one token of this set alone may be a text of the production.
abbrev pub alone : {N : Type 0} {Tree : N → Type 0} → (Terminal → Bool) → {A : Type 0} → Production N Tree A → Bool
alone a (one_of q) = some_is (λ k. a k && q k) terminal_count
alone a (checked q good d) = some_is (λ k. a k && q k) terminal_count
alone a (seq g h) = (alone a g && may_be_empty h) || (may_be_empty g && alone a h)
alone a (map f g) = alone a g
alone a (alt g h) = alone a g || alone a h
alone a (pick q g h) = alone a g || alone a h
alone a (opt g) = alone a g
alone a (star full g) = alone a g
alone a (after_token q n) = false
alone a (limited l d g) = alone a g

-- The terminals that may be second in a text whose first token is in this set.
abbrev pub second : {N : Type 0} {Tree : N → Type 0} → Claims N → (Terminal → Bool) → {A : Type 0} → Production N Tree A
    → Terminal → Bool
second c a (one_of q) k = false
second c a (checked q good d) k = false
second c a (seq g h) k = second c a g k || ((alone a g && first h k) || (may_be_empty g && second c a h k))
second c a (map f g) k = second c a g k
second c a (alt g h) k = second c a g k || second c a h k
second c a (pick q g h) k = second c a g k || second c a h k
second c a (opt g) k = second c a g k
second c a (star full g) k = second c a g k || (alone a g && first g k)
second c a (after_token q n) k = some_is (λ x. a x && q x) terminal_count && c.firsts n k
second c a (limited l d g) k = second c a g k

-- the terminals that are in both first sets
abbrev pub both_first : {N : Type 0} {Tree : N → Type 0} {A : Type 0} → Production N Tree A → Production N Tree A
    → Terminal → Bool
both_first g h k = first g k && first h k

-- Whether the code is one of a limit, and not Syntax.
abbrev pub is_limit : Code → Bool
is_limit Syntax = false
is_limit _ = true

-- Whether there is no code, or one of a limit.
abbrev pub are_limits : Option Code → Bool
are_limits None = true
are_limits (Some d) = is_limit d

-- Whether no text of the production has a fault at its first token if that is in the set a. If w holds, only the fault
-- Syntax counts.
abbrev pub is_safe : {N : Type 0} {Tree : N → Type 0} → Bool → (Terminal → Bool) → {A : Type 0} → Production N Tree A
    → Bool
is_safe w a (one_of q) = true
is_safe w a (checked q good d) = w || are_disjoint a q
is_safe w a (seq g h) = is_safe w a g && is_safe w a h
is_safe w a (map f g) = is_safe w a g
is_safe w a (alt g h) = is_safe w a g && is_safe w a h
is_safe w a (pick q g h) = is_safe w a g && is_safe w a h
is_safe w a (opt g) = is_safe w a g
is_safe w a (star full g) = is_safe w a g && (w || is_none (full 0))
is_safe w a (after_token q n) = true
is_safe w a (limited l d g) = is_safe w a g

-- Whether the next token (at a `pick`, the next two) decides at each point of the production what to read, and each
-- part of it has a text.
abbrev pub is_fine : {N : Type 0} {Tree : N → Type 0} → Claims N → {A : Type 0} → Production N Tree A → Bool
is_fine c (one_of q) = some_is q terminal_count
is_fine c (checked q good d) = some_is q terminal_count && is_limit d
is_fine c (seq g h) = is_fine c g && (is_fine c h && are_disjoint (continuing c g) (first h))
is_fine c (map f g) = is_fine c g
is_fine c (alt g h) = is_fine c g && (is_fine c h && (not (may_be_empty g) && are_disjoint (first g) (first h)))
is_fine c (pick q g h) =
    is_fine c g && (is_fine c h && (not (may_be_empty g) && (not (may_be_empty h)
    && (not (alone (both_first g h) g) && (not (alone (both_first g h) h)
    && (is_within (second c (both_first g h) g) q && (are_disjoint (second c (both_first g h) h) q
    && (is_safe false (both_first g h) g && is_safe false (both_first g h) h))))))))
is_fine c (opt g) = is_fine c g && not (may_be_empty g)
is_fine c (star full g) =
    is_fine c g && (not (may_be_empty g) && (are_disjoint (continuing c g) (first g) && are_limits (full 0)))
is_fine c (after_token q n) = some_is q terminal_count
is_fine c (limited l d g) = is_fine c g

-- Whether the production has a text without nonterminals.
abbrev pub has_plain : {N : Type 0} {Tree : N → Type 0} {A : Type 0} → Production N Tree A → Bool
has_plain (one_of q) = some_is q terminal_count
has_plain (checked q good d) = some_is q terminal_count
has_plain (seq g h) = has_plain g && has_plain h
has_plain (map f g) = has_plain g
has_plain (alt g h) = has_plain g || has_plain h
has_plain (pick q g h) = has_plain g || has_plain h
has_plain (opt g) = true
has_plain (star full g) = true
has_plain (after_token q n) = false
has_plain (limited l d g) = has_plain g

-- Whether the production of this nonterminal is fine and never empty, has a text without nonterminals, and has its two
-- sets within the claimed ones.
abbrev pub are_names : {N : Type 0} {Tree : N → Type 0} → ((n : N) → Production N Tree (Tree n)) → Claims N → N → Bool
are_names body c n =
    is_fine c (body n) && (has_plain (body n) && (not (may_be_empty (body n))
    && (is_within (first (body n)) (c.firsts n) && is_within (continuing c (body n)) (c.continues n))))

-- No limit of the production has the code Syntax.
abbrev pub LimitsOnly : {N : Type 0} {Tree : N → Type 0} {A : Type 0} → Production N Tree A → Type 0
LimitsOnly (one_of q) = Unit {0}
LimitsOnly (checked q good d) = is_limit d ≡ true
LimitsOnly (seq g h) = LimitsOnly g × LimitsOnly h
LimitsOnly (map f g) = LimitsOnly g
LimitsOnly (alt g h) = LimitsOnly g × LimitsOnly h
LimitsOnly (pick q g h) = LimitsOnly g × LimitsOnly h
LimitsOnly (opt g) = LimitsOnly g
LimitsOnly (star full g) = LimitsOnly g × ((i : ℕ) → are_limits (full i) ≡ true)
LimitsOnly (after_token q n) = Unit {0}
LimitsOnly (limited l d g) = LimitsOnly g × (is_limit d ≡ true)
