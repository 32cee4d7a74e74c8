-- Terminals as numbers, and sets of them.
use Rattle.std.specs.Prelude.{ℕ, zero, suc, Bool, true, false, ◌&&◌, ◌||◌, ◌%◌, not}
use Rattle.grammar_core.specs.declared.token.Token.{Token}

-- a terminal by its number in the alphabet of the text
abbrev pub Terminal : Type 0
Terminal = ℕ

-- how many terminals there are: an alphabet has at most this many
abbrev pub terminal_count : ℕ
terminal_count = 64

-- The terminal of a token: its number modulo `terminal_count`, so that every token has one.
unfoldable pub terminal_of : Token → Terminal
terminal_of x = x.terminal % terminal_count

-- Whether all terminals below n are in the set.
abbrev pub all_are : (Terminal → Bool) → ℕ → Bool
all_are p zero = true
all_are p (suc n) = p n && all_are p n

-- Whether some terminal below n is in the set.
abbrev pub some_is : (Terminal → Bool) → ℕ → Bool
some_is p zero = false
some_is p (suc n) = p n || some_is p n

-- Whether no terminal is in both sets.
abbrev pub are_disjoint : (Terminal → Bool) → (Terminal → Bool) → Bool
are_disjoint a b = all_are (λ k. not (a k && b k)) terminal_count

-- Whether the first set is within the second.
abbrev pub is_within : (Terminal → Bool) → (Terminal → Bool) → Bool
is_within a b = all_are (λ k. not (a k) || b k) terminal_count
