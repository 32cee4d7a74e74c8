-- A token of each terminal.
use Rattle.std.proofs.Common.{◌≡◌, ◌<◌, [], arith}
use Rattle.std.proofs.Math.Nat.{mod-lt, mod-eq_of_lt}
use Rattle.grammar_core.specs.declared.token.Token.{Token}
use Rattle.grammar_core.specs.Terminals.{Terminal, terminal_of}

pub token_of : Terminal → Token
token_of k = record { terminal = k; text = []; start = 0; end = 0; spot = record { line = 0; column = 0 } }

pub terminal_of_token : (k : Terminal) → k < 64 → terminal_of (token_of k) ≡ k
unfolding terminal_of token_of
terminal_of_token k lt = mod-eq_of_lt lt

-- each token has one of the terminals
pub terminal_below : (x : Token) → terminal_of x < 64
unfolding terminal_of
terminal_below x = mod-lt x.terminal (omega arith)
