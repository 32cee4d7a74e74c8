-- What proofs of other crates cite of this crate's proofs, and when. They import no other file of it.
-- == Loops: Reading operands and operators as the code's loop does, and which production the next token selects.
-- reading leaves no more tokens than there were
pub use Rattle.expr_read.proofs.Loops.{reading_shrinks}
-- reading one token leaves fewer tokens than there were
pub use Rattle.expr_read.proofs.Loops.{token_shrinks}
-- == Windows: Reading in a window that ends after the first token that a limit does not allow.
-- tokens no more than the limit are read with the limit as without it
pub use Rattle.expr_read.proofs.Windows.{within_limit}
-- a fault of reading leaves no more tokens than there were
pub use Rattle.expr_read.proofs.Windows.{fault_within}
-- a text that ends inside the window, and the tokens after it
pub use Rattle.expr_read.proofs.Windows.{slice}
-- a fault before the window's end is the fault of reading all tokens with the limit
pub use Rattle.expr_read.proofs.Windows.{fault}
-- if neither a tree nor a fault comes before the window's end, the fault is the limit's
pub use Rattle.expr_read.proofs.Windows.{cut}
