-- What proofs of other crates cite of this crate's proofs, and when. They import no other file of it.
-- == WithinBounds: The value of a binary operation is within the bound that the bounds of its operands give.
-- a number other than 0 is not equal to 0
pub use Rattle.term_core.proofs.WithinBounds.{is_nonzero}
