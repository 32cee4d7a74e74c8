-- What proofs of other crates cite of this crate's proofs, and when. They import no other file of it.
-- == Closed: A resolved expression is closed, if what its names mean is closed.
-- the term of a resolved expression names only the locals and flows that its scope has
pub use Rattle.expr_names.proofs.Closed.{term_closed}
