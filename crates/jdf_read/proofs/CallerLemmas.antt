-- What proofs of other crates cite of this crate's proofs, and when. They import no other file of it.
-- == File: Whole texts are read exactly, whatever their length and their encoding.
-- the token fault of a UTF-8 text of at most 16777216 bytes is the fault of the JDF
pub use Rattle.jdf_read.proofs.File.{bad_token}
-- more than 16777216 bytes have the fault TooLong at the first spot
pub use Rattle.jdf_read.proofs.File.{too_long}
-- == Limits: Whole texts of the grammar are read exactly.
-- if reading all tokens of a JDF file returns a tree, they derive it without a fault
pub use Rattle.jdf_read.proofs.Limits.{found}
-- if reading all tokens of a JDF file fails, the fault is the first one of the tokens
pub use Rattle.jdf_read.proofs.Limits.{faulty}
-- == Once: Each text has a tree or a first fault, at most one of each, and not both.
-- a text has at most one tree
pub use Rattle.jdf_read.proofs.Once.{one_tree}
-- no text has a tree and a fault
pub use Rattle.jdf_read.proofs.Once.{not_both}
-- a text has at most one first fault
pub use Rattle.jdf_read.proofs.Once.{one_fault}
