-- What proofs of other crates cite of this crate's proofs, and when. They import no other file of it.
-- == Once: Two texts denote at most one verdict: each step finds only one thing, and never both a fault and what the
-- next step needs.
-- a text of a JDF has one verdict
pub use Rattle.job_stages.proofs.Once.{jdf_text_once}
-- a pair of texts has one verdict
pub use Rattle.job_stages.proofs.Once.{texts_once}
