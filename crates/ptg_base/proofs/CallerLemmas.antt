-- What proofs of other crates cite of this crate's proofs, and when. They import no other file of it.
-- == Comparisons: Comparisons of places, edges and write-backs field by field.
-- (definition) whether two edges have the same tasks and flows
pub use Rattle.ptg_base.proofs.Comparisons.{same_edge}
-- the test `same_edge` holds if and only if the edges are the same
pub use Rattle.ptg_base.proofs.Comparisons.{same_edge-decides}
-- the test `same_write_back` holds if and only if the write-backs are the same
pub use Rattle.ptg_base.proofs.Comparisons.{same_write_back-decides}
-- == Refusals: If the first step refuses, the whole refuses in the same way.
-- if the first of two steps returns a refusal, both in sequence return it
pub use Rattle.ptg_base.proofs.Refusals.{refuses_before}
