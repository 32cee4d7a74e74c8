-- What proofs of other crates cite of this crate's proofs, and when. They import no other file of it.
-- == Placing: The places of a collection, by how many places come before them.
-- a collection has as many places as tiles
pub use Rattle.report_text.proofs.Placing.{length_places}
-- the place of a tile by its index
pub use Rattle.report_text.proofs.Placing.{place_at}
-- a whole collection has a place for each tile
pub use Rattle.report_text.proofs.Placing.{length_placed}
