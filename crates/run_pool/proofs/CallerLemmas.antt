-- What proofs of other crates cite of this crate's proofs, and when. They import no other file of it.
-- == OneType: The bytes of a preload if all tiles are of one type.
-- the numbers that go over edges and write-backs are a product
pub use Rattle.run_pool.proofs.OneType.{sent_are}
