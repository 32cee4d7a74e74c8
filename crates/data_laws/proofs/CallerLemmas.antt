-- What proofs of other crates cite of this crate's proofs, and when. They import no other file of it.
-- == Integers: The integers of data have 64 bits.
-- the integers of data are numbers of 64 bits
pub use Rattle.data_laws.proofs.Integers.{integers_numbers}
