-- What proofs of other crates cite of this crate's proofs, and when. They import no other file of it.
-- == Separated: Lists with a separator between each two: the first element, and then the later ones.
-- a separated list is its first element, then each later one after a separator
pub use Rattle.jdf_print.proofs.Separated.{separated_is}
