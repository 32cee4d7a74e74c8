-- What proofs of other crates cite of this crate's proofs, and when. They import no other file of it.
-- == Spelled: In the tree of a text, the names of classes are spelled as names, and the numbers in definitions have 64
-- bits.
-- the tree of a text can be spelled
pub use Rattle.print_laws.proofs.Spelled.{tree_spelled}
