-- What proofs of other crates cite of this crate's proofs, and when. They import no other file of it.
-- == Disjoint: Tests over all terminals of JDF, and what they imply.
-- Is no terminal in both sets?
pub use Rattle.text_laws.proofs.Disjoint.{are_disjoint}
-- Is the first set within the second?
pub use Rattle.text_laws.proofs.Disjoint.{is_within}
-- if two sets of terminals are disjoint, no terminal of the first is in the second
pub use Rattle.text_laws.proofs.Disjoint.{disjoint_at}
-- if a set of terminals is within another, each terminal of the first is in the second
pub use Rattle.text_laws.proofs.Disjoint.{within_at}
-- == Numbers: Terminals and codes are told apart by their numbers.
-- the terminal with the number of a terminal is that terminal
pub use Rattle.text_laws.proofs.Numbers.{terminal_of_number}
-- == TreeOrFault: Each text has a tree or a first fault.
-- each text, whatever its bytes, has a tree or a first fault
pub use Rattle.text_laws.proofs.TreeOrFault.{tree_or_fault}
