-- What proofs of other crates cite of this crate's proofs, and when. They import no other file of it.
-- == Either: Each plan is consistent or has a first fault: each check passes or does not.
-- each plan is consistent or has a first fault
pub use Rattle.edge_laws.proofs.Either.{consistent_or_fault}
-- == Numbers: If each number in the definitions of a class has 64 bits, so do its parameters.
-- the parameters of a task are numbers of 64 bits
pub use Rattle.edge_laws.proofs.Numbers.{parameters_numbers}
