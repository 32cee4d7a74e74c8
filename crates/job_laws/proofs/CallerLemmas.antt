-- What proofs of other crates cite of this crate's proofs, and when. They import no other file of it.
-- == Always: Two texts denote a verdict: each step finds what the next one needs, or a fault.
-- each pair of texts has a verdict
pub use Rattle.job_laws.proofs.Always.{texts_some}
-- == Spelled: In a consistent job of two texts, the names of classes are spelled as names, and the parameters of tasks
-- have 64 bits.
-- the class of a task has a name, since each class has a space
pub use Rattle.job_laws.proofs.Spelled.{names_spelled}
-- the parameters of a task of a consistent job are numbers of 64 bits
pub use Rattle.job_laws.proofs.Spelled.{params_numbers}
