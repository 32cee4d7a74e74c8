-- What proofs of other crates cite of this crate's proofs, and when. They import no other file of it.
-- == ClassesResolved: What breaks no rule is resolved: the parts of a class, a class, and a whole JDF.
-- a job has a plan, or a first fault
pub use Rattle.check_laws.proofs.ClassesResolved.{plan_or_first_fault}
