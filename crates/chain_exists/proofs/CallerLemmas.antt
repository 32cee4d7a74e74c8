-- What proofs of other crates cite of this crate's proofs, and when. They import no other file of it.
-- == Completeness: A job is complete if and only if it has no cycle and no task traps.
-- a walk back over more tasks than the job has contains a cycle
pub use Rattle.chain_exists.proofs.Completeness.{long_walk}
-- a job is complete if and only if no task traps and there is no cycle
pub use Rattle.chain_exists.proofs.Completeness.{complete_exactly}
-- == Cycles: No task of a cycle ends.
-- a task of a cycle never ends
pub use Rattle.chain_exists.proofs.Cycles.{never_ends}
-- == Existing: Every job has a certificate.
-- each consistent job has a certificate
pub use Rattle.chain_exists.proofs.Existing.{some_certificate}
-- == Unique: A job has, with its data and weights, at most one certificate.
-- a job has one certificate
pub use Rattle.chain_exists.proofs.Unique.{one}
