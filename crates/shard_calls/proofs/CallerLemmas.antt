-- What proofs of other crates cite of this crate's proofs, and when. They import no other file of it.
-- == TaskWalks: Walks over the tasks of a job, in walk order.
-- How far a walk over all tasks has come: what holds of the tasks that it has passed.
pub use Rattle.shard_calls.proofs.TaskWalks.{IsSoFar}
-- before a loop over all tasks: it holds of none
pub use Rattle.shard_calls.proofs.TaskWalks.{begun}
-- the next task is one of the job
pub use Rattle.shard_calls.proofs.TaskWalks.{next_task}
-- in a loop over all tasks: one more was walked
pub use Rattle.shard_calls.proofs.TaskWalks.{one_more}
-- after a loop over all tasks: what holds so far holds of all
pub use Rattle.shard_calls.proofs.TaskWalks.{whole}
