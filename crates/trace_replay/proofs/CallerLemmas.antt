-- What proofs of other crates cite of this crate's proofs, and when. They import no other file of it.
-- == Following: When a task may run in a state in which each claimed task is finished.
-- a task may be claimed if and only if it was not and its sources have finished
pub use Rattle.trace_replay.proofs.Following.{may_follow_finished}
