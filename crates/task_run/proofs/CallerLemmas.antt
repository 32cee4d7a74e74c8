-- What proofs of other crates cite of this crate's proofs, and when. They import no other file of it.
-- == FlowSizes: The sizes of the tiles that the flows of a task read.
-- the type of a flow is one of the plan's
pub use Rattle.task_run.proofs.FlowSizes.{known}
