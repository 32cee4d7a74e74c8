-- What proofs of other crates cite of this crate's proofs, and when. They import no other file of it.
-- == WellFlows: A well task has well flows.
-- each flow of a well task is well
pub use Rattle.goal_count.proofs.WellFlows.{well_flows}
