-- What proofs of other crates cite of this crate's proofs, and when. They import no other file of it.
-- == Consistency: A plan is consistent if and only if its spaces are sound and within their limits, and all its marks
-- pass.
-- a plan whose marks all pass, with sound spaces and tasks within the limit, is consistent
pub use Rattle.edge_match.proofs.Consistency.{passes_consistent}
-- == Holding: What holds of all marks, by tasks, flows and directions. All marks pass if each fact holds and the limits
-- are kept.
-- what holds of two lists of marks holds of both together
pub use Rattle.edge_match.proofs.Holding.{join}
-- what holds of two lists of marks together holds of each
pub use Rattle.edge_match.proofs.Holding.{parts}
-- of all marks at a flow: at the flow itself, and at its edges in each direction
pub use Rattle.edge_match.proofs.Holding.{AtFlow}
-- what holds of all marks of a phase holds at each task
pub use Rattle.edge_match.proofs.Holding.{of_phase}
-- == OneFault: A plan has at most one first fault, and a consistent plan has none.
-- a plan has one first fault
pub use Rattle.edge_match.proofs.OneFault.{one_first}
-- a consistent plan has no fault
pub use Rattle.edge_match.proofs.OneFault.{consistent_none}
