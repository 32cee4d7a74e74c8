-- What proofs of other crates cite of this crate's proofs, and when. They import no other file of it.
-- == Places: Data that fit a plan have the plan's places.
-- a plan and data that fit it have the same places
pub use Rattle.plan_data.proofs.Places.{same_places}
