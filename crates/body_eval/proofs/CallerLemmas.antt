-- What proofs of other crates cite of this crate's proofs, and when. They import no other file of it.
-- == Units: What starts only while a unit is left.
-- the state of these parts
pub use Rattle.body_eval.proofs.Units.{state_with}
-- to spend one unit of a state with a unit left succeeds, with one unit less
pub use Rattle.body_eval.proofs.Units.{spent_one}
