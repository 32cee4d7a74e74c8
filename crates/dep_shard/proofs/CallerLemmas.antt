-- What proofs of other crates cite of this crate's proofs, and when. They import no other file of it.
-- == QueueLemmas: The queue and its room, as entries come and go.
-- a look-up of a task finds the entry that stands with it in the list
pub use Rattle.dep_shard.proofs.QueueLemmas.{looked_up}
