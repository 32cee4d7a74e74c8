-- What proofs of other crates cite of this crate's proofs, and when. They import no other file of it.
-- == Sharing: A table may be shared between threads, and a pass sent to one.
-- a table may be shared between threads
pub use Rattle.dep_table.proofs.Sharing.{table_sync}
-- a pass may move to another thread
pub use Rattle.dep_table.proofs.Sharing.{pass_send}
