-- What proofs of other crates cite of this crate's proofs, and when. They import no other file of it.
-- == Replacing: What one more write-back replaces.
-- what was written to the place that passes a test, by these write-backs
pub use Rattle.run_answer.proofs.Replacing.{written_to}
-- without write-backs the data stay the same
pub use Rattle.run_answer.proofs.Replacing.{no_more}
-- two lists of write-backs are made one after the other
pub use Rattle.run_answer.proofs.Replacing.{replaced_twice}
-- what may be written may still be written after others were
pub use Rattle.run_answer.proofs.Replacing.{replaced_writable}
-- == Sorting: A sort by tasks puts rows of different tasks in task order.
-- rows of different tasks have one order
pub use Rattle.run_answer.proofs.Sorting.{one_order}
-- the same for `sort_unstable_by`, if each call of its closure compares the tasks of the two rows
pub use Rattle.run_answer.proofs.Sorting.{sorted_from_sort_by}
-- == Writable: A write-back that was sent has a tile of the size of its collection's type, and a place of the data.
-- a write-back that was sent has a tile, and may be made
pub use Rattle.run_answer.proofs.Writable.{write_sent}
