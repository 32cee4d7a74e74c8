-- What proofs of other crates cite of this crate's proofs, and when. They import no other file of it.
-- == Growing: There is a whole order: it grows by one task after another that may run, until none is left.
-- each job has an order of a whole run
pub use Rattle.run_laws.proofs.Growing.{some_whole_order}
-- == Texts: The text of a list of tasks is well spelled, and that of no other list; that of a whole order is short
-- enough.
-- tasks whose rows can be spelled, within the limit, have a trace as a text
pub use Rattle.run_laws.proofs.Texts.{spelled_text}
-- an order of a whole run is within the limit of tasks
pub use Rattle.run_laws.proofs.Texts.{whole_length}
-- == Traces: A text has a first fault if and only if it is no trace of a whole order, and a trace is the text of its
-- tasks.
-- never both
pub use Rattle.run_laws.proofs.Traces.{trace_or_fault}
