-- What proofs of other crates cite of this crate's proofs, and when. They import no other file of it.
-- == Either: Each text has a first fault, or is a trace of a whole order.
-- each text is a trace or has a fault
pub use Rattle.trace_core.proofs.Either.{fault_or_trace}
-- the tasks of a legal order are tasks of the job
pub use Rattle.trace_core.proofs.Either.{order_tasks}
-- == Lists: A well spelled text is that of the tasks whose rows it has, and of no other list.
-- tasks of the plan with equal rows of a trace are equal
pub use Rattle.trace_core.proofs.Lists.{same_list}
-- a well spelled text whose rows are those of these tasks is their text
pub use Rattle.trace_core.proofs.Lists.{is_list}
-- == OneFault: A text has at most one first fault. It has none if all its rows may run and no task that runs is
-- missing.
-- a task that may run next misses no edge
pub use Rattle.trace_core.proofs.OneFault.{not_missing}
-- a text has one fault as a trace
pub use Rattle.trace_core.proofs.OneFault.{one_fault}
-- a text whose rows are tasks that may run, with each task that runs among them, has no fault
pub use Rattle.trace_core.proofs.OneFault.{faultless}
-- == OneText: A text is well spelled in one way, or has one first row that is not.
-- a text spells one list of rows
pub use Rattle.trace_core.proofs.OneText.{one_spelling}
-- == Wholes: Orders in which tasks may run, and whole orders.
-- one more task that may run
pub use Rattle.trace_core.proofs.Wholes.{may_push}
-- tasks that may run one after another are a legal order
pub use Rattle.trace_core.proofs.Wholes.{may_legal}
-- all edges come from these tasks, whose outputs exist, or one does not
pub use Rattle.trace_core.proofs.Wholes.{all_or_missing}
-- the source of an edge into a task that ended has ended with outputs
pub use Rattle.trace_core.proofs.Wholes.{sources_end}
-- the tasks that run are those that end
pub use Rattle.trace_core.proofs.Wholes.{ran_ends}
-- tasks that may run in their order are a whole order if no task that runs is missing
pub use Rattle.trace_core.proofs.Wholes.{whole}
-- in an order of a whole run each task may run after those before it
pub use Rattle.trace_core.proofs.Wholes.{whole_may}
-- an order of a whole run has each task that ran
pub use Rattle.trace_core.proofs.Wholes.{whole_all}
