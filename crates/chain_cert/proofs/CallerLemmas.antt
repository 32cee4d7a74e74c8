-- What proofs of other crates cite of this crate's proofs, and when. They import no other file of it.
-- == Accepting: The printed chain with the levels of all tasks is shown to be heaviest.
-- a printed chain with the levels of all tasks shows that it is heaviest
pub use Rattle.chain_cert.proofs.Accepting.{shows_heaviest}
-- == Completeness: A list of tasks has no repeats, or a task that occurs twice with no repeats between.
-- a list in which a task occurs twice, with no repeats between
pub use Rattle.chain_cert.proofs.Completeness.{Repeats}
-- a list of tasks has repeats or not
pub use Rattle.chain_cert.proofs.Completeness.{repeats_or_not}
-- == Leasts: The least of some tasks, and the heaviest row.
-- one more task that does not pass the test
pub use Rattle.chain_cert.proofs.Leasts.{least_skips}
-- the first task that passes the test
pub use Rattle.chain_cert.proofs.Leasts.{least_first}
-- in the loop: one more task passes the test and is before the least, so it is the least
pub use Rattle.chain_cert.proofs.Leasts.{least_new}
-- in the loop: one more task is not before the least, which stays
pub use Rattle.chain_cert.proofs.Leasts.{least_old}
-- in the loop: the first row is the heaviest
pub use Rattle.chain_cert.proofs.Leasts.{heaviest_first}
-- in the loop: one more row is heavier, or as heavy and before, so it is the heaviest
pub use Rattle.chain_cert.proofs.Leasts.{heaviest_new}
-- in the loop: one more row is not heavier, so the heaviest stays
pub use Rattle.chain_cert.proofs.Leasts.{heaviest_old}
-- == Linking: Properties of chains and cycles.
-- a task of a chain is one of the plan
pub use Rattle.chain_cert.proofs.Linking.{chain_task}
-- each task of a cycle has a source in it
pub use Rattle.chain_cert.proofs.Linking.{cycle_source}
-- == Orders: Properties of legal orders, and of greatest ones.
-- a legal order stays legal with one more task that may follow
pub use Rattle.chain_cert.proofs.Orders.{legal_push}
-- the members are tasks of the job
pub use Rattle.chain_cert.proofs.Orders.{legal_tasks}
-- no task is twice in a legal order
pub use Rattle.chain_cert.proofs.Orders.{legal_once}
-- a task is a member if the sources of all edges into it are
pub use Rattle.chain_cert.proofs.Orders.{joins}
-- some edge into a task outside comes from outside
pub use Rattle.chain_cert.proofs.Orders.{from_outside}
-- == Potentials: The greatest level of rows, and the row of a task.
-- no row has more than the greatest level
pub use Rattle.chain_cert.proofs.Potentials.{at_most_greatest}
-- each task has a row
pub use Rattle.chain_cert.proofs.Potentials.{row_of}
-- == Prefixes: The elements of a list up to an index.
-- the element at an index is the last of those up to that index
pub use Rattle.chain_cert.proofs.Prefixes.{take_next}
-- == Running: If no task traps, a greatest legal order has the tasks that run.
-- a task that ends has outputs
pub use Rattle.chain_cert.proofs.Running.{all_outputs}
-- the members are the tasks that run
pub use Rattle.chain_cert.proofs.Running.{members_ran}
-- == TableLevels: The level of a task follows from those of its sources, and tables keep levels along an order.
-- the level of a task is its weight plus the greatest level of its sources
pub use Rattle.chain_cert.proofs.TableLevels.{level_from}
-- == TaskSorting: Tasks in task order.
-- the first of two tasks is before the second
pub use Rattle.chain_cert.proofs.TaskSorting.{Before}
-- two tasks are equal
pub use Rattle.chain_cert.proofs.TaskSorting.{Same}
-- the second of two tasks is before the first
pub use Rattle.chain_cert.proofs.TaskSorting.{After}
-- of two tasks one is before the other, or they are equal
pub use Rattle.chain_cert.proofs.TaskSorting.{ordered}
-- no two tasks are before each other
pub use Rattle.chain_cert.proofs.TaskSorting.{not_both}
-- no task is before itself
pub use Rattle.chain_cert.proofs.TaskSorting.{not_itself}
-- an inserted task comes after those at the front that are before it; the members are the old ones and it
pub use Rattle.chain_cert.proofs.TaskSorting.{past}
-- in the loop of an insertion: the task comes before the rest
pub use Rattle.chain_cert.proofs.TaskSorting.{here}
-- sorting loses and adds no task
pub use Rattle.chain_cert.proofs.TaskSorting.{in_order}
-- rising lists with the same members are equal
pub use Rattle.chain_cert.proofs.TaskSorting.{one_rising}
-- the plan's tasks in task order are the tasks of the plan
pub use Rattle.chain_cert.proofs.TaskSorting.{sorted_task}
-- the plan's tasks in task order rise
pub use Rattle.chain_cert.proofs.TaskSorting.{sorted_rising}
-- rows of all tasks in task order have the tasks of the plan
pub use Rattle.chain_cert.proofs.TaskSorting.{order_task}
-- == Tracing: The printed chain, built from its end back.
-- one step back
pub use Rattle.chain_cert.proofs.Tracing.{StepBack}
-- a task whose level is its own weight begins the chain
pub use Rattle.chain_cert.proofs.Tracing.{step_ends}
-- a task whose level is over its own weight has a source before it in the chain
pub use Rattle.chain_cert.proofs.Tracing.{step_by}
-- a table without rows: the plan has no tasks
pub use Rattle.chain_cert.proofs.Tracing.{no_row}
-- the heaviest row is the least task of the greatest level
pub use Rattle.chain_cert.proofs.Tracing.{last_is}
-- in the loop that walks a heaviest chain back: what was walked, and the next task
pub use Rattle.chain_cert.proofs.Tracing.{IsTracing}
-- before the loop: the walk begins at the least task of the greatest level
pub use Rattle.chain_cert.proofs.Tracing.{trace_start}
-- in the loop: one more task was walked
pub use Rattle.chain_cert.proofs.Tracing.{trace_next}
-- after the loop: what was walked back is a heaviest chain
pub use Rattle.chain_cert.proofs.Tracing.{trace_end}
-- there is room for one more task
pub use Rattle.chain_cert.proofs.Tracing.{trace_room}
-- == Turning: A walk back, reversed, is a chain, and the printed cycle is a cycle.
-- a list reversed, one element after another
pub use Rattle.chain_cert.proofs.Turning.{turned}
-- a source of a task is a task of the plan
pub use Rattle.chain_cert.proofs.Turning.{source_task}
-- tasks each of which is a source of the one before, put before a chain one after another
pub use Rattle.chain_cert.proofs.Turning.{IsBackFrom}
-- the last of a walk
pub use Rattle.chain_cert.proofs.Turning.{last_of}
-- if each task is a source of the one before it, and the first a source of the last, the reversed tasks are a cycle
pub use Rattle.chain_cert.proofs.Turning.{loop_is_cycle}
-- the printed cycle is a cycle
pub use Rattle.chain_cert.proofs.Turning.{printed_is_cycle}
-- == Unique: A task has at most one level, and a list one last element if it has any.
-- a task has at most one level
pub use Rattle.chain_cert.proofs.Unique.{level_one}
-- the last of a list, if it has one
pub use Rattle.chain_cert.proofs.Unique.{last_or_none}
-- == WalkingBack: The printed cycle, by a walk back over the tasks that are left.
-- each task of a walk is one that is left
pub use Rattle.chain_cert.proofs.WalkingBack.{walk_left}
-- the walk begins at the least task that is left
pub use Rattle.chain_cert.proofs.WalkingBack.{walk_start}
-- and continues with the least source that is left
pub use Rattle.chain_cert.proofs.WalkingBack.{walk_next}
-- the walk so far: different tasks, and the next one
pub use Rattle.chain_cert.proofs.WalkingBack.{IsWalking}
-- the printed cycle is the same whichever list has the tasks that ran
pub use Rattle.chain_cert.proofs.WalkingBack.{same_printed}
-- == Whole: A legal order of all tasks: the job has no cycle, and the rows of the levels are in task order.
-- an order has at most as many tasks as the plan
pub use Rattle.chain_cert.proofs.Whole.{order_at_most}
-- an order of all tasks: the plan has no cycle
pub use Rattle.chain_cert.proofs.Whole.{no_cycle}
