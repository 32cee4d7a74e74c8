-- What proofs of other crates cite of this crate's proofs, and when. They import no other file of it.
-- == Counting: How counts continue from one part of a walk to the next.
-- a visit that stops the walk at once
pub use Rattle.range_space.proofs.Counting.{stops_at_once}
-- the first fault of the first part is that of both parts
pub use Rattle.range_space.proofs.Counting.{fault_before}
-- the first fault of the second part is that of both parts, if nothing stops the first part
pub use Rattle.range_space.proofs.Counting.{fault_after}
-- the walk of all classes visits as many tasks as the classes have
pub use Rattle.range_space.proofs.Counting.{task_count-walk_all}
-- == Distinct: No list of locals and no task of a class occurs twice, and parameters determine locals.
-- no value of a definition that is a range occurs twice
pub use Rattle.range_space.proofs.Distinct.{distinct_range}
-- the one value of a definition that is a number occurs once
pub use Rattle.range_space.proofs.Distinct.{distinct_number}
-- parameters determine the locals
pub use Rattle.range_space.proofs.Distinct.{one_locals}
-- no task occurs twice
pub use Rattle.range_space.proofs.Distinct.{distinct_tasks}
-- == FirstFault: A walk has at most one first fault.
-- a walk has at most one first fault
pub use Rattle.range_space.proofs.FirstFault.{one_fault}
-- == MemberLists: Which lists of locals are full, and which of them have given parameters.
-- a full list is the outer values followed by locals of the definitions
pub use Rattle.range_space.proofs.MemberLists.{locals_from_full}
-- a list of locals is as long as the list of its definitions
pub use Rattle.range_space.proofs.MemberLists.{length-locals}
-- a task of a class has as many parameters as the class
pub use Rattle.range_space.proofs.MemberLists.{arity_of_task}
-- == Members: How many values a range has, and which numbers they are.
-- if a number after one more step is within the range, so is the number before it
pub use Rattle.range_space.proofs.Members.{past_step}
-- the values of a range are the numbers a whole number of steps from its start and within its end
pub use Rattle.range_space.proofs.Members.{values_way}
-- == Nesting: How the full lists of an iteration space continue from one to the next.
-- a range from a number to itself has that number alone
pub use Rattle.range_space.proofs.Nesting.{values-one}
-- == Soundness: What an unstopped walk shows about the classes, and conversely.
-- the walk of all classes visits as many prefixes as the classes have
pub use Rattle.range_space.proofs.Soundness.{prefix_count-walk_all}
-- if each visit of the walk of all classes has values, the classes are sound
pub use Rattle.range_space.proofs.Soundness.{sound_from_all}
-- sound classes with no more tasks and prefixes than the limits have no first fault
pub use Rattle.range_space.proofs.Soundness.{no_fault}
-- == Stepping: How a range continues from one value to the next.
-- a range has no values from a number that is not within its end
pub use Rattle.range_space.proofs.Stepping.{values_past}
-- a value, and then those from the next one on
pub use Rattle.range_space.proofs.Stepping.{values_in}
