-- What proofs of other crates cite of this crate's proofs, and when. They import no other file of it.
-- == ClassesRead: Classes that were read, in lists that grow by one.
-- (definition) the classes of a plan and their spaces
pub use Rattle.type_check.proofs.ClassesRead.{Plans}
-- (definition) plans with one more class and its space in front
pub use Rattle.type_check.proofs.ClassesRead.{plan_first}
-- == Plans: A JDF and its data have at most one plan.
-- a JDF within the limits that resolves with well made data has a plan
pub use Rattle.type_check.proofs.Plans.{plan_there}
-- a JDF and its data have at most one plan
pub use Rattle.type_check.proofs.Plans.{one_plan}
-- a JDF and data that have a plan have no fault
pub use Rattle.type_check.proofs.Plans.{a_plan_has_no_fault}
-- == Unique: The classes of a JDF and its data resolve in at most one way, or have at most one first fault, and never
-- both.
-- a JDF and its data have at most one first fault
pub use Rattle.type_check.proofs.Unique.{one_first_fault}
-- == WellClasses: A class that breaks no rule, with its names resolved, is one that a plan may have.
-- a class that resolves has a plan and a space made of its resolved parts and its body
pub use Rattle.type_check.proofs.WellClasses.{class_of}
