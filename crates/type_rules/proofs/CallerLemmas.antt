-- What proofs of other crates cite of this crate's proofs, and when. They import no other file of it.
-- == Closed: Resolved terms name only locals that are seen.
-- two parts that both exist
pub use Rattle.type_rules.proofs.Closed.{pair_parts}
-- the same for an expression that may be left out
pub use Rattle.type_rules.proofs.Closed.{closed_option}
-- == ClosedArguments: Resolved arguments and indices name only definitions that are seen.
-- resolved arguments name only definitions that are seen
pub use Rattle.type_rules.proofs.ClosedArguments.{closed_arguments}
-- resolved indices of an element name only definitions that are seen
pub use Rattle.type_rules.proofs.ClosedArguments.{closed_indices}
-- if no range is reported as a fault, none of the resolved arguments is a range
pub use Rattle.type_rules.proofs.ClosedArguments.{no_ranges}
-- == Distinct: If no name is given twice, the names are distinct.
-- if no repeat of a word is reported, the names are distinct
pub use Rattle.type_rules.proofs.Distinct.{distinct_names}
-- == Elements: A resolved element that breaks no rule exists.
-- a collection named in a JDF and resolved to n is collection n of the data
pub use Rattle.type_rules.proofs.Elements.{coll_there}
-- a resolved element without a fault has a known collection and as many closed indices as dimensions
pub use Rattle.type_rules.proofs.Elements.{element_exists}
-- == First: The first fault of two lists together is the earlier one of their first faults.
-- if the second fault is before the first, the earlier one is the second
pub use Rattle.type_rules.proofs.First.{the-later}
-- if the second fault is not before the first, the earlier one is the first
pub use Rattle.type_rules.proofs.First.{the-former}
-- the first fault of two lists of faults is the earlier of their first faults
pub use Rattle.type_rules.proofs.First.{first_append}
-- only an empty list has no first fault
pub use Rattle.type_rules.proofs.First.{first_none}
-- == GivenTwice: Names that are given twice, in lists that grow by one.
-- the set of names after the next one
pub use Rattle.type_rules.proofs.GivenTwice.{next_names}
-- == Joins: The result of two checks together.
-- a function applied to both parts
pub use Rattle.type_rules.proofs.Joins.{of_both}
-- a refusal does not depend on the part
pub use Rattle.type_rules.proofs.Joins.{still_err}
-- == NoFaults: Lists without faults, and lists whose parts all exist.
-- if a test reports no fault, what it tests for is false
pub use Rattle.type_rules.proofs.NoFaults.{holds_not}
-- if two options together have a value, each has one, and f of both is that value
pub use Rattle.type_rules.proofs.NoFaults.{parts_of}
-- a part that may be left out
pub use Rattle.type_rules.proofs.NoFaults.{option_there}
-- == OneResolver: The resolver of expressions returns the term of an expression, or the least of the faults of its
-- names.
-- a part without faults exists
pub use Rattle.type_rules.proofs.OneResolver.{faultless_there}
-- a part that exists has no faults
pub use Rattle.type_rules.proofs.OneResolver.{there_faultless}
-- the resolver returns the term of an expression, or the first of the faults of its names
pub use Rattle.type_rules.proofs.OneResolver.{agrees}
-- == Order: Faults are ordered: the line, the column or the code decides, whichever differs first.
-- a number is less than another, or it is the same and `r` decides
pub use Rattle.type_rules.proofs.Order.{lex}
-- a pair with a smaller first number is before the other one
pub use Rattle.type_rules.proofs.Order.{lex-less}
-- if the first numbers of two pairs are equal, the later ones decide which pair is before
pub use Rattle.type_rules.proofs.Order.{lex-same}
-- a fault before a second one, which is before a third, is before the third
pub use Rattle.type_rules.proofs.Order.{before-trans}
-- a fault not before a second one, which is not before a third, is not before the third
pub use Rattle.type_rules.proofs.Order.{before-cotrans}
-- no fault comes before itself
pub use Rattle.type_rules.proofs.Order.{before-irrefl}
-- == Parts: Lists of parts that grow by one.
-- the result for one more element of a list
pub use Rattle.type_rules.proofs.Parts.{next_part}
-- there are as many parts as elements
pub use Rattle.type_rules.proofs.Parts.{each_length}
-- == Ranges: A range with its bounds and its step.
-- (definition) the range from this term to the next one, with an optional step
pub use Rattle.type_rules.proofs.Ranges.{range_from}
-- == Spaces: A space with its definitions and its parameters.
-- (definition) the space of a class with these definitions and parameters
pub use Rattle.type_rules.proofs.Spaces.{space_from}
-- == TaskTargets: The class and the flow that a target in a task names.
-- (definition) the class and the flow that a target in a task names, with their trees
pub use Rattle.type_rules.proofs.TaskTargets.{TaskThere}
-- if a target in a task resolves, the class and the flow that it names are in the JDF
pub use Rattle.type_rules.proofs.TaskTargets.{task_there}
-- == Tasks: Targets in tasks, and the result of checking them.
-- (definition) the target in a task with this class and flow, and these arguments
pub use Rattle.type_rules.proofs.Tasks.{task_from}
-- == TypeRules: Datatypes: the two ends of a dependence have the same one if no rule refuses it.
-- for a flow that is no control flow: its allowed datatype is the one with the flow's type name
pub use Rattle.type_rules.proofs.TypeRules.{data_type}
-- == Ways: Dependences in one direction, in lists that grow by one.
-- (definition) the dependence with this guard, and with these targets if it holds and if not
pub use Rattle.type_rules.proofs.Ways.{dep_from}
-- == WellFlows: A resolved flow that breaks no rule may be a flow of a plan.
-- a dependence that is kept for a direction has that direction
pub use Rattle.type_rules.proofs.WellFlows.{of_direction}
-- whether a target may be that of a dependence in this direction
pub use Rattle.type_rules.proofs.WellFlows.{ends}
-- a resolved flow within the limits and without a fault may be a flow of a plan
pub use Rattle.type_rules.proofs.WellFlows.{well_flow}
-- == WellSpaces: A resolved space that breaks no rule is well made.
-- there are as many resolved definitions as definitions in the tree
pub use Rattle.type_rules.proofs.WellSpaces.{definitions_length}
-- if a class has a space, it is made of its resolved definitions and its parameters
pub use Rattle.type_rules.proofs.WellSpaces.{pair_of}
-- a resolved space that breaks no rule is well made
pub use Rattle.type_rules.proofs.WellSpaces.{well_space}
-- == WellTargets: A resolved target that breaks no rule exists, has the flow's datatype, and is one that the flow may
-- have.
-- which targets are allowed in a direction
pub use Rattle.type_rules.proofs.WellTargets.{allowed}
-- A target exists, has a datatype and is allowed.
pub use Rattle.type_rules.proofs.WellTargets.{IsWellTarget}
-- in the plan, the flow that a target in a task names has the kind of its flow tree
pub use Rattle.type_rules.proofs.WellTargets.{kind_there}
