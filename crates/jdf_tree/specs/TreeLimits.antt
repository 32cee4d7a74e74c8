-- The limits of the tree of a text, and that a second target comes with a guard. A text that is over a limit is refused
-- as it is read.
-- Carried by: law `trees_are_within_limits`.
-- Tested by: `as_many_as_may_be.txt`.
use Rattle.std.specs.Prelude.{ℕ, ◌≤◌, List, length, IsSome}
use Rattle.std.specs.List.{AllByRecursion}
use Rattle.ptg_base.specs.Limits.{most_classes, most_dependences, most_flows, most_locals, most_params}
use Rattle.jdf_tree.specs.declared.tree.DepTree.{DepTree}
use Rattle.jdf_tree.specs.declared.tree.FlowTree.{FlowTree}
use Rattle.jdf_tree.specs.declared.tree.ClassTree.{ClassTree}
use Rattle.jdf_tree.specs.declared.tree.Jdf.{Jdf}
use Rattle.jdf_tree.specs.Jdf.{IsJdf}

-- A dependence with a second target, for a guard that does not hold, has a guard.
abbrev pub HasGuardForSecond : DepTree → Type 0
HasGuardForSecond dep = IsSome dep.no → IsSome dep.guard

-- a flow with at most 16 dependences
pub record IsFlowWithinLimits (flow : FlowTree) : Type 0 where
  pub count : length flow.deps ≤ most_dependences
  pub deps : AllByRecursion HasGuardForSecond flow.deps

-- a class with at most 8 parameters, 16 definitions and 8 flows
pub record IsClassWithinLimits (class : ClassTree) : Type 0 where
  pub params : length class.params ≤ most_params
  pub defs : length class.defs ≤ most_locals
  pub count : length class.flows ≤ most_flows
  pub flows : AllByRecursion IsFlowWithinLimits class.flows

-- a JDF with at most 64 classes
pub record IsWithinLimits (jdf : Jdf) : Type 0 where
  pub count : length jdf.classes ≤ most_classes
  pub classes : AllByRecursion IsClassWithinLimits jdf.classes

-- The law: the tree of each text is within the limits.
abbrev pub TextsWithinLimits : Type 0
TextsWithinLimits = (bytes : List ℕ) (jdf : Jdf) → IsJdf bytes jdf → IsWithinLimits jdf
