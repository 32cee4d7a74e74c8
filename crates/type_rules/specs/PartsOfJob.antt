-- What a plan has for each part of a JDF and its data. Source: the JDF documentation.
use Rattle.std.specs.Prelude.{◌≡◌, ℕ, List, length, Some, IsTrue, slice_get}
use Rattle.term_core.specs.declared.space.ClassSpace.{ClassSpace}
use Rattle.coll_data.specs.declared.coll.Coll.{Coll}
use Rattle.coll_data.specs.Data.{Data}
use Rattle.plan_core.specs.declared.class.ClassPlan.{ClassPlan}
use Rattle.plan_core.specs.declared.flow.FlowPlan.{FlowPlan}
use Rattle.plan_core.specs.declared.shape.Shape.{Shape}
use Rattle.plan_core.specs.Kinds.{flow_of}
use Rattle.plan_core.specs.Targets.{has_params}
use Rattle.type_rules.specs.TreesAndFaults.{FlowTree, ClassTree}
use Rattle.type_rules.specs.Names.{Job}
use Rattle.type_rules.specs.Datatypes.{flow_type}

-- A flow of a plan has the kind and the datatype of this flow of the text.
pub record IsFlowOf (d : Data) (flow : FlowTree) (p : FlowPlan) : Type 0 where
  pub kind : p.kind ≡ flow.kind
  pub datatype : flow_type d flow ≡ Some p.datatype

-- A collection of a plan has the dimensions and the datatype of this collection of the data.
pub record IsShapeOf (c : Coll) (s : Shape) : Type 0 where
  pub cols : s.cols ≡ c.shape.1
  pub datatype : s.datatype ≡ c.datatype

-- By the same numbers, the classes have each flow of the text, the spaces have each class with as many parameters, and
-- the collections have each collection of the data.
pub record HaveParts (job : Job) (classes : List ClassPlan) (spaces : List ClassSpace)
    (colls : List Shape) : Type 0 where
  pub flow : (n m : ℕ) (c : ClassTree) (f : FlowTree) → slice_get job.jdf.classes n ≡ Some c
      → slice_get c.flows m ≡ Some f → (p : FlowPlan) × (flow_of classes n m ≡ Some p) × IsFlowOf job.given f p
  pub params : (n : ℕ) (c : ClassTree) → slice_get job.jdf.classes n ≡ Some c
      → IsTrue (has_params spaces n (length c.params))
  pub coll : (n : ℕ) (c : Coll) → slice_get job.given.colls n ≡ Some c
      → (s : Shape) × (slice_get colls n ≡ Some s) × IsShapeOf c s
