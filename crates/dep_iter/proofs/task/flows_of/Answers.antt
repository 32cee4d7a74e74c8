use Rattle.std.proofs.Common.{ap, sym, ◌∙◌, length, slice_get}
use Rattle.plan_core.specs.WellMade.{IsWellClass}
use Rattle.dep_iter.proofs.Fitting.{fits-class}
use Rattle.dep_iter.proofs.task.flows_of.Goals as goal
use Rattle.dep_iter.proofs.task.flows_of.Goals.{After-as_slice}

well : (c : After-as_slice) → IsWellClass c.args.plan.now.classes c.args.plan.now.spaces c.args.plan.now.colls
    (length c.args.plan.now.elems) c.each_class_has_a_space.ensures.0 c.class-3.result.now
well c = c.class-3.ensures.well_made c.each_class_has_a_space.ensures.0
    (ap (slice_get c.args.plan.now.spaces) (c.class-2.ensures ∙ sym c.class.ensures)
    ∙ c.each_class_has_a_space.ensures.1)

pub returns-clause-at_most : goal.returns-clause-at_most
returns-clause-at_most c = rw c.as_slice.ensures (well c).body.flows_at_most

pub returns-clause-fit : goal.returns-clause-fit
returns-clause-fit c = rw c.as_slice.ensures (fits-class c.args.plan.now (length c.args.plan.now.elems)
    c.each_class_has_a_space.ensures.0 c.class-3.result.now (well c))
