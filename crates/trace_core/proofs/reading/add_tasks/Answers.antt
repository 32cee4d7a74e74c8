use Rattle.std.proofs.Common.{refl, sym, subst}
use Rattle.trace_core.specs.declared.fault.TraceCode.TheVariants.{RanTwice, UnknownTask}
use Rattle.trace_core.specs.Naming.{AreRowsBefore}
use Rattle.trace_core.proofs.ReadRows.{IsReadTo, all_read, inserted_new, inserted_old, next_is, nothing_read, read_more, stops_at}
use Rattle.trace_core.proofs.reading.add_tasks.Goals as goal

pub rows-init : goal.rows-init
rows-init c = λ es all is. subst (λ ts. IsReadTo c.args.plan.now es ts c.args.rows.now) (sym c.requires)
    (nothing_read c.args.plan.now es c.args.rows.now all is)

pub returns-in_default-task_of : goal.returns-in_default-task_of
returns-in_default-task_of c = λ es all is.
    let w = c.in-Some.ensures in
    let n = next_is c.args.plan.now es c.rows.tasks.keys c.rows.left.now c.in-Some.row.name.now
    c.in-Some.row.numbers.now c.in-Some.later.now (c.rows.invariant es all is) w in
    (stops_at c.args.plan.now es c.rows.tasks.keys w.entry c.in-Some.later.now n UnknownTask (c.in_default-task_of.ensures w.entry w.row), refl)

pub returns-then-not-new : goal.returns-then-not-new
returns-then-not-new c = λ es all is.
    let w = c.in-Some.ensures in
    let n = next_is c.args.plan.now es c.rows.tasks.keys c.rows.left.now c.in-Some.row.name.now
    c.in-Some.row.numbers.now c.in-Some.later.now (c.rows.invariant es all is) w in
    let t = c.in-Some-task_of.t in
    let old = inserted_old t c.rows.tasks.keys c.insert.new.self.keys c.in_ok-new.new c.in_ok-new.ensures.added c.if-not-new.true c.in_ok-new.ensures.keys in (
      subst (λ ts. AreRowsBefore c.args.plan.now es ts RanTwice) (sym old.0)
          (stops_at c.args.plan.now es c.rows.tasks.keys w.entry c.in-Some.later.now n RanTwice (t, c.in-Some-task_of.ensures w.entry w.row, old.1)),
      refl,
    )

pub rows-preserved : goal.rows-preserved
rows-preserved c = λ es all is.
    let w = c.in-Some.ensures in
    let n = next_is c.args.plan.now es c.rows.tasks.keys c.rows.left.now c.in-Some.row.name.now
    c.in-Some.row.numbers.now c.in-Some.later.now (c.rows.invariant es all is) w in
    let t = c.in-Some-task_of.t in
    let new = inserted_new t c.rows.tasks.keys c.insert.new.self.keys c.in_ok-new.new c.in_ok-new.ensures.added c.if-not-new.false c.in_ok-new.ensures.keys in
    subst (λ ts. IsReadTo c.args.plan.now es ts c.in-Some.later.now) (sym new.0)
    (read_more c.args.plan.now es c.rows.tasks.keys w.entry c.in-Some.later.now n t (c.in-Some-task_of.ensures w.entry w.row) new.1)

pub returns : goal.returns
returns c = λ es all is. all_read c.args.plan.now es c.rows.tasks.keys c.rows.left.now (c.rows.invariant es all is) c.in_default.ensures
