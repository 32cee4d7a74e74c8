use Rattle.std.proofs.Common.{◌+◌, ◌++◌, length, ap, sym, ◌∙◌, subst, arith}
use Rattle.std.proofs.lemmas.Bool.{false≢true}
use Rattle.dep_iter.specs.Tasks.{IsTask}
use Rattle.trace_core.proofs.Named.{are_its_numbers, it_is, named_below, no_such_class, too_many}
use Rattle.trace_core.proofs.naming.task_of.Goals as goal

pub returns-in_default : goal.returns-in_default
returns-in_default c = λ e row. no_such_class c.args.plan.now e c.args.row.now.name.now c.args.row.now.numbers.now row c.in_default.ensures

pub parameters_fit-requires : goal.parameters_fit-requires
parameters_fit-requires c = named_below c.args.plan.now.classes c.args.row.now.name.now c.in-Some.class c.in-Some.ensures

pub returns-then-not-push_numbers : goal.returns-then-not-push_numbers
returns-then-not-push_numbers c = λ e row.
    let its = are_its_numbers c.args.plan.now e c.args.row.now.name.now c.args.row.now.numbers.now row in
    let none = ap length c.new-params.ensures in
    let more = c.push_numbers.ensures.more e.params its c.if-not-push_numbers.true in
    too_many c.args.plan.now e c.args.row.now.name.now c.args.row.now.numbers.now row c.in-Some.class c.in-Some.ensures c.parameters_fit.ensures (omega arith)

pub returns-then-not-is_task : goal.returns-then-not-is_task
returns-then-not-is_task c = λ e row t h.
    let P = c.args.plan.now in
    let its = are_its_numbers P e c.args.row.now.name.now c.args.row.now.numbers.now row in
    let all = c.push_numbers.ensures.all e.params its c.if-not-push_numbers.false in
    let params = c.as_slice.ensures.same ∙ all ∙ ap (λ l. l ++ e.params) c.new-params.ensures in
    let same = it_is P e c.args.row.now.name.now c.args.row.now.numbers.now row c.in-Some.class c.in-Some.ensures c.as_slice.result.now params t h in
    false≢true (sym c.if-not-is_task.true ∙ c.is_task.ensures.1 (subst (IsTask P) (same ∙ sym c.new-t.ensures) h.0))
