use Rattle.std.proofs.Common.{◌++◌, ap, sym, ◌∙◌, subst}
use Rattle.std.proofs.lemmas.List.{append-nil}
use Rattle.ptg_base.specs.Lists.{IsIn}
use Rattle.dep_iter.specs.Tasks.{all_tasks}
use Rattle.dep_iter.proofs.CallerLemmas.{listed}
use Rattle.flow_core.specs.RunState.{machine}
use Rattle.flow_core.specs.Rows.{waits_among}
use Rattle.flow_core.proofs.Rows.{waits_all, waits_differ}
use Rattle.flow_core.proofs.state.State.waits.Goals as goal

pub loop-t-init : goal.loop-t-init
loop-t-init c =
    let P = c.args.m.now in
    let all = c.into_iter-t-iterator.ensures.into_iter_gives ∙ c.all_tasks-t-items.ensures ∙ ap all_tasks c.plan.ensures.same in
    record {
      can_next = tt;
      is_finite = tt;
      are_tasks = λ t i. (listed P t).1 (subst (IsIn t) all i);
      so_far = λ i. c.new-rows.ensures.items i ++ waits_among P (machine c.args.self.now) (all i);
    }

pub waits_in_task_order-requires : goal.waits_in_task_order-requires
waits_in_task_order-requires c =
    let P = c.args.m.now in
    let S = machine c.args.self.now in
    let rows = c.loop-t.rows.items in
    waits_differ P S rows (sym (append-nil rows) ∙ ap (λ l. rows ++ waits_among P S l) (sym c.in-None.ensures.steps.0) ∙ c.loop-t.invariant.so_far)

pub returns : goal.returns
returns c =
    let P = c.args.m.now in
    let S = machine c.args.self.now in
    let rows = c.loop-t.rows.items in
    c.waits_in_task_order.ensures ∙ waits_all P S rows (sym (append-nil rows)
    ∙ ap (λ l. rows ++ waits_among P S l) (sym c.in-None.ensures.steps.0) ∙ c.loop-t.invariant.so_far)
