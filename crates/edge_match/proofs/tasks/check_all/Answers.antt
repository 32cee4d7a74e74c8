use Rattle.std.proofs.Common.{sym, ◌∙◌, subst, inl, inr, refl}
use Rattle.std.specs.List.{flat_map}
use Rattle.edge_match.specs.Counted.{Checked}
use Rattle.edge_match.specs.Marks.{task_marks}
use Rattle.edge_match.proofs.Parts.{followed, stop, unchecked}
use Rattle.edge_match.proofs.tasks.check_all.Goals as goal

pub of-task-requires : goal.of-task-requires
of-task-requires c =
    let all = c.into_iter-t-iterator.ensures.into_iter_gives ∙ c.all_tasks-t-items.ensures in
    let among = c.loop-t.invariant.among c.in-Some.t (rw c.in-Some.ensures.steps (inl refl)) in
    (c.all_tasks_are_listed.ensures.members c.args.plan.now c.in-Some.t).1 (rw all at among)

pub loop-t-preserved : goal.loop-t-preserved
loop-t-preserved c =
    let P = c.args.plan.now in
    let marks = flat_map (task_marks c.args.phase P) in
    record {
      can_next = tt;
      is_finite = tt;
      among = λ x h. c.loop-t.invariant.among x (rw c.in-Some.ensures.steps (inr h));
      rest = λ u r h. c.loop-t.invariant.rest u r (
          subst (λ ts. Checked P c.loop-t.counted u r (marks ts)) (sym c.in-Some.ensures.steps)
          (followed (rw (c.of-task.ensures.plan, c.of-task.ensures.task) at c.in_ok-check_task.ensures) h));
    }

pub returns-in_err-check_task : goal.returns-in_err-check_task
returns-in_err-check_task c =
    let P = c.args.plan.now in
    let marks = flat_map (task_marks c.args.phase P) in
    let all = c.into_iter-t-iterator.ensures.into_iter_gives ∙ c.all_tasks-t-items.ensures in
    let failed = rw (c.of-task.ensures.plan, c.of-task.ensures.task) at c.in_err-check_task.ensures in
    rw (sym all) (c.loop-t.invariant.rest c.check_task.new.counted c.from_residual.result (
    rw c.in-Some.ensures.steps (stop (marks c.next.new.self) c.from_residual.ensures.1 failed)))

pub returns : goal.returns
returns c =
    let all = c.into_iter-t-iterator.ensures.into_iter_gives ∙ c.all_tasks-t-items.ensures in
    rw (sym all) (c.loop-t.invariant.rest _ _ (rw c.in-None.ensures.steps.0 unchecked))
