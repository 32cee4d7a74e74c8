use Rattle.std.proofs.Common.{◌==◌, [], ◌∷◌, refl, ap, sym, ◌∙◌, subst, inl, inr, arith}
use Rattle.list_lemmas.proofs.Joins.{length-filter_le}
use Rattle.dep_iter.specs.Edges.{goal as goal_of}
use Rattle.dep_iter.specs.Tasks.{all_tasks}
use Rattle.edge_match.specs.Tallies.{WentOver}
use Rattle.edge_match.proofs.RootCount.{first_root, root_total}
use Rattle.edge_match.proofs.Walking.{went_nil, went_then}
use Rattle.edge_match.proofs.accepting_tasks.accept_all.Goals as goal

pub of-task-requires : goal.of-task-requires
of-task-requires c =
    let all = c.into_iter-t-iterator.ensures.into_iter_gives ∙ c.all_tasks-t-items.ensures in
    let among = c.loop-t.invariant.among c.in-Some.t (rw c.in-Some.ensures.steps (inl refl)) in
    (c.all_tasks_are_listed.ensures.members c.args.plan.now c.in-Some.t).1 (rw all at among)

pub overflow_add-count : goal.overflow_add-count
overflow_add-count c =
    let P = c.args.plan.now in
    let all = ap (root_total P) (c.into_iter-t-iterator.ensures.into_iter_gives ∙ c.all_tasks-t-items.ensures) in
    let root = rw (c.of-task.ensures.plan, c.of-task.ensures.task) at c.in_ok-root.ensures.root in
    let step = ap (root_total P) c.in-Some.ensures.steps ∙ first_root P c.in-Some.t c.next.new.self c.in_ok-root.root root in
    let one = c.from-count.ensures in
    let so_far = c.loop-t.invariant.roots in
    let at_most = length-filter_le (λ t. goal_of P t == 0) (all_tasks P) in
    let tasks = c.requires in
    omega arith

pub loop-t-preserved : goal.loop-t-preserved
loop-t-preserved c =
    let P = c.args.plan.now in
    let s = c.loop-t.tally in
    let walk = rw (c.of-task.ensures.plan, c.of-task.ensures.task) at c.in_ok-root.ensures.walk in
    let root = rw (c.of-task.ensures.plan, c.of-task.ensures.task) at c.in_ok-root.ensures.root in
    let step = ap (root_total P) c.in-Some.ensures.steps ∙ first_root P c.in-Some.t c.next.new.self c.in_ok-root.root root in
    let one = c.from-count.ensures in
    let so_far = c.loop-t.invariant.roots in
    record {
      can_next = tt;
      is_finite = tt;
      among = λ x h. c.loop-t.invariant.among x (rw c.in-Some.ensures.steps (inr h));
      then = λ u h. c.loop-t.invariant.then u (
          subst (WentOver P s u) (sym c.in-Some.ensures.steps)
          (went_then P s c.accept_next.new.tally u (c.in-Some.t ∷ []) c.next.new.self walk h));
      same_plan = c.follow-form.ensures.plan ∙ c.loop-t.invariant.same_plan;
      roots = omega arith;
    }

pub returns-clause-walk : goal.returns-clause-walk
returns-clause-walk c =
    let P = c.args.plan.now in
    let s = c.loop-t.tally in
    let all = c.into_iter-t-iterator.ensures.into_iter_gives ∙ c.all_tasks-t-items.ensures in
    rw (sym all) (c.loop-t.invariant.then s (subst (WentOver P s s) (sym c.in-None.ensures.steps.0) (went_nil P s)))
