use Rattle.std.proofs.Common.{◌==◌, refl, ap, ◌∙◌, inl, inr, arith}
use Rattle.list_lemmas.proofs.Joins.{length-filter_le}
use Rattle.dep_iter.specs.Edges.{goal as goal_of}
use Rattle.dep_iter.specs.Tasks.{all_tasks}
use Rattle.edge_match.proofs.RootCount.{first_root, root_total}
use Rattle.edge_match.proofs.roots.root_count.Goals as goal

pub is_root-requires : goal.is_root-requires
is_root-requires c =
    let all = c.into_iter-t-iterator.ensures.into_iter_gives ∙ c.all_tasks-t-items.ensures in
    let among = c.loop-t.invariant.among c.in-Some.t (rw c.in-Some.ensures.steps (inl refl)) in
    (c.all_tasks_are_listed.ensures.members c.args.plan.now c.in-Some.t).1 (rw all at among)

pub overflow_add-count : goal.overflow_add-count
overflow_add-count c =
    let P = c.args.plan.now in
    let all = ap (root_total P) (c.into_iter-t-iterator.ensures.into_iter_gives ∙ c.all_tasks-t-items.ensures) in
    let step = ap (root_total P) c.in-Some.ensures.steps ∙ first_root P c.in-Some.t c.next.new.self c.is_root.result c.is_root.ensures in
    let one = c.from-count.ensures in
    let so_far = c.loop-t.invariant.roots in
    let at_most = length-filter_le (λ t. goal_of P t == 0) (all_tasks P) in
    let tasks = c.requires in
    omega arith

pub loop-t-preserved : goal.loop-t-preserved
loop-t-preserved c =
    let P = c.args.plan.now in
    let step = ap (root_total P) c.in-Some.ensures.steps ∙ first_root P c.in-Some.t c.next.new.self c.is_root.result c.is_root.ensures in
    let one = c.from-count.ensures in
    let so_far = c.loop-t.invariant.roots in
    record {
      can_next = tt;
      is_finite = tt;
      among = λ x h. c.loop-t.invariant.among x (rw c.in-Some.ensures.steps (inr h));
      roots = omega arith;
    }
