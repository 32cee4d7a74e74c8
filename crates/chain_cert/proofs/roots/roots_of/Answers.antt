use Rattle.std.proofs.Common.{◌++◌, ◌==◌, ap, ◌∙◌, subst}
use Rattle.std.specs.List.{filter}
use Rattle.ptg_base.specs.Lists.{IsIn}
use Rattle.dep_iter.specs.Tasks.{all_tasks}
use Rattle.dep_iter.specs.Edges.{goal as edges_into}
use Rattle.dep_iter.proofs.CallerLemmas.{listed}
use Rattle.chain_cert.proofs.roots.roots_of.Goals as goal

pub loop-t-init : goal.loop-t-init
loop-t-init c =
    let P = c.args.m.now in
    let all = c.into_iter-t-iterator.ensures.into_iter_gives ∙ c.all_tasks-t-items.ensures ∙ ap all_tasks c.plan.ensures.same in
    record {
      can_next = tt;
      is_finite = tt;
      are_tasks = λ t i. (listed P t).1 (subst (IsIn t) all i);
      so_far = λ i. c.new-roots.ensures.items i ++ filter (λ t. edges_into P t == 0) (all i);
    }
