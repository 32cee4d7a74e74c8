use Rattle.std.proofs.Common.{rules, ◌≡◌, ◌∙◌, ap, sym, subst, inl, inr, refl, arith, zero-add}
use Rattle.plan_core.specs.declared.plan.Plan.{Plan}
use Rattle.ptg_base.specs.Lists.{IsIn}
use Rattle.dep_iter.specs.Tasks.{all_tasks}
use Rattle.dep_iter.proofs.CallerLemmas.{listed}
use Rattle.list_lemmas.specs.Counting.{weigh}
use Rattle.run_pool.specs.Bytes.{sent_elements}
use Rattle.run_pool.specs.Elements.{task_elements}
use Rattle.run_pool.proofs.Totals.{all_tasks_send, sent_at_most}
use Rattle.run_pool.proofs.elements.elements_of_all.Goals as goal

pub loop-t-init : goal.loop-t-init
loop-t-init c =
    let P = c.plan-plan.result.now in
    let all : c.into_iter-t-iterator.result ≡ all_tasks P = c.into_iter-t-iterator.ensures.into_iter_gives ∙ c.all_tasks-t-items.ensures in
    record {
      can_next = search rules;
      is_finite = search rules;
      so_far = zero-add (weigh (task_elements P) c.into_iter-t-iterator.result) ∙ ap (weigh (task_elements P)) all ∙ all_tasks_send P;
      tasks = λ t i. (listed P t).1 (subst (IsIn t) all i);
    }

pub task_elements-all-requires-clause-task : goal.task_elements-all-requires-clause-task
task_elements-all-requires-clause-task c = c.loop-t.invariant.tasks c.in-Some.t (subst (IsIn c.in-Some.t) (sym c.in-Some.ensures.steps) (inl refl))

pub task_elements-all-requires-clause-at_most : goal.task_elements-all-requires-clause-at_most
task_elements-all-requires-clause-at_most c =
    let P = c.plan-plan.result.now in
    let here = ap (weigh (task_elements P)) c.in-Some.ensures.steps in
    let most = ap (λ (Q : Plan). sent_elements Q) c.plan-plan.ensures.same in
    omega (arith, here, most, c.loop-t.invariant.so_far, sent_at_most c.args.m.now c.plan-plan.ensures.consistent)

pub overflow_add-all : goal.overflow_add-all
overflow_add-all c =
    let P = c.plan-plan.result.now in
    let here = ap (weigh (task_elements P)) c.in-Some.ensures.steps in
    let most = ap (λ (Q : Plan). sent_elements Q) c.plan-plan.ensures.same in
    omega (arith, here, most, c.task_elements-all.ensures, c.loop-t.invariant.so_far, sent_at_most c.args.m.now c.plan-plan.ensures.consistent)

pub loop-t-preserved : goal.loop-t-preserved
loop-t-preserved c =
    let P = c.plan-plan.result.now in
    let here = ap (weigh (task_elements P)) c.in-Some.ensures.steps in
    record {
      can_next = tt;
      is_finite = tt;
      so_far = omega (arith, here, c.task_elements-all.ensures, c.loop-t.invariant.so_far);
      tasks = λ t i. c.loop-t.invariant.tasks t (subst (IsIn t) (sym c.in-Some.ensures.steps) (inr i));
    }

pub returns : goal.returns
returns c =
    let P = c.plan-plan.result.now in
    let none = ap (weigh (task_elements P)) c.in-None.ensures.steps.0 in
    let same = ap (λ (Q : Plan). sent_elements Q) c.plan-plan.ensures.same in
    omega (arith, none, same, c.loop-t.invariant.so_far)
