use Rattle.std.proofs.Common.{rules, ◌≡◌, ◌+◌, ◌∙◌, ap, sym, subst, inl, inr, refl, arith, zero-add}
use Rattle.ptg_base.specs.Lists.{IsIn}
use Rattle.ptg_base.specs.Task.{Task}
use Rattle.plan_core.specs.Kinds.{flow_of}
use Rattle.dep_iter.specs.Items.{write_backs}
use Rattle.list_lemmas.specs.Counting.{weigh}
use Rattle.run_pool.specs.Bytes.{elements_of, write_elements}
use Rattle.flow_meaning.proofs.CallerLemmas.{write_from}
use Rattle.run_pool.proofs.elements.written_elements.Goals as goal

pub loop-write-init : goal.loop-write-init
loop-write-init c =
    let P = c.args.at.now.plan.now in
    let all : c.into_iter-write-iterator.result ≡ write_backs P
    c.args.at.now.task.now = c.into_iter-write-iterator.ensures.into_iter_gives
    ∙ c.write_backs-write-items.ensures in
    record {
      can_next = search rules;
      is_finite = search rules;
      so_far = zero-add (weigh (write_elements P) c.into_iter-write-iterator.result) ∙ ap (weigh (write_elements P)) all;
      from = λ w i. write_from P c.args.at.now.task.now w (subst (IsIn w) all i);
    }

-- what this write-back adds
added : (c : goal.After-flow_elements-all) → c.loop-write.all + c.flow_elements-all.result + weigh
    (write_elements c.args.at.now.plan.now) c.next.new.self ≡ c.loop-write.all + weigh
    (write_elements c.args.at.now.plan.now) c.loop-write.write-iterator
added c =
    let P = c.args.at.now.plan.now in
    let w = c.in-Some.write in
    let step = c.in-Some.ensures.steps in
    let from : w.from ≡ c.args.at.now.task.now = c.loop-write.invariant.from w (subst (IsIn w) (sym step) (inl refl)) in
    let here : c.flow_elements-all.result ≡ write_elements P w = c.flow_elements-all.ensures
    ∙ ap (λ (u : Task). elements_of P (flow_of P.classes u.class w.flow)) (sym from) in
    let all = ap (weigh (write_elements P)) step in
    omega (arith, here, all)

pub overflow_add-all : goal.overflow_add-all
overflow_add-all c = omega (arith, added c, c.loop-write.invariant.so_far, c.requires)

pub loop-write-preserved : goal.loop-write-preserved
loop-write-preserved c = record {
  can_next = tt;
  is_finite = tt;
  so_far = added c ∙ c.loop-write.invariant.so_far;
  from = λ w i. c.loop-write.invariant.from w (subst (IsIn w) (sym c.in-Some.ensures.steps) (inr i));
}
