use Rattle.std.proofs.Common.{rules, ◌≡◌, ◌+◌, ◌∙◌, ap, sym, subst, inl, inr, refl, arith, zero-add, if◌then◌else◌}
use Rattle.ptg_base.specs.Lists.{IsIn}
use Rattle.ptg_base.specs.Task.{Task}
use Rattle.plan_core.specs.Kinds.{flow_of, is_data, kind_of}
use Rattle.dep_iter.specs.Edges.{in_edges}
use Rattle.list_lemmas.specs.Counting.{weigh}
use Rattle.run_pool.specs.Bytes.{elements_of}
use Rattle.run_pool.specs.Elements.{carried_elements}
use Rattle.flow_meaning.proofs.CallerLemmas.{in_edge_to}
use Rattle.run_pool.proofs.elements.in_elements.Goals as goal

pub loop-edge-init : goal.loop-edge-init
loop-edge-init c =
    let P = c.args.at.now.plan.now in
    let all : c.into_iter-edge-iterator.result ≡ in_edges P c.args.at.now.task.now =
    c.into_iter-edge-iterator.ensures.into_iter_gives ∙ c.in_edges-edge-items.ensures in
    record {
      can_next = search rules;
      is_finite = search rules;
      so_far = zero-add (weigh (carried_elements P) c.into_iter-edge-iterator.result) ∙ ap (weigh (carried_elements P)) all;
      to = λ e i. in_edge_to P c.args.at.now.task.now e (subst (IsIn e) all i);
    }

-- what this edge adds
added : (c : goal.After-carried_elements-all) → c.loop-edge.all + c.carried_elements-all.result + weigh
    (carried_elements c.args.at.now.plan.now) c.next.new.self ≡ c.loop-edge.all + weigh
    (carried_elements c.args.at.now.plan.now) c.loop-edge.edge-iterator
added c =
    let P = c.args.at.now.plan.now in
    let e = c.in-Some.edge in
    let step = c.in-Some.ensures.steps in
    let to : e.to ≡ c.args.at.now.task.now = c.loop-edge.invariant.to e (subst (IsIn e) (sym step) (inl refl)) in
    let here : c.carried_elements-all.result ≡ carried_elements P e = c.carried_elements-all.ensures
    ∙ ap (λ (u : Task). if is_data (kind_of P.classes u.class e.in_flow) then elements_of P
    (flow_of P.classes u.class e.in_flow) else 0) (sym to) in
    let all = ap (weigh (carried_elements P)) step in
    omega (arith, here, all)

pub overflow_add-all : goal.overflow_add-all
overflow_add-all c = omega (arith, added c, c.loop-edge.invariant.so_far, c.requires)

pub loop-edge-preserved : goal.loop-edge-preserved
loop-edge-preserved c = record {
  can_next = tt;
  is_finite = tt;
  so_far = added c ∙ c.loop-edge.invariant.so_far;
  to = λ e i. c.loop-edge.invariant.to e (subst (IsIn e) (sym c.in-Some.ensures.steps) (inr i));
}
