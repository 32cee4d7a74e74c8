use Rattle.std.proofs.Common.{◌≡◌, ◌+◌, ◌*◌, ◌≤◌, ◌∙◌, length, ap, sym, subst, Some, slice_get, rules}
use Rattle.plan_core.specs.declared.plan.Plan.{Plan}
use Rattle.dep_iter.specs.Consistent.{all_data, all_writes}
use Rattle.run_pool.specs.Bytes.{sent_elements}
use Rattle.run_pool.proofs.OneType.{only_one, sent_are}
use Rattle.run_pool.proofs.Totals.{counts_at_most, sent_at_most}
use Rattle.run_pool.proofs.elements.elements_of_one_type.Goals as goal
use Rattle.run_pool.proofs.elements.elements_of_one_type.Goals.{After-from}

product : (c : After-from) → c.from.result * (c.data_edges.result + c.writes.result) ≡ sent_elements c.args.m.now
product c =
    let P = c.args.m.now in
    let here : slice_get P.elems 0 ≡ Some c.elements-elems.result = ap (λ (Q : Plan). slice_get Q.elems 0)
    (sym c.plan-plan.ensures.same) ∙ c.elements-elems.ensures.elements in
    let are : sent_elements P ≡ c.elements-elems.result * (length (all_data P) + length (all_writes P)) = sent_are P
    c.elements-elems.result (only_one P.elems c.elements-elems.result c.requires here) in
    rw (c.from.ensures, c.data_edges.ensures, c.writes.ensures) (sym are)

pub overflow_add-sent : goal.overflow_add-sent
overflow_add-sent c =
    let k : c.data_edges.result + c.writes.result ≤ 8000000 = rw (c.data_edges.ensures, c.writes.ensures)
    (counts_at_most c.args.m.now c.plan-plan.ensures.consistent) in
    search (rules, k)

pub overflow_mul-result : goal.overflow_mul-result
overflow_mul-result c =
    let k : c.from.result * (c.data_edges.result + c.writes.result) ≤ 32768000000 = subst (λ n. n ≤ 32768000000)
    (sym (product c)) (sent_at_most c.args.m.now c.plan-plan.ensures.consistent) in
    search (rules, k)

pub returns : goal.returns
returns c = product c
