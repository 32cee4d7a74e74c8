use Rattle.std.proofs.Common.{◌≤◌, ◌<◌, ◌*◌, ◌+◌, ◌∙◌, ap, sum, arith}
use Rattle.plan_core.specs.declared.plan.Plan.{Plan}
use Rattle.run_pool.specs.Bytes.{preload_bytes, sent_elements}
use Rattle.run_pool.proofs.Totals.{benches_at_most, types_at_most}
use Rattle.run_pool.proofs.bytes.preload_bytes.Goals as goal

few : (c : goal.After-from) → 8 * c.from.result * c.type_elements-each.result ≤ 2251799813685248
few c =
    let each : c.type_elements-each.result ≤ 65536 = omega (arith, c.type_elements-each.ensures, types_at_most c.plan.result.now) in
    let workers : c.from.result < 4294967296 = omega (arith, c.from.ensures) in
    benches_at_most c.from.result c.type_elements-each.result workers each

pub type_elements-each-requires : goal.type_elements-each-requires
type_elements-each-requires c = omega (arith, types_at_most c.plan.result.now)

pub overflow_mul-result-2 : goal.overflow_mul-result-2
overflow_mul-result-2 c = omega (arith, few c)

pub overflow_add-result : goal.overflow_add-result
overflow_add-result c = omega (arith, few c, c.sent_elements-sent.ensures.at_most)

pub overflow_mul-result-3 : goal.overflow_mul-result-3
overflow_mul-result-3 c = omega (arith, few c, c.sent_elements-sent.ensures.at_most)

pub returns : goal.returns
unfolding preload_bytes
returns c =
    ap (λ n. 8 * (n + 8 * c.from.result * c.type_elements-each.result)) c.sent_elements-sent.ensures.same
    ∙ (ap (λ n. 8 * (sent_elements c.args.m.now + 8 * n * c.type_elements-each.result)) c.from.ensures
    ∙ (ap (λ n. 8 * (sent_elements c.args.m.now + 8 * c.args.workers * n)) (c.type_elements-each.ensures ∙ ap (λ (P : Plan). sum P.elems) c.plan.ensures.same)))
