use Rattle.std.proofs.Common.{◌≡◌, ◌<◌, ◌≤◌, length, sym, ◌∙◌, subst, ap, arith}
use Rattle.dep_iter.specs.Tasks.{all_tasks}
use Rattle.flow_meaning.specs.Answer.{ran}
use Rattle.chain_cert.proofs.Running.{members_ran}
use Rattle.chain_cert.specs.Finding.{HasLevels}
use Rattle.chain_cert.proofs.Accepting.{shows_heaviest}
use Rattle.chain_cert.proofs.Found.{answer_calm, answer_trapped}
use Rattle.chain_cert.proofs.Turning.{printed_is_cycle}
use Rattle.chain_cert.proofs.WalkingBack.{lacks, same_printed}
use Rattle.chain_cert.proofs.Whole.{no_cycle, order_at_most}
use Rattle.chain_cert.proofs.certifying.certify.Goals as goal

pub returns-then-has_trap-clause-certificate : goal.returns-then-has_trap-clause-certificate
returns-then-has_trap-clause-certificate c = λ G is. answer_trapped c.args.m.now G c.args.outcome.now is (sym c.has_trap.ensures ∙ c.if-has_trap.true)

pub printed_cycle-requires : goal.printed_cycle-requires
printed_cycle-requires c =
    let P = c.args.m.now in
    let order = c.in_ok-order.order in
    let table = c.in_ok-table.table.entries in
    let levels = subst (λ l. HasLevels P c.args.weights.now l table) c.as_slice.ensures c.in_ok-table.ensures in
    let lt : length order < length (all_tasks P) = omega (arith, c.len.ensures, c.tasks.ensures, c.if-len-tasks.true) in
    (order, lacks P c.args.weights.now order table c.in_ok-order.ensures levels lt)

pub returns-then-len-tasks-clause-certificate : goal.returns-then-len-tasks-clause-certificate
returns-then-len-tasks-clause-certificate c = λ G is.
    let P = c.args.m.now in
    let order = c.in_ok-order.order in
    let table = c.in_ok-table.table.entries in
    let calm = answer_calm P G c.args.outcome.now is (sym c.has_trap.ensures ∙ c.if-has_trap.false) in
    let levels = subst (λ l. HasLevels P c.args.weights.now l table) c.as_slice.ensures c.in_ok-table.ensures in
    let lt : length order < length (all_tasks P) = omega (arith, c.len.ensures, c.tasks.ensures, c.if-len-tasks.true) in
    let printed = c.in_ok-cycle.ensures order (lacks P c.args.weights.now order table c.in_ok-order.ensures levels lt) in
    (calm, same_printed P order (ran P G) (members_ran P G c.plan_is_consistent.ensures calm order c.in_ok-order.ensures) c.in_ok-cycle.cycle printed)

pub returns-then-len-tasks-clause-accepted : goal.returns-then-len-tasks-clause-accepted
returns-then-len-tasks-clause-accepted c =
    let P = c.args.m.now in
    let order = c.in_ok-order.order in
    let table = c.in_ok-table.table.entries in
    let levels = subst (λ l. HasLevels P c.args.weights.now l table) c.as_slice.ensures c.in_ok-table.ensures in
    let lt : length order < length (all_tasks P) = omega (arith, c.len.ensures, c.tasks.ensures, c.if-len-tasks.true) in
    printed_is_cycle P c.plan_is_consistent.ensures order c.in_ok-cycle.cycle
    (c.in_ok-cycle.ensures order (lacks P c.args.weights.now order table c.in_ok-order.ensures levels lt))

pub chain_and_levels-requires-clause-all : goal.chain_and_levels-requires-clause-all
chain_and_levels-requires-clause-all c =
    let P = c.args.m.now in
    let order = c.in_ok-order.order in
    let most = order_at_most P order c.in_ok-order.ensures.legal in
    let all : length order ≡ length (all_tasks P) = omega (arith, c.len.ensures, c.tasks.ensures, c.if-len-tasks.false, most) in
    ap length c.into_vec.ensures ∙ all

pub returns-clause-certificate : goal.returns-clause-certificate
returns-clause-certificate c = λ G is.
    let P = c.args.m.now in
    let order = c.in_ok-order.order in
    let all : length (all_tasks P) ≤ length order = omega (arith, c.len.ensures, c.tasks.ensures, c.if-len-tasks.false) in (
      answer_calm P G c.args.outcome.now is (sym c.has_trap.ensures ∙ c.if-has_trap.false),
      no_cycle P order
          c.in_ok-order.ensures.legal all,
      c.in_ok-chain.ensures.0,
      c.in_ok-chain.ensures.1,
    )

pub returns-clause-accepted : goal.returns-clause-accepted
returns-clause-accepted c = shows_heaviest c.args.m.now c.plan_is_consistent.ensures c.args.weights.now
    c.in_ok-chain.chain c.in_ok-chain.levels c.in_ok-chain.ensures.0 c.in_ok-chain.ensures.1
