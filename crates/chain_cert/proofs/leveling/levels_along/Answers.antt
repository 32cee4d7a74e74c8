use Rattle.std.proofs.Common.{◌≤◌, [], length, take, sym, subst, arith}
use Rattle.std.proofs.lemmas.List.{take_all}
use Rattle.chain_cert.specs.Finding.{HasLevels}
use Rattle.chain_cert.proofs.Prefixes.{take_next}
use Rattle.chain_cert.proofs.TableLevels.{none_noted}
use Rattle.chain_cert.proofs.Whole.{next_task}
use Rattle.chain_cert.proofs.leveling.levels_along.Goals as goal

pub loop-t-init : goal.loop-t-init
loop-t-init c = subst (HasLevels c.args.m.now c.args.weights.now []) (sym c.new-table.ensures.empty) (none_noted c.args.m.now c.args.weights.now)

pub note_level-requires-clause-next : goal.note_level-requires-clause-next
note_level-requires-clause-next c =
    let order = c.args.order.now in
    let i = c.loop-t.t-index in (
      take i order,
      next_task c.args.m.now order c.requires.legal c.plan_is_consistent.ensures c.args.weights.now i
          c.t-item.result c.loop-t.table.entries c.loop-t-test.true c.t-item.is c.loop-t.invariant,
    )

pub loop-t-preserved : goal.loop-t-preserved
loop-t-preserved c =
    let P = c.args.m.now in
    let ws = c.args.weights.now in
    let order = c.args.order.now in
    let i = c.loop-t.t-index in
    let next = next_task P order c.requires.legal c.plan_is_consistent.ensures ws i c.t-item.result
    c.loop-t.table.entries c.loop-t-test.true c.t-item.is c.loop-t.invariant in
    subst (λ l. HasLevels P ws l c.note_level.new.table.entries)
    (sym (take_next i order c.t-item.result c.loop-t-test.true c.t-item.is))
    (c.in_ok-note_level.ensures (take i order) next)

pub returns : goal.returns
returns c =
    let order = c.args.order.now in
    let all : length order ≤ c.loop-t.t-index = omega arith in
    subst (λ l. HasLevels c.args.m.now c.args.weights.now l c.loop-t.table.entries) (take_all c.loop-t.t-index order all) c.loop-t.invariant
