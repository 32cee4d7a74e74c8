use Rattle.std.proofs.Common.{[], ◌∷◌, ◌++◌, ap, ◌∙◌, subst, sym}
use Rattle.chain_cert.specs.Growing.{GrowsBy}
use Rattle.chain_cert.proofs.Grown.{IsNoted, grows_more, grows_same, lacks}
use Rattle.chain_cert.proofs.order_builder.let_come.Goals as goal

pub note_edge-requires-clause-task : goal.note_edge-requires-clause-task
note_edge-requires-clause-task c = (lacks c.args.m.now c.plan_is_consistent.ensures c.requires.0
    c.args.builder.now.order.items c.args.builder.now.lacking.entries c.args.edge.now c.requires.1 c.requires.2).0

pub note_edge-requires-clause-lacks : goal.note_edge-requires-clause-lacks
note_edge-requires-clause-lacks c = (lacks c.args.m.now c.plan_is_consistent.ensures c.requires.0
    c.args.builder.now.order.items c.args.builder.now.lacking.entries c.args.edge.now c.requires.1 c.requires.2).1

pub returns-in_ok-push : goal.returns-in_ok-push
returns-in_ok-push c =
    let P = c.args.m.now in
    let order = c.args.builder.now.order.items in
    let table = c.args.builder.now.lacking.entries in
    let new = c.note_edge.new.table.entries in
    let e = c.args.edge.now in
    let noted : IsNoted P e table new c.in_ok-left.left = record { left_is = c.in_ok-left.ensures.left; others = c.in_ok-left.ensures.table } in
    subst (λ l. GrowsBy P (e ∷ []) order table l new) (ap (λ t. order ++ t ∷ []) (sym c.copy.ensures) ∙ sym c.in_ok-push.ensures.items)
    (grows_more P c.plan_is_consistent.ensures order table new e c.in_ok-left.left noted c.if-left-eq0.true)

pub returns-else-left-eq0 : goal.returns-else-left-eq0
returns-else-left-eq0 c =
    let P = c.args.m.now in
    let e = c.args.edge.now in
    let noted : IsNoted P e c.args.builder.now.lacking.entries c.note_edge.new.table.entries
    c.in_ok-left.left = record { left_is = c.in_ok-left.ensures.left; others = c.in_ok-left.ensures.table } in
    grows_same P c.plan_is_consistent.ensures c.args.builder.now.order.items c.args.builder.now.lacking.entries
    c.note_edge.new.table.entries e c.in_ok-left.left noted c.if-left-eq0.false
