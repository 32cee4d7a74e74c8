use Rattle.std.proofs.Common.{◌≡◌, ◌<◌, ◌≤◌, length, take, slice_get, Some, ap, sym, ◌∙◌, subst, arith, length-append}
use Rattle.list_lemmas.proofs.Places.{slice_get_at}
use Rattle.std.proofs.lemmas.List.{take_all}
use Rattle.chain_cert.specs.Greatest.{IsGreatestOrder}
use Rattle.chain_cert.specs.Growing.{HasGrown, edges_of}
use Rattle.chain_cert.proofs.Grown.{greatest, is_next, no_longer, passed}
use Rattle.chain_cert.proofs.order.order_of.Goals as goal

pub pass-requires : goal.pass-requires
pass-requires c =
    let P = c.args.m.now in
    let order = c.loop-at.builder.order.items in
    let table = c.loop-at.builder.lacking.entries in
    let g = c.loop-at.invariant.grown in
    let lt : c.loop-at.at < length order = omega (arith, c.len.ensures, c.loop-at.builder.order.ok.0) in
    let here : slice_get order c.loop-at.at ≡ Some c.copy-t.result = slice_get_at order c.loop-at.at c.index.result.now
    lt c.index.ensures ∙ ap Some (sym c.copy-t.ensures) in
    (edges_of P (take c.loop-at.at order), g, is_next P c.plan_is_consistent.ensures c.loop-at.at order table c.copy-t.result g here)

pub loop-at-smaller : goal.loop-at-smaller
loop-at-smaller c =
    let P = c.args.m.now in
    let order = c.loop-at.builder.order.items in
    let lt : c.loop-at.at < length order = omega (arith, c.len.ensures, c.loop-at.builder.order.ok.0) in
    let most = no_longer P c.plan_is_consistent.ensures (edges_of P (take c.loop-at.at order)) order
    c.loop-at.builder.lacking.entries c.loop-at.invariant.grown in
    omega (arith, lt, most)

pub loop-at-preserved : goal.loop-at-preserved
loop-at-preserved c =
    let P = c.args.m.now in
    let order = c.loop-at.builder.order.items in
    let table = c.loop-at.builder.lacking.entries in
    let new = c.pass.new.builder.order.items in
    let g = c.loop-at.invariant.grown in
    let lt : c.loop-at.at < length order = omega (arith, c.len.ensures, c.loop-at.builder.order.ok.0) in
    let here : slice_get order c.loop-at.at ≡ Some c.copy-t.result = slice_get_at order c.loop-at.at c.index.result.now
    lt c.index.ensures ∙ ap Some (sym c.copy-t.ensures) in
    let grows = c.in_ok-pass.ensures in
    record {
      within = omega (arith, lt, ap length grows.extends, length-append order grows.more);
      grown = passed P c.plan_is_consistent.ensures c.loop-at.at order new table c.pass.new.builder.lacking.entries c.copy-t.result g here grows;
    }

pub returns : goal.returns
returns c =
    let P = c.args.m.now in
    let order = c.loop-at.builder.order.items in
    let table = c.loop-at.builder.lacking.entries in
    let ge : length order ≤ c.loop-at.at = omega (arith, c.len.ensures, c.loop-at.builder.order.ok.0) in
    let whole = subst (λ l. HasGrown P (edges_of P l) order table) (take_all c.loop-at.at order ge) c.loop-at.invariant.grown in
    subst (IsGreatestOrder P) (sym c.of.ensures) (greatest P c.plan_is_consistent.ensures order table whole)
