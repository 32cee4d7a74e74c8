use Rattle.std.proofs.Common.{refl, sym}
use Rattle.ptg_base.specs.declared.edge.Item.TheVariants as item
use Rattle.edge_match.specs.Marks.{CountsItem, Is, IsNewPlace, IsPlace}
use Rattle.edge_match.specs.declared.phase.Phase.TheVariants.{Connecting}
use Rattle.edge_match.proofs.Parts.{decides, followed, stop}
use Rattle.edge_match.specs.FlowParts.{plan_of}
use Rattle.edge_match.proofs.edges.connect_write.Goals as goal

pub returns-in_err-check_tile : goal.returns-in_err-check_tile
returns-in_err-check_tile c = λ w same.
    stop _ c.from_residual.ensures.1 (c.in_err-check_tile.ensures Connecting c.args.counted.now)

pub returns-in_err-require : goal.returns-in_err-require
returns-in_err-require c = λ w same.
    let s = c.args.counted.now in
    let exists = c.in_err-require.ensures.checked (Is (IsPlace w.place)) s s (decides (IsPlace w.place) (rw (sym same) at c.has_place.ensures)) refl in
    followed (c.in_ok-check_tile.ensures Connecting s) (stop _ c.from_residual-in_err-require.ensures.1 exists)

pub returns-in_err-require-2 : goal.returns-in_err-require-2
returns-in_err-require-2 c = λ w same.
    let s = c.args.counted.now in
    let i = item.Write w in
    let exists = c.in_ok-require.ensures.checked (Is (IsPlace w.place)) s s (decides (IsPlace w.place) (rw (sym same) at c.has_place.ensures)) refl in
    let counted = c.add_item-fits.ensures.counted (plan_of c.args.at.now) i in
    let fits = c.in_err-require-2.ensures.checked (CountsItem i) s c.add_item-fits.new.self counted refl in
    followed (c.in_ok-check_tile.ensures Connecting s)
    (followed exists (stop _ c.from_residual-in_err-require-2.ensures.1 fits))

pub returns : goal.returns
returns c = λ w same.
    let P = plan_of c.args.at.now in
    let s = c.args.counted.now in
    let u = c.add_item-fits.new.self in
    let i = item.Write w in
    let exists = c.in_ok-require.ensures.checked (Is (IsPlace w.place)) s s (decides (IsPlace w.place) (rw (sym same) at c.has_place.ensures)) refl in
    let fits = c.in_ok-require-2.ensures.checked (CountsItem i) s u (c.add_item-fits.ensures.counted P i) refl in
    let new = rw (sym same) at (c.add_place-new.ensures P (c.has_place.ensures.0 c.in_ok-require.ensures.holds)) in
    followed (c.in_ok-check_tile.ensures Connecting s)
    (followed exists (followed fits (c.require-3.ensures.checked (IsNewPlace w.place) u c.add_place-new.new.self new refl)))
