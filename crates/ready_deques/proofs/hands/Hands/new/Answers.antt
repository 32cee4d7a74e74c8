use Rattle.std.proofs.Common.{◌∙◌}
use Rattle.ready_deques.proofs.Rows.{kept}
use Rattle.ready_deques.proofs.hands.Hands.new.Goals as goal

pub invariant_of-result : goal.invariant_of-result
invariant_of-result c =
    let r = c.requires in
    let k =
    kept _ _ c.new.result c.args.thieves.items _ c.keep.new.thief r.number r.new r.none r.parts r.deque
    c.index_mut.ensures.value (c.new.ensures ∙ c.keep.ensures.own) c.keep.ensures.thief in
    (k.within, k.parts, k.deque, k.others)

pub returns : goal.returns
returns c =
    let r = c.requires in
    (kept _ _ c.new.result c.args.thieves.items _ c.keep.new.thief r.number r.new r.none r.parts r.deque
    c.index_mut.ensures.value (c.new.ensures ∙ c.keep.ensures.own) c.keep.ensures.thief).account_is
