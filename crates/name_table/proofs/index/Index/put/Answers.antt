use Rattle.std.proofs.Common.{sym, refl, ◌∙◌}
use Rattle.name_table.proofs.Placed.{slot_put, other_put}
use Rattle.name_table.proofs.index.Index.put.Goals as goal

pub returns-then-has_room-clause-put : goal.returns-then-has_room-clause-put
returns-then-has_room-clause-put c names is long none =
    slot_put names c.args.self.now _ c.args.name.now c.bytes.result.now c.mixed-mixed.result c.within-at.result
    c.len.result c.args.number c.index.result.now is none long
    c.bytes.ensures c.mixed-mixed.ensures (c.len.ensures ∙ c.args.self.now.buckets.ok.0) c.within-at.ensures.left c.within-at.ensures.within c.index.ensures
    c.low.result c.index_mut.result.now c.push.new.self c.low.ensures (sym c.if-has_room.true ∙ c.has_room.ensures)
    c.index_mut.ensures.value c.push.ensures refl refl

pub returns-clause-put : goal.returns-clause-put
returns-clause-put c names is long none =
    other_put names c.args.self.now _ c.args.name.now c.bytes.result.now c.mixed-mixed.result c.within-at.result
    c.len.result c.args.number c.index.result.now is none long
    c.bytes.ensures c.mixed-mixed.ensures (c.len.ensures ∙ c.args.self.now.buckets.ok.0) c.within-at.ensures.left c.within-at.ensures.within c.index.ensures
    c.in_ok-of.field-0 (sym c.if-has_room.false ∙ c.has_room.ensures) (c.in_ok-of.ensures ∙ c.bytes-2.ensures) refl c.in_ok-insert.ensures.updates.0
