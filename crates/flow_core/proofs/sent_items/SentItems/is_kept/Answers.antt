use Rattle.std.proofs.Common.{ap, cond, is_some, ◌∙◌}
use Rattle.flow_core.specs.Kept.{SentAndKept, sent_as}
use Rattle.flow_core.proofs.Kept.{found_as}
use Rattle.flow_core.proofs.sent_items.SentItems.is_kept.Goals as goal

pub returns-then-is_write : goal.returns-then-is_write
returns-then-is_write c =
    let i = c.args.item.now in
    let s = c.args.self.now in
    c.contains_key.ensures
    ∙ ap is_some (found_as _ c.items_compare_field_by_field.ensures.items.same i c.self.inside.writes.entries
    ∙ ap (λ (x : SentAndKept). sent_as i x.writes) c.self.view_is
    ∙ ap (λ b. sent_as i (cond b s.writes s.edges)) c.if-is_write.ensures)

pub returns : goal.returns
returns c =
    let i = c.args.item.now in
    let s = c.args.self.now in
    c.contains_key-2.ensures
    ∙ ap is_some (found_as _ c.items_compare_field_by_field.ensures.items.same i c.self.inside.edges.entries
    ∙ ap (λ (x : SentAndKept). sent_as i x.edges) c.self.view_is
    ∙ ap (λ b. sent_as i (cond b s.writes s.edges)) c.if-is_write.ensures)
