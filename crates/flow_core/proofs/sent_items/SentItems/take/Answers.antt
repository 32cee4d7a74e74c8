use Rattle.std.proofs.Common.{ap, sym, ◌∙◌}
use Rattle.std.proofs.lemmas.Bool.{false_from_ne_true}
use Rattle.std.specs.Option.{option_flatten}
use Rattle.flow_core.specs.Kept.{SentAndKept, sent_as}
use Rattle.flow_core.proofs.Kept.{found_as, tile_as}
use Rattle.flow_core.proofs.sent_items.SentItems.take.Goals as goal

pub returns-clause-tile : goal.returns-clause-tile
returns-clause-tile c =
    let i = c.args.item.now in
    let es = c.self.inside.edges.entries in
    ap option_flatten (c.in-Some.ensures.value ∙ found_as _ c.items_compare_field_by_field.ensures.items.same i es
    ∙ ap (λ (s : SentAndKept). sent_as i s.edges) c.self.view_is) ∙ tile_as i c.args.self.now.edges

pub returns-in_default-clause-tile : goal.returns-in_default-clause-tile
returns-in_default-clause-tile c =
    let i = c.args.item.now in
    let es = c.self.inside.edges.entries in
    ap option_flatten (c.in_default.ensures.value ∙ found_as _ c.items_compare_field_by_field.ensures.items.same i es
    ∙ ap (λ (s : SentAndKept). sent_as i s.edges) c.self.view_is) ∙ tile_as i c.args.self.now.edges

pub returns-clause-others : goal.returns-clause-others
returns-clause-others c = λ j differs.
    let decides = c.items_compare_field_by_field.ensures.items.same in
    let miss = false_from_ne_true _ (λ k. differs ((decides c.args.item.now j).0 k)) in
    sym (found_as _ decides j c.swap_remove.new.self.entries) ∙ c.swap_remove.ensures.updates.2 j miss
    ∙ found_as _ decides j c.self.inside.edges.entries ∙ ap (λ (s : SentAndKept). sent_as j s.edges) c.self.view_is

pub returns-in_default-clause-others : goal.returns-in_default-clause-others
returns-in_default-clause-others c = λ j differs.
    let decides = c.items_compare_field_by_field.ensures.items.same in
    let miss = false_from_ne_true _ (λ k. differs ((decides c.args.item.now j).0 k)) in
    sym (found_as _ decides j c.swap_remove.new.self.entries) ∙ c.swap_remove.ensures.updates.2 j miss
    ∙ found_as _ decides j c.self.inside.edges.entries ∙ ap (λ (s : SentAndKept). sent_as j s.edges) c.self.view_is
