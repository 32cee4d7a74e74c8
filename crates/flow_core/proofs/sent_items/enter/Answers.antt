use Rattle.std.proofs.Common.{◌∙◌}
use Rattle.flow_core.proofs.Kept.{found_as}
use Rattle.flow_core.proofs.Lookups.{add_by}
use Rattle.flow_core.proofs.sent_items.enter.Goals as goal

pub returns-clause-ok : goal.returns-clause-ok
returns-clause-ok c =
    add_by _ c.items_compare_field_by_field.ensures.items.same c.args.table.now.entries c.insert.new.self.entries c.args.item c.args.tile
    (found_as _ c.items_compare_field_by_field.ensures.items.same c.args.item c.args.table.now.entries ∙ c.requires) c.in_ok-insert.ensures.entries
