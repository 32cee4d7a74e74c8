use Rattle.std.proofs.Common.{sym, ◌∙◌}
use Rattle.name_table.proofs.Found.{number_there}
use Rattle.name_table.proofs.table.NameTable.number_of.Goals as goal

pub returns-in-Some : goal.returns-in-Some
returns-in-Some g c =
    sym c.in-Some.is ∙ (c.number_of.ensures
    ∙ number_there c.args.self.now c.self.inside.pairs.items c.as_slice.result.now c.self.inside.index
    c.args.name.now c.self.invariant c.self.view_is c.as_slice.ensures.value)

pub returns-in-None : goal.returns-in-None
returns-in-None g c =
    sym c.in-None.is ∙ (c.number_of.ensures
    ∙ number_there c.args.self.now c.self.inside.pairs.items c.as_slice.result.now c.self.inside.index
    c.args.name.now c.self.invariant c.self.view_is c.as_slice.ensures.value)
