use Rattle.std.proofs.Common.{not, is_some, sym, refl, ap, ◌∙◌}
use Rattle.name_table.proofs.Found.{number_there}
use Rattle.list_lemmas.proofs.Options.{none_of}
use Rattle.name_table.proofs.Named.{value_is_named}
use Rattle.name_table.proofs.table.NameTable.add.Goals as goal

pub returns-then-is_some-clause-added : goal.returns-then-is_some-clause-added
returns-then-is_some-clause-added g c =
    sym (ap not (value_is_named c.args.name c.args.self.now ∙ (ap is_some (sym c.number_of.ensures) ∙ (sym c.is_some.ensures ∙ c.if-is_some.true))))

pub put-requires-clause-new : goal.put-requires-clause-new
put-requires-clause-new g c =
    number_there c.args.self.now c.self.inside.pairs.items c.self.inside.pairs.items c.self.inside.index c.args.name c.self.invariant c.self.view_is refl
    ∙ (sym c.number_of.ensures ∙ none_of c.number_of.result (sym c.is_some.ensures ∙ c.if-is_some.false))

pub returns-clause-added : goal.returns-clause-added
returns-clause-added g c =
    sym (ap not (value_is_named c.args.name c.args.self.now ∙ (ap is_some (sym c.number_of.ensures) ∙ (sym c.is_some.ensures ∙ c.if-is_some.false))))
