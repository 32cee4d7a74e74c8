use Rattle.std.proofs.Common.{is_some, sym, ap, ◌∙◌}
use Rattle.name_table.specs.Names.{has_name}
use Rattle.name_table.proofs.Named.{has_is, is_some_copied}
use Rattle.name_table.proofs.set.NameSet.contains.Goals as goal

pub returns : goal.returns
returns c =
    c.is_some.ensures
    ∙ (sym (is_some_copied c.get.result)
    ∙ (ap is_some c.get.ensures
    ∙ (has_is c.args.name.now c.self.inside.names
    ∙ ap (λ names. has_name names c.args.name.now) c.self.view_is)))
