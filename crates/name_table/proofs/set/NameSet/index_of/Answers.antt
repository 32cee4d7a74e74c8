use Rattle.std.proofs.Common.{is_some, ap, ◌∙◌}
use Rattle.std.specs.Map.{keys_of}
use Rattle.name_table.specs.Names.{has_name}
use Rattle.name_table.proofs.Named.{found_is}
use Rattle.name_table.proofs.set.NameSet.index_of.Goals as goal

pub returns-clause-found : goal.returns-clause-found
returns-clause-found c =
    ap is_some c.number_of.ensures
    ∙ (found_is c.args.name.now (keys_of c.self.inside.names)
    ∙ ap (λ names. has_name names c.args.name.now) c.self.view_is)
