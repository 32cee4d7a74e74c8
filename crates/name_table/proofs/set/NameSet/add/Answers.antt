use Rattle.std.proofs.Common.{◌≡◌, Bool, not, ap, subst, ◌∙◌, IfOk}
use Rattle.name_table.specs.Names.{has_name}
use Rattle.name_table.proofs.Named.{has_is}
use Rattle.name_table.proofs.set.NameSet.add.Goals as goal

pub returns-clause-added : goal.returns-clause-added
returns-clause-added c =
    let P : Bool → Type 0 = λ b. IfOk c.add.result (λ new. new ≡ not b) in
    subst P (has_is c.args.name c.self.inside.names ∙ ap (λ names. has_name names c.args.name) c.self.view_is) c.add.ensures.added
