use Rattle.std.proofs.Common.{◌∷◌, [], ◌++◌, not, refl, ◌∙◌}
use Rattle.name_table.specs.Names.{has_name}
use Rattle.type_rules.specs.TreesAndFaults.{Word}
use Rattle.type_rules.proofs.CallerLemmas.{next_names}
use Rattle.type_check.proofs.GlobalTables.{by_not}
use Rattle.type_check.proofs.globals.declared_names.Goals as goal

pub loop-global-preserved : goal.loop-global-preserved
loop-global-preserved c =
    let names = c.loop-global.names in
    let name = c.global-item.result.text in
    next_names (λ (w : Word). w) c.args.globals.now c.loop-global.global-index c.global-item.result name names c.add_name.new.names (not (has_name names name))
    c.loop-global-test.true c.global-item.is refl c.loop-global.invariant refl
    (c.in_ok-add_name.ensures ∙ by_not (has_name names name) names (names ++ name ∷ []))
