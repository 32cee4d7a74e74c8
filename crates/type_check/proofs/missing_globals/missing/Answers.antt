use Rattle.std.proofs.Common.{◌∙◌, ap}
use Rattle.std.specs.List.{list_any}
use Rattle.type_rules.specs.TreesAndFaults.{Word}
use Rattle.type_check.specs.Globals.{is_missing_here}
use Rattle.type_check.proofs.DeclaredGlobals.{missing_is}
use Rattle.type_check.proofs.missing_globals.missing.Goals as goal

pub returns : goal.returns
returns c given tables =
    c.any_is_missing.ensures ∙ (ap (list_any (λ (w : Word). is_missing_here c.args.globals.now w.text))
    c.as_slice.ensures ∙ missing_is c.args.jdf.now given c.args.globals.now tables)
