use Rattle.std.proofs.Common.{◌≡◌, length, arith, ap, ◌∙◌}
use Rattle.type_rules.specs.Definitions.{parameter_of}
use Rattle.type_rules.proofs.Parts.{each_length}
use Rattle.type_rules.proofs.definition.params_of.Goals as goal

pub new-requires : goal.new-requires
new-requires c =
    let same : length c.as_slice.result.now ≡ length c.args.params.now = ap length c.as_slice.ensures
    ∙ each_length (parameter_of c.args.definitions.now) c.args.params.now c.in-Ok.numbers c.in-Ok.ensures.0 in
    omega (arith, same, c.requires.params)
