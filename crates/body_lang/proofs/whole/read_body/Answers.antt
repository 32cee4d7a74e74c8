use Rattle.std.proofs.Common.{ap, ◌∙◌, Err}
use Rattle.body_lang.specs.Environment.{environment_of}
use Rattle.body_lang.proofs.Exactly.{of_tree, of_broken}
use Rattle.body_lang.proofs.whole.read_body.Goals as goal

-- at the fault at most as many tokens are left as there are
pub broken-requires : goal.broken-requires
broken-requires c = (c.tree.ensures.exact.fault c.in-Err-Fault.fault (c.in-Err-Fault.is ∙ ap Err c.in-Err-Fault.field-0-is)).within

pub returns-in-Ok-clause-exact : goal.returns-in-Ok-clause-exact
returns-in-Ok-clause-exact c = of_tree (environment_of c.args.scope.now) c.args.tokens.now c.args.finish
    c.in-Ok.tree c.resolve.result c.in-Ok.ensures.exact.found c.resolve.ensures.answer

pub returns-in-Err-Fault-clause-exact : goal.returns-in-Err-Fault-clause-exact
returns-in-Err-Fault-clause-exact c =
    let met = c.tree.ensures.exact.fault c.in-Err-Fault.fault (c.in-Err-Fault.is ∙ ap Err c.in-Err-Fault.field-0-is) in
    of_broken (environment_of c.args.scope.now) c.args.tokens.now c.args.finish c.in-Err-Fault.fault c.broken.result met c.broken.ensures
