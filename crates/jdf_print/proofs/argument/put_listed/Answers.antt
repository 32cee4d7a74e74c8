use Rattle.std.proofs.lemmas.Result.{IfOk-equal}
use Rattle.jdf_print.specs.Fragments.{comma}
use Rattle.jdf_print.specs.Spelling.{argument}
use Rattle.jdf_print.proofs.Separated.{all_written}
use Rattle.jdf_print.proofs.argument.put_listed.Goals as goal

pub returns : goal.returns
returns c =
    IfOk-equal _ _ _ _ c.put_later.ensures
    (all_written comma argument c.args.args.now c.in-Some.first.now c.in-Some.later.now c.args.out.now
    c.put_argument.new.out c.in-Some.ensures.cases.0 c.in_ok-put_argument.ensures)
