use Rattle.std.proofs.Common.{[], map}
use Rattle.std.specs.Result.{result_unwrap_or}
use Rattle.list_lemmas.proofs.Truth.{on_false_weaker}
use Rattle.dep_iter.specs.Arguments.{arg_values}
use Rattle.dep_iter.proofs.Odometer.{none_later}
use Rattle.dep_iter.proofs.combining.+push_spans.Goals as goal

pub returns-in-Some-nonempty-clause-none : goal.returns-in-Some-nonempty-clause-none
returns-in-Some-nonempty-clause-none t c =
    let env = c.args.env.now in
    rw c.in-Some.ensures.cases.0 (on_false_weaker c.push_spans.result
    (none_later (result_unwrap_or (arg_values c.in-Some.arg.now env) [])
    (map (λ a. result_unwrap_or (arg_values a env) []) c.in-Some.others.now)) c.push_spans.ensures.none)
