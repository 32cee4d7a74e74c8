use Rattle.std.proofs.Common.{◌≡◌, arith, true}
use Rattle.std.specs.Prelude.{nat_le}
use Rattle.std.proofs.lemmas.Bool.Decides.{nat_tests}
use Rattle.ptg_base.specs.Decimal.{decimal}
use Rattle.ptg_words.proofs.Rules.{number_at_most}
use Rattle.ptg_words.proofs.verb.small_number.Goals as goal

pub overflow_cast-result : goal.overflow_cast-result
overflow_cast-result c =
    let fits : nat_le (decimal c.args.text.now) c.args.most ≡ true = number_at_most 1 c.args.most c.args.text.now c.in-Some.ensures.0 in
    grind (arith, nat_tests, fits, c.in-Some.ensures.1, c.ranges.most)
