use Rattle.std.proofs.Common.{arith}
use Rattle.std.proofs.lemmas.Int.{ints}
use Rattle.trace_core.proofs.Heads.{no_count, other_count}
use Rattle.trace_core.proofs.rows.row_count.Goals as goal

pub returns-in_default : goal.returns-in_default
returns-in_default c = no_count c.args.field.now c.in_default.ensures

pub returns-then-n-lt0 : goal.returns-then-n-lt0
returns-then-n-lt0 c = other_count c.args.field.now c.in-Some.n c.in-Some.ensures.0 c.in-Some.ensures.1 (λ n le e. omega (arith, ints))

pub returns-then-n-gt-MOST_TASKS : goal.returns-then-n-gt-MOST_TASKS
returns-then-n-gt-MOST_TASKS c = other_count c.args.field.now c.in-Some.n c.in-Some.ensures.0 c.in-Some.ensures.1 (λ n le e. omega (arith, ints))
