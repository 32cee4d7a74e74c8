use Rattle.std.proofs.Common.{length}
use Rattle.dep_iter.proofs.well.+args_have_values.Given as goal

abbrev pub decreases-args_have_values : goal.decreases-args_have_values
decreases-args_have_values l = length l.args.now
