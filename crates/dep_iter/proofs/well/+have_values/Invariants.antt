use Rattle.std.proofs.Common.{length}
use Rattle.dep_iter.proofs.well.+have_values.Given as goal

abbrev pub decreases-have_values : goal.decreases-have_values
decreases-have_values l = length l.es.now
