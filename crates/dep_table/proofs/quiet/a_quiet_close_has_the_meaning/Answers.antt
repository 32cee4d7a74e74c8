use Rattle.dep_table.proofs.Meanings.{closed_meaning}
use Rattle.dep_table.proofs.quiet.a_quiet_close_has_the_meaning.Goals as goal

pub returns : goal.returns
returns c = λ j vs ys is none. closed_meaning j vs ys is none
