use Rattle.dep_table.proofs.Quiets.{calm_closed, closed_calm, closed_quiescent}
use Rattle.dep_table.proofs.quiet.a_closed_table_without_work_is_quiescent.Goals as goal

pub returns : goal.returns
returns c = record {
  calm = λ j vs ys is none. (closed_calm j vs ys is none, closed_quiescent j vs ys is (closed_calm j vs ys is none));
  work = λ j vs ys is calm. calm_closed j vs ys is calm;
}
