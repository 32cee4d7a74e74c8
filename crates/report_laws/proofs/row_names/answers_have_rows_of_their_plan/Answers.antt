use Rattle.report_laws.proofs.PlanRows.{rows_are}
use Rattle.report_laws.proofs.row_names.answers_have_rows_of_their_plan.Goals as goal

pub returns : goal.returns
returns c = λ P G. rows_are P G
