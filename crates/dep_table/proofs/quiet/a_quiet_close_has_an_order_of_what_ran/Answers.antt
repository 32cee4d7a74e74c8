use Rattle.std.proofs.Common.{◌∙◌}
use Rattle.dep_table.proofs.Meanings.{closed_meaning}
use Rattle.dep_table.proofs.quiet.a_quiet_close_has_an_order_of_what_ran.Goals as goal

pub returns : goal.returns
returns c = λ j vs ys ts is none o. record { legal = o.legal; all = λ f. o.all f ∙ (closed_meaning j vs ys is none).claims f }
