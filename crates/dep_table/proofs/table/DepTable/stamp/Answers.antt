use Rattle.std.proofs.Common.{ap, sym, subst}
use Rattle.work_board.specs.Looks.{HasStamp}
use Rattle.dep_table.specs.Views.{PassView, shown}
use Rattle.dep_table.proofs.table.DepTable.stamp.Goals as goal

pub returns : goal.returns
returns c = λ t runs. subst (HasStamp (shown c.args.pass.now) t) (sym (ap (λ (p : PassView). p.stamp) c.pass.view_is)) (c.requires.pass.stamp t runs)
