use Rattle.cert_check.proofs.Whole.{all_without_cycle}
use Rattle.cert_check.proofs.laws.a_greatest_order_is_whole_without_cycle.Goals as goal

pub returns : goal.returns
returns c = λ P ts con g. all_without_cycle P con ts g
