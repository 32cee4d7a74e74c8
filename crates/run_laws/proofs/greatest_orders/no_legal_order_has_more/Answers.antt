use Rattle.std.proofs.Common.{[]}
use Rattle.run_laws.proofs.Greatest.{has_those}
use Rattle.run_laws.proofs.greatest_orders.no_legal_order_has_more.Goals as goal

pub returns : goal.returns
returns c = λ P ts us t g l i. has_those P ts g [] us l (λ u j. absurd j) t i
