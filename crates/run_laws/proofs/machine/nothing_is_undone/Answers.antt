use Rattle.run_laws.proofs.Orders.{later}
use Rattle.run_laws.proofs.machine.nothing_is_undone.Goals as goal

pub returns : goal.returns
returns c = later
