use Rattle.print_laws.proofs.Back.{reads_back}
use Rattle.print_laws.proofs.laws.reads_back.Goals as goal

pub returns : goal.returns
returns c = reads_back
