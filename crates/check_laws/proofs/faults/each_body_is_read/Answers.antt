use Rattle.check_laws.proofs.Readings.{body_read}
use Rattle.check_laws.proofs.faults.each_body_is_read.Goals as goal

pub returns : goal.returns
returns c = body_read
