use Rattle.text_laws.proofs.WrittenForms.{units_as_written}
use Rattle.text_laws.proofs.laws.units_as_written.Goals as goal

pub returns : goal.returns
returns c = units_as_written
