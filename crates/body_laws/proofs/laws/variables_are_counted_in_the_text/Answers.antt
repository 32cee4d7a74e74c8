use Rattle.body_laws.proofs.Declared.{variables_at_most}
use Rattle.body_laws.proofs.VariableCount.{no_fault_of_number}
use Rattle.body_laws.proofs.laws.variables_are_counted_in_the_text.Goals as goal

pub returns : goal.returns
returns c scope tokens f h = no_fault_of_number scope h.tree f (variables_at_most tokens h.tree h.text) h.named
