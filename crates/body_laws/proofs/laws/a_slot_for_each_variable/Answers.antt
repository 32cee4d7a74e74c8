use Rattle.body_laws.proofs.Declared.{variables_at_most}
use Rattle.body_laws.proofs.VariableCount.{slots_are}
use Rattle.body_laws.proofs.laws.a_slot_for_each_variable.Goals as goal

pub returns : goal.returns
returns c scope tokens x h = slots_are scope h.tree x (variables_at_most tokens h.tree h.text) h.named
