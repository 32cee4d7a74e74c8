use Rattle.text_laws.proofs.TreeOrFault.{tree_or_fault}
use Rattle.jdf_read.proofs.CallerLemmas.{not_both}
use Rattle.text_laws.proofs.laws.tree_or_fault.Goals as goal

pub returns : goal.returns
returns c = record { either = tree_or_fault; not_both = not_both }
