use Rattle.text_laws.proofs.TokensOrFault.{either, only_fault, not_both}
use Rattle.text_laws.proofs.laws.tokens_or_one_fault.Goals as goal

pub returns : goal.returns
returns c = record { either = either; not_both = not_both; one_fault = only_fault }
