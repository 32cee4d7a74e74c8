use Rattle.text_laws.proofs.Longest.{longest}
use Rattle.text_laws.proofs.laws.longest_is_taken.Goals as goal

pub returns : goal.returns
returns c = longest
