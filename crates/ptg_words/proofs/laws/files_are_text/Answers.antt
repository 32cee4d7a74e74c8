use Rattle.ptg_words.proofs.CommandFacts.{files_are_text}
use Rattle.ptg_words.proofs.laws.files_are_text.Goals as goal

pub returns : goal.returns
returns c = files_are_text
