use Rattle.word_laws.proofs.Reading.{lacks_iff}
use Rattle.word_laws.proofs.laws.a_value_is_lacking_where_none_follows.Goals as goal

pub returns : goal.returns
returns c = lacks_iff
