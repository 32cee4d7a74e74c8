use Rattle.jdf_lex.proofs.Uniqueness.{one_list}
use Rattle.jdf_lex.proofs.laws.one_list_of_tokens.Goals as goal

pub returns : goal.returns
returns c = one_list
