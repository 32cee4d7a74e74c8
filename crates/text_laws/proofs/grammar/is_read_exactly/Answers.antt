use Rattle.text_laws.proofs.Exact.{exact}
use Rattle.text_laws.proofs.grammar.is_read_exactly.Goals as goal

pub returns : goal.returns
returns g c = exact g.G.PredictiveGrammar.productions g.G.PredictiveGrammar.claims g.G.PredictiveGrammar.start g.G.PredictiveGrammar.predictive
