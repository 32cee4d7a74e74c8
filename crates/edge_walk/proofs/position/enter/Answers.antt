use Rattle.std.proofs.Common.{refl}
use Rattle.dep_iter.proofs.CallerLemmas.{fit_of}
use Rattle.edge_walk.proofs.position.enter.Goals as goal

pub returns-clause-targets : goal.returns-clause-targets
returns-clause-targets c = λ env. rw (c.first_only.ensures, c.dependences-deps.ensures) refl

pub returns-clause-fits : goal.returns-clause-fits
returns-clause-fits c = λ P h. rw c.dependences-deps.ensures (fit_of P c.args.direction c.args.flow.now h)
