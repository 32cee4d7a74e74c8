use Rattle.dep_iter.proofs.Directed.{fit_of, held_of}
use Rattle.dep_iter.proofs.position.enter.Goals as goal

pub returns-clause-targets : goal.returns-clause-targets
returns-clause-targets c = λ env. rw (c.first_only-p.ensures, c.dependences-p.ensures) (held_of c.args.direction env c.args.flow.now)

pub returns-clause-fits : goal.returns-clause-fits
returns-clause-fits c = λ P h. rw c.dependences-p.ensures (fit_of P c.args.direction c.args.flow.now h)
