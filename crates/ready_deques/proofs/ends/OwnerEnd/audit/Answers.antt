use Rattle.std.proofs.Common.{ap, ◌∙◌, arith}
use Rattle.ready_deques.specs.Ends.{Owner}
use Rattle.ready_deques.proofs.Keeps.{learns}
use Rattle.ready_deques.proofs.ends.OwnerEnd.audit.Goals as goal

pub len_as-requires : goal.len_as-requires
len_as-requires c = learns _ _ (ap (λ (b : Owner). b.parts) c.self.view_is ∙ c.requires)

pub returns-clause-bounded : goal.returns-clause-bounded
returns-clause-bounded c = rw (← c.self.view_is) (λ id. let h = c.len_as.ensures.rule.2 id in omega arith)
