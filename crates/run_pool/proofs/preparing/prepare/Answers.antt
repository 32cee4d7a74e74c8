use Rattle.std.proofs.Common.{◌∙◌}
use Rattle.run_pool.proofs.preparing.prepare.Goals as goal

pub returns-in_ok-lay_out-in-None-clause-too_large : goal.returns-in_ok-lay_out-in-None-clause-too_large
returns-in_ok-lay_out-in-None-clause-too_large c = λ bytes. ((λ e. absurd (cc)), (λ large. let none = c.in-None.ensures ∙ large in absurd (cc)))
