use Rattle.dep_table.proofs.Working.{idle_works}
use Rattle.dep_table.proofs.board.an_idle_pass_is_a_workers_pass.Goals as goal

pub returns : goal.returns
returns c = λ table p of idle. idle_works table p of idle
