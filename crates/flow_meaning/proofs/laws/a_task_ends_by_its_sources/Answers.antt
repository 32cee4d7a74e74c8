use Rattle.flow_meaning.proofs.Enough.{fixed}
use Rattle.flow_meaning.proofs.laws.a_task_ends_by_its_sources.Goals as goal

pub returns : goal.returns
returns c = λ P G t con task. fixed P G con t task
