use Rattle.trace_replay.proofs.CallerLemmas.{may_follow_finished}
use Rattle.run_laws.proofs.trace_texts.a_task_may_follow_finished_ones.Goals as goal

pub returns : goal.returns
returns c = λ P G S t con sound done job. may_follow_finished P G con S sound done t job
