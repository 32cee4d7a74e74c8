use Rattle.shard_meaning.proofs.SoundMoments.{next_may, sent_is}
use Rattle.shard_meaning.proofs.moments.running_tasks_may_send.Goals as goal

pub returns : goal.returns
returns c = record { may = λ P G R i con sound next. next_may P G con R sound i next; tile = λ P G R i con sound may. sent_is P G con R.state sound i may }
