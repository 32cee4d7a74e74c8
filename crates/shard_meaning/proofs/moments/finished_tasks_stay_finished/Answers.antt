use Rattle.shard_meaning.proofs.Calming.{finished-claim, finished-end, finished-send}
use Rattle.shard_meaning.proofs.Openings.{opening_finished}
use Rattle.shard_meaning.proofs.moments.finished_tasks_stay_finished.Goals as goal

pub returns : goal.returns
returns c = record {
  opening = opening_finished;
  claim = λ P G R t finished. finished-claim P G R finished t;
  send = λ P G R i may finished. finished-send P G R finished i may;
  end = λ P G R t runs done finished. finished-end P G R finished t runs done;
}
