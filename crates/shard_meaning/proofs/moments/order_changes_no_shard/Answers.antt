use Rattle.shard_meaning.proofs.Reordered.{reordered_calm, reordered_finished, reordered_moment, reordered_reserve, reordered_share}
use Rattle.shard_meaning.proofs.moments.order_changes_no_shard.Goals as goal

pub returns : goal.returns
returns c = record {
  sound = λ P G R T same sound. reordered_moment P R T same G sound;
  share = λ P G of k R T y con same sound h. reordered_share P R T same G sound con of k y h;
  reserve = λ P of k R T y same h. reordered_reserve P R T same of k y h;
  finished = λ P G R T same finished. reordered_finished P R T same G finished;
  calm = λ P G R T con same sound calm. reordered_calm P R T same G sound con calm;
}
