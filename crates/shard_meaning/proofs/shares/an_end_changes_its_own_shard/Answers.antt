use Rattle.shard_meaning.proofs.Ends.{end_away, end_here, trap_here}
use Rattle.shard_meaning.proofs.shares.an_end_changes_its_own_shard.Goals as goal

pub returns : goal.returns
returns c = record {
  end = λ P G of k R t y z runs at outs ends kept trapped h. end_here P G of k R t runs y z at outs ends kept trapped h;
  trap = λ P G of k R t cause y z runs at traps ends kept trapped h. trap_here P G of k R t runs y z cause at traps ends kept trapped h;
  away = λ P G of k R t y runs away h. end_away P G of k R t runs y away h;
}
