use Rattle.std.proofs.Common.{arith}
use Rattle.shard_meaning.proofs.Holding.{numbers_at_most, numbers_below, numbers_with_entry, some_runs}
use Rattle.shard_meaning.proofs.holder.the_numbers_of_a_shard_are_bounded.Goals as goal

pub returns : goal.returns
returns c = record {
  at_most = λ P G of k R y con sound h. numbers_at_most P G of k R y h con sound;
  entry = λ P G of k R y t e con sound h is. numbers_with_entry P G of k R y h con sound t e is;
  unclaimed = λ P G of k R y t con sound h job free. numbers_below P G of k R y h con sound t job free;
  running = λ P G of k R y t con sound h at runs. (
    some_runs P G of k R y h t at runs,
    omega
        (arith, numbers_at_most P G of k R y h con sound, some_runs P G of k R y h t at runs),
  );
}
