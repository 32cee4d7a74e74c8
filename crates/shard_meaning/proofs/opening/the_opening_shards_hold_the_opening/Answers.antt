use Rattle.shard_meaning.proofs.Openings.{opening_reserve, opening_share}
use Rattle.shard_meaning.proofs.opening.the_opening_shards_hold_the_opening.Goals as goal

pub returns : goal.returns
returns c = record { share = λ P G of k y opening. opening_share P of k y opening G; reserve = λ P of k y opening h. opening_reserve P of k y opening h }
