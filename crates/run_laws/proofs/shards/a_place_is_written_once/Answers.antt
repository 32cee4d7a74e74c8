use Rattle.run_laws.proofs.Writing.{unwritten}
use Rattle.run_laws.proofs.shards.a_place_is_written_once.Goals as goal

pub returns : goal.returns
returns c = λ P G of k R w y p con sound may h i same. unwritten P G con of k R sound w may y h p i same
