use Rattle.top_laws.proofs.Loaded.{loads_are_files}
use Rattle.top_laws.proofs.known.loads_are_files.Goals as goal

pub returns : goal.returns
returns c = loads_are_files
