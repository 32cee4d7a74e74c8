use Rattle.top_laws.proofs.OneLoading.{one_loading}
use Rattle.top_laws.proofs.known.reads_determine_the_loads.Goals as goal

pub returns : goal.returns
returns c = one_loading
