use Rattle.top_laws.proofs.Replays.{traces_replay}
use Rattle.top_laws.proofs.laws.traces_replay.Goals as goal

pub returns : goal.returns
returns c = traces_replay
