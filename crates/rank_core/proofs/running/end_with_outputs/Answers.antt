use Rattle.std.proofs.Common.{ap}
use Rattle.flow_meaning.specs.Ending.{has_outputs}
use Rattle.rank_core.proofs.Parts.{end_holds, last_fewer, last_runs}
use Rattle.rank_core.proofs.running.end_with_outputs.Goals as goal

pub end-requires : goal.end-requires
end-requires c = record {
  running = last_runs c.args.at.now c.requires.runs (ap has_outputs c.requires.tiles) c.leave_within.new.shard
      c.leave_within.ensures;
  bound = last_fewer c.args.at.now c.requires.runs (ap has_outputs c.requires.tiles) c.leave_within.new.shard
      c.leave_within.ensures;
}

pub returns-clause-holds : goal.returns-clause-holds
returns-clause-holds c =
    end_holds c.args.at.now c.requires.runs (ap has_outputs c.requires.tiles) c.leave_within.new.shard c.end.new.self
    c.leave_within.ensures c.end.ensures.ends c.end.ensures.rest c.end.ensures.trapped
