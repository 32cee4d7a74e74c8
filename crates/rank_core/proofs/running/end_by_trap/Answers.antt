use Rattle.std.proofs.Common.{arith}
use Rattle.rank_core.proofs.Parts.{get_ok, ended_fewer, trap_holds}
use Rattle.rank_core.proofs.running.end_by_trap.Goals as goal

pub trap-requires-clause-bound : goal.trap-requires-clause-bound
trap-requires-clause-bound c = ended_fewer c.args.at.now c.requires.runs c.args.shard.now c.requires.holds

pub returns : goal.returns
returns c =
    let ok = c.trap.ensures.succeeds (omega (arith, c.requires.room.2.trap)) in
    trap_holds c.args.at.now c.requires.runs c.args.cause c.requires.trap c.args.shard.now c.trap.new.self
    c.requires.holds (get_ok c.trap.result ok c.trap.ensures.ends) c.trap.ensures.rest
    (get_ok c.trap.result ok c.trap.ensures.ok)
