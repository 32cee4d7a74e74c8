use Rattle.flow_meaning.proofs.CallerLemmas.{found_known}
use Rattle.shard_calls.proofs.flows.flow_at.Goals as goal

pub returns-clause-known : goal.returns-clause-known
returns-clause-known c = found_known c.args.plan.now c.args.t.now c.args.number c.flows_of.result.now _ _ c.get.result
    c.requires c.flows_of.ensures.flows c.get.ensures.lookup.3 c.get.ensures.lookup.1
