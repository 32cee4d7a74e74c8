use Rattle.std.proofs.Common.{ap}
use Rattle.dep_shard.specs.Content.{Content}
use Rattle.dep_shard.proofs.QueueLemmas.{found_at}
use Rattle.dep_shard.proofs.shard.Shard.index_of.Goals as goal

pub returns-clause-some : goal.returns-clause-some
returns-clause-some c = found_at c.args.self.now c.self.inside.table.entries c.args.t.now c.get_index_of.result
    (ap (λ (y : Content). y.entries) c.self.view_is) c.get_index_of.ensures.index
