use Rattle.std.proofs.Common.{rules, ◌∙◌}
use Rattle.std.specs.Option.{option_copied}
use Rattle.dep_shard.specs.Content.{fresh}
use Rattle.dep_shard.proofs.QueueLemmas.{comes_first}
use Rattle.dep_shard.proofs.shard.Shard.arrive_first.Goals as goal

pub returns-clause-ok : goal.returns-clause-ok
returns-clause-ok c =
    comes_first c.args.self.now.entries c.copy_in.new.self.entries c.enter_waiting-index.new.self.entries
    c.land.new.self.entries c.args.edge.now.to _ (fresh c.args.goal c.args.priority)
    c.enter_waiting-index.result c.args.edge.now.in_flow _ (option_copied c.args.tile)
    (c.in_ok-copied.ensures.same.entries ∙ c.in_ok-reserve_entries.ensures.same.entries) (search rules)
    c.in_ok-copied.ensures.ok
    c.enter_waiting-index.ensures.entries c.enter_waiting-index.ensures.at c.land.ensures.entries
