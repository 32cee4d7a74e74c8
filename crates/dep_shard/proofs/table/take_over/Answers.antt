use Rattle.std.proofs.Common.{◌∙◌}
use Rattle.dep_shard.proofs.TableLemmas.{moved}
use Rattle.dep_shard.proofs.table.take_over.Goals as goal
use Rattle.list_lemmas.proofs.Options.{on_success}

pub returns-clause-entries : goal.returns-clause-entries
returns-clause-entries c =
    (λ i. (c.swap.ensures.x_after i).entries)
    ∙ moved c.args.reserved.now.entries c.args.used.now.entries c.append.new.self.entries c.requires.empty
    (on_success _ _ c.unwrap.ensures c.append.ensures.entries) c.len-len.ensures.unique
