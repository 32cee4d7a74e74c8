use Rattle.std.proofs.Common.{ap, subst, ◌∙◌}
use Rattle.dep_shard.specs.Content.{Content, Entries, HasNoReady}
use Rattle.dep_shard.proofs.QueueLemmas.{calm}
use Rattle.dep_shard.proofs.shard.Shard.best_ready.Goals as goal

pub returns-then-self-len-clause-none : goal.returns-then-self-len-clause-none
returns-then-self-len-clause-none c =
    let es = c.self.inside.table.entries in
    let fact = calm es c.self.inside.queue c.self.inside.waiting c.self.invariant c.len.ensures.distinct in
    subst (λ (fs : Entries). HasNoReady fs) (ap (λ (y : Content). y.entries) c.self.view_is) (fact.0 (c.if-self-len.true ∙ c.len.ensures.len))
