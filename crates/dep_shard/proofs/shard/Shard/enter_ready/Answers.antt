use Rattle.std.proofs.Common.{rules, ◌≡◌, ◌++◌, ◌∷◌, [], refl, Some, cond, ◌∙◌}
use Rattle.ptg_base.specs.TaskComparing.{same_task}
use Rattle.dep_shard.specs.Content.{fresh, entry_in}
use Rattle.dep_shard.proofs.QueueLemmas.{enters_ready, adds_at}
use Rattle.dep_shard.proofs.shard.Shard.enter_ready.Goals as goal

pub invariant_of-self : goal.invariant_of-self
invariant_of-self c =
    let es = c.self.inside.table.entries in
    let made : c.new.result ≡ fresh 0 c.args.priority = search rules in
    enters_ready es c.insert.new.self.entries c.args.t.now (fresh 0 c.args.priority) c.self.inside.queue c.add.new.self _
    c.self.invariant
    (c.insert.ensures.entries ∙ (λ i. es ++ (c.copy.ensures i, made i) ∷ []))
    (λ u. c.insert.ensures.updates u ∙ (λ i. cond (same_task (c.copy.ensures i) u) (Some (made i)) (entry_in es u)))
    refl (adds_at _ _ _ _ c.args.priority c.add.ensures (search rules))
