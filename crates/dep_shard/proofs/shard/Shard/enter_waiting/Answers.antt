use Rattle.std.proofs.Common.{rules, arith, ◌≡◌, ◌++◌, ◌∷◌, [], Some, cond, ap, ◌∙◌, slice_get}
use Rattle.ptg_base.specs.TaskComparing.{same_task}
use Rattle.dep_shard.specs.Content.{Entries, fresh, entry_in}
use Rattle.dep_shard.proofs.QueueLemmas.{at_end, enters_waiting}
use Rattle.dep_shard.proofs.Waiting.{count_waiting-le}
use Rattle.dep_shard.proofs.shard.Shard.enter_waiting.Goals as goal

pub invariant_of-self : goal.invariant_of-self
invariant_of-self c =
    let es = c.self.inside.table.entries in
    let made : c.new.result ≡ fresh c.args.goal c.args.priority = search rules in
    enters_waiting es c.insert.new.self.entries c.args.t.now (fresh c.args.goal c.args.priority) c.self.inside.queue _
    c.self.invariant
    (c.insert.ensures.entries ∙ (λ i. es ++ (c.copy.ensures i, made i) ∷ []))
    (λ u. c.insert.ensures.updates u ∙ (λ i. cond (same_task (c.copy.ensures i) u) (Some (made i)) (entry_in es u)))
    c.requires.goal

pub returns-clause-at : goal.returns-clause-at
returns-clause-at c =
    let es = c.self.inside.table.entries in
    let made : c.new.result ≡ fresh c.args.goal c.args.priority = search rules in
    ap (λ (fs : Entries). slice_get fs c.len-index.result) (c.insert.ensures.entries ∙ (λ i. es ++ (c.copy.ensures i, made i) ∷ []))
    ∙ at_end es (c.args.t.now, fresh c.args.goal c.args.priority) c.len-index.result c.len-index.ensures.len

pub overflow_add-self : goal.overflow_add-self
overflow_add-self c =
    let es = c.self.inside.table.entries in
    omega (arith, count_waiting-le es, c.self.invariant.counted, c.len-index.ensures.len, c.len-index.ensures.small)
