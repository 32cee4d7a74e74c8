use Rattle.std.proofs.Common.{◌≡◌, ap, sym, subst, ◌∙◌}
use Rattle.std.specs.Cmp.{unsigned_Decides}
use Rattle.dep_shard.specs.Content.{Content, Entries, HasNoReady}
use Rattle.dep_shard.proofs.QueueLemmas.{calm}
use Rattle.dep_shard.proofs.shard.Shard.is_calm.Goals as goal

pub returns-then-self-eq0 : goal.returns-then-self-eq0
returns-then-self-eq0 c =
    let es = c.self.inside.table.entries in
    let fact = calm es c.self.inside.queue c.self.inside.waiting c.self.invariant c.len.ensures.distinct in
    let runs : c.args.self.now.running ≡ 0 = sym (ap (λ (y : Content). y.running) c.self.view_is) ∙ c.if-self-eq0.true in
    let same = ap (λ (y : Content). y.entries) c.self.view_is in (
      λ h. (runs, subst (λ (fs : Entries). HasNoReady fs) same (fact.0 ((unsigned_Decides c.self.inside.waiting c.len.result).0 h ∙ c.len.ensures.len))),
      λ p. (unsigned_Decides c.self.inside.waiting c.len.result).1 (fact.1 (subst (λ (fs : Entries). HasNoReady fs) (sym same) p.1) ∙ sym c.len.ensures.len),
    )
