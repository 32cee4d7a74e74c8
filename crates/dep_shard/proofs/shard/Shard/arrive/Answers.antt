use Rattle.std.proofs.Common.{◌≡◌, Some, ap, sym, subst}
use Rattle.std.specs.Option.{option_copied, unwrap_or}
use Rattle.ptg_base.specs.Entry.{Entry}
use Rattle.dep_shard.specs.Content.{Updates, entry_before, fresh, with_arrival}
use Rattle.std.proofs.lemmas.Result.{on_ok_weaker}
use Rattle.dep_shard.proofs.shard.Shard.arrive.Goals as goal

pub returns-in-Some-clause-ok : goal.returns-in-Some-clause-ok
returns-in-Some-clause-ok c =
    let t = c.args.edge.now.to in
    let found = c.in-Some.ensures.some in
    let is : found.entry ≡ entry_before c.args.self.now t c.args.goal c.args.priority = sym
    (ap (λ w. unwrap_or w (fresh c.args.goal c.args.priority)) found.is) in
    on_ok_weaker c.arrive_at.result
    (λ here. subst (λ (e : Entry). Updates c.args.self.now.entries c.arrive_at.new.self.entries t
    (Some (with_arrival e c.args.edge.now.in_flow (option_copied c.args.tile)))) is (here t found.entry found.at))
    c.arrive_at.ensures.ok
