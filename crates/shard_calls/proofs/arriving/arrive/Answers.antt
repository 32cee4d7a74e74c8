use Rattle.std.proofs.Common.{Some, ap, sym, subst}
use Rattle.std.specs.Option.{option_copied, unwrap_or}
use Rattle.ptg_base.specs.Entry.{Entry}
use Rattle.dep_iter.specs.Edges.{goal as goal_of}
use Rattle.dep_iter.specs.Hints.{priority}
use Rattle.dep_shard.specs.Content.{Updates, fresh, with_arrival}
use Rattle.std.proofs.lemmas.Result.{on_ok_weaker}
use Rattle.shard_calls.proofs.arriving.arrive.Goals as goal

pub returns-in-Some-clause-ok : goal.returns-in-Some-clause-ok
returns-in-Some-clause-ok c =
    let t = c.args.edge.now.to in
    let found = c.in-Some.ensures.some in
    let is = sym (ap (λ o. unwrap_or o (fresh (goal_of c.args.m.now t) (priority c.args.m.now t))) found.is) in
    on_ok_weaker c.arrive_at.result
    (λ here. subst (λ (e : Entry). Updates c.args.shard.now.entries c.arrive_at.new.self.entries t
    (Some (with_arrival e c.args.edge.now.in_flow (option_copied c.args.tile)))) is (here t found.entry found.at))
    c.arrive_at.ensures.ok
