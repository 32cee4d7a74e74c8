use Rattle.std.proofs.Common.{rules, ◌∙◌}
use Rattle.dep_table.specs.Views.{shown}
use Rattle.dep_table.proofs.Tried.{claimed_at, gone_at}
use Rattle.dep_table.proofs.table.DepTable.claim_once.Goals as goal

pub returns-in-Some-clause-claim : goal.returns-in-Some-clause-claim
returns-in-Some-clause-claim c = let s = c.in-Ok.ensures.same in let y = c.in-Ok.ensures.turn in
    let h = claimed_at _ _ s.1 _ _ (s.2 ∙ c.requires.shard) _ _ _ _ (c.in-Some.ensures.some (shown c.args.pass.now) y.0 y.0 y.1) in search rules

pub returns-in-None-clause-claim : goal.returns-in-None-clause-claim
returns-in-None-clause-claim c = let s = c.in-Ok.ensures.same in let y = c.in-Ok.ensures.turn in
    let h = gone_at _ _ (s.2 ∙ c.requires.shard) _ _ _ (c.in-None.ensures.none (shown c.args.pass.now) y.0 y.0 y.1) in search rules
