use Rattle.std.proofs.Common.{rules, ◌∙◌}
use Rattle.dep_table.proofs.Tried.{sent_in, took_in}
use Rattle.dep_table.proofs.table.DepTable.send_once.Goals as goal

pub returns-in-Ok-clause-sent : goal.returns-in-Ok-clause-sent
returns-in-Ok-clause-sent c = let s = c.in-Ok.ensures.same in let y = c.in-Ok.ensures.turn in
    let h = sent_in _ _ _ _ y.1 _ _ s.1 _ _ (s.2 ∙ c.requires.shard) _ _ _ _ c.send.ensures.sent in search rules

pub returns-in-Ok-clause-err : goal.returns-in-Ok-clause-err
returns-in-Ok-clause-err c = let s = c.in-Ok.ensures.same in let y = c.in-Ok.ensures.turn in
    let h = took_in _ _ _ _ y.1 _ _ s.1 _ _ (s.2 ∙ c.requires.shard) _ _ c.send.ensures.left in search rules
