use Rattle.std.proofs.Common.{rules, ◌∙◌}
use Rattle.dep_table.specs.Views.{shown}
use Rattle.dep_table.proofs.Tried.{ended_at, took_at}
use Rattle.dep_table.proofs.table.DepTable.trap_once.Goals as goal

pub returns-in_err-trap-in-Ok-clause-err : goal.returns-in_err-trap-in-Ok-clause-err
returns-in_err-trap-in-Ok-clause-err c = let s = c.in-Ok.ensures.same in let y = c.in-Ok.ensures.turn in
    let h = took_at _ _ (s.2 ∙ c.requires.shard) _ _ (c.in_err-trap-in-Ok.ensures.left (shown c.args.pass.now) y.0 y.0 y.1) in search rules

pub returns-in_ok-trap-in-Ok-clause-ended : goal.returns-in_ok-trap-in-Ok-clause-ended
returns-in_ok-trap-in-Ok-clause-ended c = let s = c.in-Ok.ensures.same in let y = c.in-Ok.ensures.turn in
    let h = ended_at _ _ (s.2 ∙ c.requires.shard) _ _ (c.in_ok-trap-in-Ok.ensures.ended (shown c.args.pass.now) y.0 y.0 y.1) in search rules
