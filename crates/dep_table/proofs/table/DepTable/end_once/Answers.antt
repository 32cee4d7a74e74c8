use Rattle.std.proofs.Common.{rules, ◌∙◌}
use Rattle.dep_table.specs.Views.{shown}
use Rattle.dep_table.proofs.Tried.{ended_at}
use Rattle.dep_table.proofs.table.DepTable.end_once.Goals as goal

pub returns-in-Ok-clause-ended : goal.returns-in-Ok-clause-ended
returns-in-Ok-clause-ended c = let s = c.in-Ok.ensures.same in let y = c.in-Ok.ensures.turn in
    let h = ended_at _ _ (s.2 ∙ c.requires.shard) _ _ (c.end.ensures.ended (shown c.args.pass.now) y.0 y.0 y.1) in search rules
