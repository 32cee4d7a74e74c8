use Rattle.flow_core.proofs.KeptGoals.{goal_kept}
use Rattle.flow_core.proofs.goals.keep_goal.Goals as goal

pub returns : goal.returns
returns c = goal_kept c.args.m.now c.args.table.now.entries c.insert.new.self.entries c.copy.result c.args.t.now
    c.args.goal c.requires.goals c.copy.ensures c.requires.goal (λ u. c.in_ok-insert.ensures.updates.0 u)
