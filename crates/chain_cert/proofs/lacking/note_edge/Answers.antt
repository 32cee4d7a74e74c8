use Rattle.std.proofs.Common.{◌≡◌, ℕ, ◌+◌, ◌-◌, cond, List, Some, None, ap, ◌∙◌, arith}
use Rattle.std.specs.Map.{lookup}
use Rattle.ptg_base.specs.Task.{Task}
use Rattle.ptg_base.specs.TaskComparing.{same_task}
use Rattle.dep_iter.specs.Edges.{goal as goal_of}
use Rattle.chain_cert.proofs.Tables.{entered, lowered, some_go}
use Rattle.chain_cert.proofs.lacking.note_edge.Goals as goal

pub returns-in-Some-clause-table : goal.returns-in-Some-clause-table
returns-in-Some-clause-table c = λ u. lowered c.args.m.now c.args.table.now.entries c.lower.new.table.entries
    c.args.t.now u c.in-Some.left c.in-Some.ensures.0 c.in-Some.ensures.1

pub returns-clause-table : goal.returns-clause-table
returns-clause-table c = λ u.
    let none : lookup (same_task c.args.t.now) c.args.table.now.entries ≡ None = c.in_default.ensures.1 in
    let some = some_go c.args.m.now c.args.table.now.entries c.args.t.now none c.requires.lacks in
    let few : c.goal-left.result - 1 + 1 ≡ goal_of c.args.m.now c.args.t.now = omega (arith, some, c.goal-left.ensures) in
    entered c.args.m.now c.args.table.now.entries c.insert.new.self.entries c.args.t.now c.copy.result u (c.goal-left.result - 1)
    c.copy.ensures none few
    (c.in_ok-insert.ensures.updates.0 u ∙ ap (λ (l : List (Task × ℕ)). cond (same_task c.copy.result u)
    (Some (c.goal-left.result - 1)) (lookup (same_task u) l)) c.in_default.ensures.0)
