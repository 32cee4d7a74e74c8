use Rattle.std.proofs.Common.{rules}
use Rattle.dep_table.specs.Views.{shown}
use Rattle.table_runs.proofs.Watches.{watches_on}
use Rattle.table_runs.proofs.watcher.Watcher.hold.Goals as goal

pub returns-in-Ok-clause-watcher : goal.returns-in-Ok-clause-watcher
returns-in-Ok-clause-watcher c =
    let y = c.in-Ok.ensures.turn in
    let took = c.leave.ensures.left (shown c.args.self.now.pass) y.0 y.0 y.1 in
    let h = watches_on _ _ c.in-Ok.ensures.same.1 c.args.self.now _ c.leave.ensures.pass took.still.running c.requires.watcher in
    search rules

pub returns-in-Ok-clause-names : goal.returns-in-Ok-clause-names
returns-in-Ok-clause-names c =
    let y = c.in-Ok.ensures.turn in
    let took = c.leave.ensures.left (shown c.args.self.now.pass) y.0 y.0 y.1 in
    let h = took.still.kept.names in
    search rules
