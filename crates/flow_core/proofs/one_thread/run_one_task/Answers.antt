use Rattle.std.proofs.Common.{◌∙◌, ap, sym}
use Rattle.flow_meaning.specs.Ending.{has_outputs}
use Rattle.flow_core.specs.OneThread.{ended_among}
use Rattle.flow_core.proofs.OneThread.{between_sent, between_trapped, has_ended, last_runs, last_task, let_go_between}
use Rattle.flow_core.proofs.one_thread.run_one_task.Goals as goal

pub finish-requires : goal.finish-requires
finish-requires c = record {
  running = last_runs c.args.m.now c.args.given.now c.args.runner.now.run c.requires.fits c.args.t.now c.args.runner.now.running.items c.requires.running;
  fits = c.requires.fits;
}

pub returns-then-is_some : goal.returns-then-is_some
returns-then-is_some c =
    let e = has_ended c.args.m.now c.args.given.now c.args.runner.now.run c.finish.new.self c.requires.fits c.args.t.now
    c.args.runner.now.running.items c.requires.running c.requires.none_ready c.requires.nothing_owed
    c.in_ok-finish.field-0 c.in_ok-finish.ensures.ok in
    record {
      between = between_trapped c.args.m.now c.args.given.now c.args.t.now c.args.runner.now.running.items
          c.args.runner.now.run c.finish.new.self c.in_ok-finish.field-0 e c.in_ok-finish.ensures.fits
          c.if-is_some.ensures;
      ended = e.ended;
      goals = c.requires.goals;
    }

pub send_items-requires : goal.send_items-requires
send_items-requires c =
    let e = has_ended c.args.m.now c.args.given.now c.args.runner.now.run c.finish.new.self c.requires.fits c.args.t.now
    c.args.runner.now.running.items c.requires.running c.requires.none_ready c.requires.nothing_owed
    c.in_ok-finish.field-0 c.in_ok-finish.ensures.ok in
    record {
      task = last_task c.args.m.now c.args.given.now c.args.runner.now.run c.requires.fits c.args.t.now c.args.runner.now.running.items c.requires.running;
      outputs = e.outputs (sym c.if-is_some.ensures);
      fits = (c.args.given.now, c.in_ok-finish.ensures.fits);
      running = e.running;
      goals = c.requires.goals;
    }

pub returns : goal.returns
returns c =
    let e = has_ended c.args.m.now c.args.given.now c.args.runner.now.run c.finish.new.self c.requires.fits c.args.t.now
    c.args.runner.now.running.items c.requires.running c.requires.none_ready c.requires.nothing_owed
    c.in_ok-finish.field-0 c.in_ok-finish.ensures.ok in
    let last = c.send_items.new.runner in
    let d = c.in_ok-send_items.ensures.done in
    let between = between_sent c.args.m.now c.args.given.now c.args.t.now c.args.runner.now.running.items
    c.args.runner.now.run c.finish.new.self c.in_ok-finish.field-0 e c.in_ok-finish.ensures.fits last.run
    last.running.items d c.in_ok-send_items.ensures.running in
    let outputs = ap has_outputs (d.ends c.args.t.now) ∙ e.outputs (sym c.if-is_some.ensures) in
    record {
      between = let_go_between c.args.m.now c.args.given.now c.plan_is_consistent.ensures c.args.t.now last.run
          c.let_go.new.self last.running.items between outputs c.let_go.ensures;
      ended = ap ended_among c.let_go.ensures.claims ∙ d.ended ∙ e.ended;
      goals = c.in_ok-send_items.ensures.goals;
    }
