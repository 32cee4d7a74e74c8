use Rattle.std.proofs.Common.{◌<◌, ◌≤◌, IfNone, sym, ◌∙◌, subst}
use Rattle.ptg_base.specs.Task.{Task}
use Rattle.flow_meaning.specs.Machine.{MayClaim}
use Rattle.rank_core.specs.World.{rank_of}
use Rattle.rank_core.proofs.Turns.{none_ready}
use Rattle.rank_core.proofs.driving.ready_from.Goals as goal

pub returns-clause-none : goal.returns-clause-none
returns-clause-none c =
    let w = c.args.world.now in
    let upper = subst (λ n. IfNone c.ready_among-task.result
    ((t : Task) → c.args.first ≤ rank_of c.args.world.now.plan c.args.world.now.ranks t
    → rank_of c.args.world.now.plan c.args.world.now.ranks t < n
    → MayClaim c.args.world.now.plan c.args.world.now.state.machine t → ⊥)) c.ranks-ranks.ensures.number
    c.ready_among-task.ensures.none in
    none_ready c.args.world.now c.ready_among-task.new.world c.args.first c.ready_among-task.result c.ready_among.result
    c.ready_among-task.ensures.same c.requires (sym c.is_some.ensures ∙ c.if-is_some.false) upper
    c.ready_among.ensures.none
