use Rattle.std.proofs.Common.{◌<◌, IfOk, IsTrue, sym, subst}
use Rattle.flow_meaning.specs.Machine.{MayClaim}
use Rattle.rank_core.specs.Driving.{IsLaterWorld, turns_left}
use Rattle.rank_core.specs.Views.{WorldView}
use Rattle.rank_core.proofs.Turns.{ran_later, ran_less}
use Rattle.rank_core.proofs.driving.run_some.Goals as goal

pub returns-in-Some-clause-events : goal.returns-in-Some-clause-events
returns-in-Some-clause-events c =
    let may = subst (λ (w : WorldView). MayClaim w.plan w.state.machine c.in-Some.t) (sym c.in-Some.ensures.same)
    c.in-Some.ensures.some in
    subst (λ w. IsLaterWorld w c.run.new.self) c.in-Some.ensures.same
    (ran_later c.ready_from.new.world c.run.new.self c.in-Some.t may c.run.result c.run.ensures.exact
    c.run.ensures.state c.run.ensures.err)

pub returns-in-Some-clause-fewer : goal.returns-in-Some-clause-fewer
returns-in-Some-clause-fewer c =
    let may = subst (λ (w : WorldView). MayClaim w.plan w.state.machine c.in-Some.t) (sym c.in-Some.ensures.same)
    c.in-Some.ensures.some in
    subst (λ w. IfOk c.run.result (λ ran. IsTrue ran → turns_left c.run.new.self < turns_left w)) c.in-Some.ensures.same
    (ran_less c.ready_from.new.world c.run.new.self c.in-Some.t may c.run.ensures.sound c.run.result
    c.run.ensures.state)
