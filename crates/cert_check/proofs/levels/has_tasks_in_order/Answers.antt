use Rattle.std.proofs.Common.{◌≡◌, ◌↔◌, length, subst, IsTrue, arith}
use Rattle.std.specs.Map.{keys_of}
use Rattle.plan_core.specs.declared.plan.Plan.{Plan}
use Rattle.dep_iter.specs.Tasks.{all_tasks}
use Rattle.cert_check.specs.Checking.{AreInPlace}
use Rattle.cert_check.proofs.Places.{has_order, wrong_length}
use Rattle.cert_check.proofs.levels.has_tasks_in_order.Goals as goal

pub returns-then-rows-tasks : goal.returns-then-rows-tasks
returns-then-rows-tasks c = wrong_length c.args.m.now c.args.rows.now (λ e. absurd (omega (arith, e)))

pub returns : goal.returns
returns c =
    let placed = subst (λ (p : Plan). IsTrue c.are_in_place.result ↔ AreInPlace p (keys_of c.args.rows.now)) c.plan.ensures.same c.are_in_place.ensures in
    let many : length c.args.rows.now ≡ length (all_tasks c.args.m.now) = omega arith in
    has_order c.args.m.now c.args.rows.now many c.are_in_place.result placed
