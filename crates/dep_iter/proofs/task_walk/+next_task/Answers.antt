use Rattle.std.proofs.Common.{map, add-one, arith, ◌≡◌, []}
use Rattle.range_space.specs.Tasks.{tasks}
use Rattle.list_lemmas.proofs.Places.{slice_get_there, drop_from}
use Rattle.dep_iter.specs.Tasks.{task}
use Rattle.dep_iter.proofs.task_walk.+next_task.Goals as goal

pub returns : goal.returns
returns t c =
    let P = c.args.plan.now in
    let n = P.well_made.one_space_each in
    let found = slice_get_there P.spaces c.args.later.now (omega arith) in
    let here : c.of.result ≡ map (task c.args.later.now) (tasks found.0) = c.of.ensures found.0 found.1 in
    let more = rw (add-one, here) at c.next_task.ensures in
    let none : c.args.at_hand.now ≡ [] = c.in_default.ensures.0 in
    rw (none, drop_from P.spaces c.args.later.now found.0 found.1) more
