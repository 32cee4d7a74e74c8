use Rattle.std.proofs.Common.{◌≡◌, slice_get, None, refl}
use Rattle.std.proofs.lemmas.Option.{slice_get_past}
use Rattle.dep_iter.specs.Edges.{data_source}
use Rattle.dep_iter.specs.Tasks.{flows_of}
use Rattle.dep_iter.proofs.task_at.TaskAt.data_source.Goals as goal

pub returns-in-Some : goal.returns-in-Some
unfolding data_source
returns-in-Some c =
    let at = c.args.self.now in
    rw c.in-Some.ensures.found.1 (rw at.are_locals at c.flow_source.ensures)

pub returns-in-None : goal.returns-in-None
unfolding data_source
returns-in-None c =
    let at = c.args.self.now in
    let none : slice_get (flows_of at.plan.now at.task.now) c.args.flow ≡ None =
    slice_get_past (flows_of at.plan.now at.task.now) c.args.flow c.in-None.ensures.found in
    rw none refl
