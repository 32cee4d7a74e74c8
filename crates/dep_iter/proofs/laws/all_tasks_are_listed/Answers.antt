use Rattle.dep_iter.proofs.Listing.{length-tasks_from, listed}
use Rattle.dep_iter.proofs.laws.all_tasks_are_listed.Goals as goal

pub returns : goal.returns
returns c = record { members = listed; count = λ P. length-tasks_from 0 P.spaces }
