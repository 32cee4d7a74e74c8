use Rattle.std.proofs.Common.{sym, subst}
use Rattle.ptg_base.specs.Lists.{IsIn}
use Rattle.range_space.specs.Tasks.{params_of, tasks, all_locals}
use Rattle.list_lemmas.proofs.Members.{IsIn-map, from_map}
use Rattle.range_space.proofs.Distinct.{one_locals}
use Rattle.range_space.proofs.laws.a_task_has_one_list_of_locals.Goals as goal

pub returns-clause-some : goal.returns-clause-some
returns-clause-some c = λ s params t.
    let m = from_map (params_of s.params) (all_locals s) params t in
    (m.0, record { full = m.1; same_params = sym m.2 })

pub returns-clause-task : goal.returns-clause-task
returns-clause-task c = λ s params locals w.
    subst (λ ps. IsIn ps (tasks s)) w.same_params (IsIn-map (params_of s.params) (all_locals s) locals w.full)

pub returns-clause-one : goal.returns-clause-one
returns-clause-one c = λ s params locals others well w u. one_locals s well params locals others w u
