-- A moment without a ready task and without a running one is calm.
use Rattle.std.proofs.Common.{◌≡◌, ◌==◌, [], length, arith, eq-eqb}
use Rattle.std.proofs.lemmas.Bool.{and_from}
use Rattle.list_lemmas.proofs.Counts.{count-some}
use Rattle.plan_core.specs.declared.plan.Plan.{Plan}
use Rattle.dep_iter.specs.Edges.{goal}
use Rattle.dep_iter.specs.Tasks.{all_tasks}
use Rattle.dep_iter.proofs.CallerLemmas.{listed}
use Rattle.list_lemmas.specs.Counting.{count}
use Rattle.flow_meaning.specs.Machine.{arrived, claim_count}
use Rattle.flow_meaning.specs.Table.{is_ready, is_unclaimed, ready_tasks}
use Rattle.shard_meaning.specs.Calm.{IsCalm}
use Rattle.shard_meaning.specs.Moment.{Moment}
use Rattle.shard_meaning.proofs.CallerLemmas.{ready_count}

-- if no task is ready and none runs, the moment is calm
pub calm_by_count : (P : Plan) (R : Moment) → length (ready_tasks P R.state) ≡ 0 → R.running ≡ [] → IsCalm P R
calm_by_count P R none idle = record {
  none_ready = λ t may. absurd (omega (
    arith,
    none,
    ready_count P R.state,
    count-some (is_ready P R.state) (all_tasks P)
        t ((listed P t).0 may.task) (and_from (is_unclaimed R.state t) (arrived P R.state t == goal P t)
        (eq-eqb (claim_count R.state t) 0 may.unclaimed) (eq-eqb (arrived P R.state t) (goal P t) may.all_arrived)),
  ));
  none_runs = idle;
}
