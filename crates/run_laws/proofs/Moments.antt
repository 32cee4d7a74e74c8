-- Each event leads from a sound moment to a sound moment.
use Rattle.std.proofs.Common.{◌≡◌, ◌<◌, ◌≤◌, false, ap, sym, subst, arith}
use Rattle.ptg_base.specs.Task.{Task}
use Rattle.ptg_base.specs.TaskComparing.{same_task}
use Rattle.ptg_base.specs.TaskLaws.{same_task-decides}
use Rattle.ptg_base.specs.declared.edge.Item.{Item}
use Rattle.list_lemmas.proofs.Truth.{by_test}
use Rattle.list_lemmas.proofs.Counts.{weigh-push}
use Rattle.plan_core.specs.declared.plan.Plan.{Plan}
use Rattle.coll_data.specs.Data.{Data}
use Rattle.dep_iter.specs.Consistent.{IsConsistent}
use Rattle.list_lemmas.specs.Counting.{as_number}
use Rattle.flow_meaning.specs.Machine.{MayClaim, MaySend, claim_count}
use Rattle.flow_meaning.proofs.CallerLemmas.{claim_sound, opening_sound, send_sound}
use Rattle.shard_meaning.specs.Moment.{IsSoundMoment, Moment, opening_moment, run_count, with_claim, with_end, with_send}
use Rattle.shard_meaning.proofs.CallerLemmas.{runs_as_before, runs_once_less}

pub opening_moment_sound : (P : Plan) (G : Data) → IsSoundMoment P G opening_moment
opening_moment_sound P G = record { state = opening_sound P G; claimed = λ t. omega arith }

-- the end of a task is no event of the machine; the task then runs once less
pub end_moment : (P : Plan) (G : Data) (R : Moment) → IsSoundMoment P G R → (t : Task) → 0 < run_count R t → IsSoundMoment P G (with_end R t)
end_moment P G R sound t runs = record {
  state = sound.state;
  claimed = λ u. by_test (same_task u t)
      (λ k. subst (λ v. run_count (with_end R t) v ≤ claim_count R.state v) (sym ((same_task-decides u t).0 k))
      (omega (arith, sound.claimed t, runs_once_less R t runs)))
      (λ k. omega (arith, sound.claimed u, runs_as_before R t u runs (λ e. differ u e k)));
}
  where
    differ : (u : Task) → u ≡ t → same_task u t ≡ false → ⊥
    differ u e k = absurd (omega (arith, ap as_number k, ap as_number ((same_task-decides u t).1 e)))

module _ (P : Plan) (G : Data) (con : IsConsistent P) (R : Moment) (sound : IsSoundMoment P G R) where
  pub claim_moment : (t : Task) → MayClaim P R.state t → IsSoundMoment P G (with_claim R t)
  claim_moment t may = record {
    state = claim_sound P G con R.state sound.state t may;
    claimed = λ u. omega (
      arith,
      sound.claimed u,
      weigh-push (λ v. as_number (same_task u v)) R.state.claims t,
      weigh-push (λ v. as_number (same_task u v)) R.running t,
    );
  }

  pub send_moment : (i : Item) → MaySend P G R.state i → IsSoundMoment P G (with_send P G R i)
  send_moment i may = record { state = send_sound P G con R.state sound.state i may; claimed = sound.claimed }
