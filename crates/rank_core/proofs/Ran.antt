-- What a run keeps of a world.
use Rattle.std.proofs.Common.{◌≡◌, ◌≢◌, ℕ, List, length, refl, ap, sym, ◌∙◌, subst, inl, inr, Option, Some, None, Ok}
use Rattle.std.proofs.Common.{Err, slice_get, arith, is_some, true}
use Rattle.std.proofs.lemmas.Bool.{cases_eq, false≢true}
use Rattle.dep_shard.specs.Content.{Content}
use Rattle.flow_meaning.specs.Backward.{ended}
use Rattle.flow_meaning.specs.Ending.{Ended, has_outputs}
use Rattle.flow_meaning.proofs.CallerLemmas.{it_ends}
use Rattle.shard_meaning.specs.Share.{IsShardOf}
use Rattle.task_run.specs.Bench.{IsBenchOf, Laid}
use Rattle.rank_core.specs.Sound.{IsSoundWorld}
use Rattle.rank_core.specs.World.{Run, WorldState, rank_of}
use Rattle.rank_core.proofs.Happening.{fed}
use Rattle.rank_core.proofs.Worlds.{event_sound}
use Rattle.rank_core.specs.declared.mail.Mail.{Mail}
use Rattle.rank_core.specs.declared.running_task.RunningTask.{RunningTask}
use Rattle.rank_core.specs.Keeping.{IsMailOf, Keeps, idle_moment}
use Rattle.rank_core.specs.RunningTasks.{HoldsAt, IsRunningTask, after, before, data_of, plan_of, task_of}
use Rattle.rank_core.proofs.Parts.{run_away, trap_away}

module _ (v : RunningTask) (h : IsRunningTask v) where
  ends : is_some (ended (plan_of v) (data_of v) (task_of v)) ≡ true
  ends = it_ends (plan_of v) (data_of v) h.consistent (before v).machine h.sound.state (task_of v)
      (fed (plan_of v) (data_of v) h.consistent v.ranks (before v) h.sound (task_of v) h.may)

  -- another rank stays as it is, however the task ends
  stays_by : (j : ℕ) (y : Content) → v.rank ≢ j → (end : Option Ended) → ended (plan_of v) (data_of v) (task_of v) ≡ end
      → is_some end ≡ true
      → IsShardOf (plan_of v) (data_of v) (rank_of (plan_of v) v.ranks) j (idle_moment (before v).machine) y
      → IsShardOf (plan_of v) (data_of v) (rank_of (plan_of v) v.ranks) j (idle_moment (after v).machine) y
  stays_by j y other None is some share = absurd (false≢true some)
  stays_by j y other (Some (Ok tiles)) is some share = run_away v h (ap has_outputs is) j y other share
  stays_by j y other (Some (Err cause)) is some share = trap_away v h cause is j y other share

  other_rank : (j : ℕ) (y : Content) → v.rank ≢ j → IsShardOf (plan_of v) (data_of v) (rank_of (plan_of v) v.ranks) j
      (idle_moment (before v).machine) y → IsShardOf (plan_of v) (data_of v) (rank_of (plan_of v) v.ranks) j
      (idle_moment (after v).machine) y
  other_rank j y other share = stays_by j y other (ended (plan_of v) (data_of v) (task_of v)) refl ends share

  module _ (old : List Content) (same : v.ranks ≡ length old) (laid : Laid) (mail : Mail)
      (k : Keeps (plan_of v) (data_of v) (before v) old laid mail) where
    module _ (new : List Content) (count : length new ≡ length old)
        (others : (i : ℕ) → i ≢ v.rank → slice_get new i ≡ slice_get old i) (bench : Laid)
        (laid_is : IsBenchOf (plan_of v) bench) (letters : Mail) where
      pub ran : (w : WorldState) → w ≡ after v → ((z : Content) → slice_get new v.rank ≡ Some z
          → HoldsAt v (idle_moment (after v).machine) z) → IsMailOf (after v) letters
          → Keeps (plan_of v) (data_of v) w new bench letters
      ran w is holds mail_is = subst (λ u. Keeps (plan_of v) (data_of v) u new bench letters) (sym is) (record {
        consistent = k.consistent;
        fit = k.fit;
        some_ranks = omega (arith, count, k.some_ranks);
        ranks_at_most = omega (arith, count, k.ranks_at_most);
        sound = subst (λ r. IsSoundWorld (plan_of v) (data_of v) r (after v)) (same ∙ sym count)
            (event_sound (plan_of v) (data_of v) h.consistent v.ranks (before v) h.sound (Run (task_of v)) h.may);
        shares = λ j z at. subst (λ r. IsShardOf (plan_of v) (data_of v) (rank_of (plan_of v) r) j
            (idle_moment (after v).machine) z) (same ∙ sym count) (share j z at);
        bench = laid_is;
        mail = mail_is;
      })
        where
          share : (j : ℕ) (z : Content) → slice_get new j ≡ Some z
              → IsShardOf (plan_of v) (data_of v) (rank_of (plan_of v) v.ranks) j (idle_moment (after v).machine) z
          share j z at = elim (cases_eq j v.rank) [
            | inl here ↦ subst (λ i. IsShardOf (plan_of v) (data_of v) (rank_of (plan_of v) v.ranks) i
                (idle_moment (after v).machine) z) (sym here) (holds z (ap (slice_get new) (sym here) ∙ at))
            | inr other ↦
                other_rank j z (λ e. other (sym e))
                (subst (λ r. IsShardOf (plan_of v) (data_of v) (rank_of (plan_of v) r) j
                (idle_moment (before v).machine) z) (sym same) (k.shares j z (sym (others j other) ∙ at)))
          ]

      -- if memory is refused, the world is as it was
      pub refused : ((z : Content) → slice_get new v.rank ≡ Some z → HoldsAt v (idle_moment (before v).machine) z)
          → IsMailOf (before v) letters → Keeps (plan_of v) (data_of v) (before v) new bench letters
      refused holds mail_is = record {
        consistent = k.consistent;
        fit = k.fit;
        some_ranks = omega (arith, count, k.some_ranks);
        ranks_at_most = omega (arith, count, k.ranks_at_most);
        sound = subst (λ r. IsSoundWorld (plan_of v) (data_of v) r (before v)) (same ∙ sym count) h.sound;
        shares = λ j z at. subst (λ r. IsShardOf (plan_of v) (data_of v) (rank_of (plan_of v) r) j
            (idle_moment (before v).machine) z) (sym count) (share j z at);
        bench = laid_is;
        mail = mail_is;
      }
        where
          share : (j : ℕ) (z : Content) → slice_get new j ≡ Some z
              → IsShardOf (plan_of v) (data_of v) (rank_of (plan_of v) (length old)) j (idle_moment (before v).machine)
              z
          share j z at = elim (cases_eq j v.rank) [
            | inl here ↦
                subst (λ r. IsShardOf (plan_of v) (data_of v) (rank_of (plan_of v) r) j (idle_moment (before v).machine)
                z) same
                (subst (λ i. IsShardOf (plan_of v) (data_of v) (rank_of (plan_of v) v.ranks) i
                (idle_moment (before v).machine) z) (sym here) (holds z (ap (slice_get new) (sym here) ∙ at)))
            | inr other ↦ k.shares j z (sym (others j other) ∙ at)
          ]
