-- Calm moments: none of the shards has work. With all claimed tasks finished, such a moment is at rest.
use Rattle.std.proofs.Common.{◌≡◌, ℕ, ◌<◌, List, [], ◌∷◌, refl, ap, sym, ◌∙◌, subst, inl, inr, arith}
use Rattle.std.proofs.lemmas.Bool.{false≢true}
use Rattle.ptg_base.specs.Task.{Task}
use Rattle.ptg_base.specs.TaskComparing.{same_task}
use Rattle.ptg_base.specs.TaskLaws.{same_task-decides}
use Rattle.ptg_base.specs.declared.edge.Item.{Item}
use Rattle.list_lemmas.proofs.Members.{from_append}
use Rattle.list_lemmas.proofs.Truth.{by_test}
use Rattle.list_lemmas.proofs.Counts.{weigh-push}
use Rattle.plan_core.specs.declared.plan.Plan.{Plan}
use Rattle.coll_data.specs.Data.{Data}
use Rattle.dep_iter.specs.Consistent.{IsConsistent}
use Rattle.dep_shard.specs.Content.{Content}
use Rattle.list_lemmas.specs.Counting.{as_number, count}
use Rattle.flow_meaning.specs.Machine.{IsQuiescent, MayClaim, MaySend}
use Rattle.flow_meaning.specs.Sound.{IsAtRest, IsFinished, IsSoundState}
use Rattle.flow_meaning.proofs.CallerLemmas.{rests}
use Rattle.shard_meaning.specs.Calm.{AreFinished, HasNoWork, IsCalm}
use Rattle.shard_meaning.specs.Moment.{Moment, run_count, with_claim, with_end, with_send}
use Rattle.shard_meaning.specs.Share.{IsShardOf, Placement, is_of}
use Rattle.shard_meaning.proofs.Claims.{one_here}
use Rattle.shard_meaning.proofs.Due.{due-send, runs_as_before}
use Rattle.shard_meaning.proofs.Holding.{may_ready, ready_may}

-- if no shard has work, no task may be claimed and none runs
module _ (P : Plan) (G : Data) (of : Placement) (R : Moment) (n : ℕ) (within : (t : Task) → of t < n)
    (shards : ℕ → Content) (shares : (k : ℕ) → k < n → IsShardOf P G of k R (shards k))
    (idle : (k : ℕ) → k < n → HasNoWork (shards k)) where
  no_claim : (t : Task) → MayClaim P R.state t → ⊥
  no_claim t may =
      let k = of t in
      let p = may_ready P G of k R (shards k) (shares k (within t)) t refl may in
      (idle k (within t)).ready t _ p.0 p.1

  none_of : (ts : List Task) → ((k : ℕ) → k < n → count (is_of of k) ts ≡ 0) → ts ≡ []
  none_of [] h = refl
  none_of (t ∷ ts) h = absurd (omega (arith, h (of t) (within t), one_here of (of t) t refl))

  pub calm_by_shards : IsCalm P R
  calm_by_shards = record {
    none_ready = no_claim;
    none_runs = none_of R.running (λ k near. sym (shares k near).running ∙ (idle k near).running);
  }

-- and at a calm moment no shard has work
pub calm_shard : (P : Plan) (G : Data) (of : Placement) (k : ℕ) (R : Moment) (y : Content) → IsShardOf P G of k R y → IsCalm P R → HasNoWork y
calm_shard P G of k R y h calm = record {
  ready = λ t e is ready. calm.none_ready t (ready_may P G of k R y h t e is ready);
  running = h.running ∙ ap (count (is_of of k)) calm.none_runs;
}

-- a calm moment at which all claimed tasks are finished is at rest
pub calm_rests : (P : Plan) (G : Data) (R : Moment) → IsCalm P R → AreFinished P G R → IsAtRest P G R.state
calm_rests P G R calm finished = record {
  none_ready = calm.none_ready;
  all_finished = λ t claimed. finished t claimed
      (ap (count (same_task t)) calm.none_runs);
}

pub calm_quiescent : (P : Plan) (G : Data) → IsConsistent P → (R : Moment) → IsSoundState P G R.state → IsCalm P R → AreFinished P G R → IsQuiescent P G R.state
calm_quiescent P G con R sound calm finished = (rests P G con R.state sound).1 (calm_rests P G R calm finished)

-- a finished task is still finished after a send
still_finished : (P : Plan) (G : Data) (R : Moment) (i : Item) → MaySend P G R.state i → (t : Task)
    → IsFinished P G R.state t → IsFinished P G (with_send P G R i).state t
still_finished P G R i may t f = elim f [ inl trap ↦ inl trap | inr all ↦ inr (λ j among. (due-send P G R i may).sent j (all j among)) ]

module _ (P : Plan) (G : Data) (R : Moment) (finished : AreFinished P G R) where
  pub finished-claim : (t : Task) → AreFinished P G (with_claim R t)
  finished-claim t u claimed still =
      let sum = weigh-push (λ v. as_number (same_task u v)) R.running t in
      elim (from_append u R.state.claims (t ∷ []) claimed) [
        | inl before ↦ elim (finished u before (omega (arith, still, sum))) [ inl trap ↦ inl trap | inr all ↦ inr all ]
        | inr now ↦ elim now [
          | inl same ↦ absurd (omega (arith, still, sum, ap as_number ((same_task-decides u t).1 same)))
          | inr nothing ↦ absurd nothing
        ]
      ]

  pub finished-send : (i : Item) → MaySend P G R.state i → AreFinished P G (with_send P G R i)
  finished-send i may u claimed still = still_finished P G R i may u (finished u claimed still)

  -- a task that ends has trapped, or all its items were sent
  pub finished-end : (t : Task) → 0 < run_count R t → IsFinished P G R.state t → AreFinished P G (with_end R t)
  finished-end t runs done u claimed still =
      by_test (same_task u t)
      (λ k. subst (IsFinished P G R.state) (sym ((same_task-decides u t).0 k)) done)
      (λ k. finished u claimed (sym (runs_as_before R t u runs (λ e. false≢true (sym k ∙ (same_task-decides u t).1 e))) ∙ still))
