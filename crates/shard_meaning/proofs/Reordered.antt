-- In whatever order tasks were claimed and items sent, shards hold the same, and the moment is as sound, finished and
-- calm.
use Rattle.std.proofs.Common.{◌≡◌, ℕ, length, ap, sym, ◌∙◌, arith, nat_lt, inl, inr, ◌||◌, ◌==◌}
use Rattle.ptg_base.specs.Task.{Task}
use Rattle.ptg_base.specs.TaskComparing.{same_task}
use Rattle.ptg_base.specs.declared.edge.Item.{Item}
use Rattle.plan_core.specs.declared.plan.Plan.{Plan}
use Rattle.coll_data.specs.Data.{Data}
use Rattle.dep_iter.specs.Consistent.{IsConsistent}
use Rattle.std.proofs.lemmas.List.{nil_from_length}
use Rattle.list_lemmas.proofs.Counts.{weigh-one}
use Rattle.dep_shard.specs.Content.{Content}
use Rattle.flow_meaning.specs.Comparing.{same_item}
use Rattle.list_lemmas.specs.Counting.{as_number}
use Rattle.flow_meaning.specs.Machine.{Claim, SentItem, claim_count, is_sent}
use Rattle.flow_meaning.proofs.CallerLemmas.{back, claim_in, possible_there, reordered_sound, table_same}
use Rattle.shard_meaning.specs.Calm.{AreFinished, IsCalm}
use Rattle.shard_meaning.specs.Moment.{IsReorderedMoment, IsSoundMoment, Moment, run_count}
use Rattle.shard_meaning.specs.Reserve.{HasReserve}
use Rattle.shard_meaning.specs.Share.{IsShardOf, Placement, is_of, trap_weight, write_weight}
use Rattle.shard_meaning.proofs.Due.{IsDueBefore}
use Rattle.shard_meaning.proofs.Reserving.{reserve-away}

module _ (P : Plan) (R T : Moment) (same : IsReorderedMoment R T) where
  claims : (t : Task) → claim_count T.state t ≡ claim_count R.state t
  claims t = sym (same.state.claims (λ u. as_number (same_task t u)))

  runs : (t : Task) → run_count T t ≡ run_count R t
  runs t = sym (same.running (λ u. as_number (same_task t u)))

  sent : (i : Item) → is_sent T.state i ≡ is_sent R.state i
  sent i = sym (ap (nat_lt 0) (same.state.sends (λ (x : SentItem). as_number (same_item i x.item))))

  as_due : IsDueBefore R T
  as_due = record {
    unclaimed = λ t e. sym (ap (λ n. n == 0) (claims t)) ∙ e;
    sent = λ i e. sent i ∙ e;
    to_end = λ t e. (λ k. (sym (claims t) k == 0) || nat_lt 0 (sym (runs t) k)) ∙ e;
  }

  pub reordered_reserve : (of : Placement) (k : ℕ) (y : Content) → HasReserve P of k R y → HasReserve P of k T y
  reordered_reserve of k y h = reserve-away P of k R T as_due y h

  pub reordered_finished : (G : Data) → AreFinished P G R → AreFinished P G T
  reordered_finished G finished t claimed still = elim (finished t
      (claim_in T.state R.state (back R.state T.state same.state) t claimed) (sym (runs t) ∙ still)) [
        | inl trap ↦ inl trap
        | inr all ↦ inr (λ i among. sent i ∙ all i among)
      ]

  module _ (G : Data) (sound : IsSoundMoment P G R) where
    pub reordered_moment : IsSoundMoment P G T
    reordered_moment = record {
      state = reordered_sound R.state T.state same.state P G sound.state;
      claimed = λ t. omega
          (arith, sound.claimed t, claims t, runs t);
    }

    module _ (con : IsConsistent P) where
      pub reordered_share : (of : Placement) (k : ℕ) (y : Content) → IsShardOf P G of k R y → IsShardOf P G of k T y
      reordered_share of k y h = record {
        there = λ t job at. h.there t job at ∙ table_same P G con R.state T.state sound.state same.state t;
        only = h.only;
        written = λ f. h.written f ∙ same.state.sends (write_weight of k f);
        trapped = λ f. omega (arith, h.trapped f, same.running (trap_weight P G of k f), same.state.claims (trap_weight P G of k f));
        running = h.running ∙ same.running (λ u. as_number (is_of of k u));
        ended = h.ended ∙ same.state.claims (λ u. as_number (is_of of k u));
        elems = h.elems;
      }

      pub reordered_calm : IsCalm P R → IsCalm P T
      reordered_calm calm = record {
        none_ready = λ t may. calm.none_ready t (possible_there P G con T.state R.state reordered_moment.state (back R.state T.state same.state) (Claim t) may);
        none_runs = nil_from_length T.running (omega (arith, same.running (λ t. 1), weigh-one T.running, ap length calm.none_runs, weigh-one R.running));
      }
