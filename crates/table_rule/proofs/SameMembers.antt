-- The rule depends on no order: it holds at each moment with the same members, and so at that of all passes, joined.
use Rattle.std.proofs.Common.{◌≡◌, ℕ, ◌==◌, ◌&&◌, nat_lt, List, length, sym, ap, ◌∙◌, arith}
use Rattle.ptg_base.specs.Task.{Task}
use Rattle.ptg_base.specs.TaskComparing.{same_task}
use Rattle.ptg_base.specs.declared.edge.Edge.{Edge}
use Rattle.ptg_base.specs.declared.edge.Item.TheVariants as item
use Rattle.plan_core.specs.declared.plan.Plan.{Plan}
use Rattle.dep_iter.specs.Edges.{goal, in_edges}
use Rattle.dep_iter.specs.Tasks.{all_tasks}
use Rattle.dep_shard.specs.Content.{Content}
use Rattle.flow_meaning.specs.Comparing.{same_item}
use Rattle.list_lemmas.specs.Counting.{as_number}
use Rattle.flow_meaning.specs.Machine.{MachineState, SentItem, arrived, is_sent, same_sent_item}
use Rattle.flow_meaning.specs.Sound.{IsReordered}
use Rattle.flow_meaning.specs.Table.{is_ready, ready_tasks}
use Rattle.list_lemmas.proofs.Counts.{weigh-one, same_in, HasSameMembers-sym, weigh-flat_map}
use Rattle.flow_meaning.proofs.CallerLemmas.{same_sent_item-decides}
use Rattle.shard_meaning.specs.Moment.{IsReorderedMoment, Moment}
use Rattle.shard_meaning.proofs.CallerLemmas.{ready_count, reordered_calm, reordered_finished, reordered_moment, reordered_reserve, reordered_share}
use Rattle.work_board.specs.declared.record.PassRecord.{PassRecord}
use Rattle.table_rule.specs.declared.table_job.TableJob.{TableJob}
use Rattle.table_rule.specs.Live.{AreLive}
use Rattle.shard_meaning.specs.Placing.{shard_of}
use Rattle.table_rule.specs.Records.{AreRecordsOf, joined}
use Rattle.table_rule.specs.Rule.{Parts, Reserve, Rule, Share, Table}
use Rattle.table_rule.proofs.Ending.{sound_moment}
use Rattle.table_rule.proofs.Weighing.{weigh-same}

-- as many tasks are ready
ready_same : (P : Plan) (S T : MachineState) → IsReordered S T → length (ready_tasks P T) ≡ length (ready_tasks P S)
ready_same P S T same = omega (
  arith,
  ready_count P T,
  ready_count P S,
  weigh-same (λ t. as_number (is_ready P T t))
      (λ t. as_number (is_ready P S t)) (all_tasks P) (λ t. ap as_number (still t)),
)
  where
    sent : (e : Edge) → is_sent T (item.Edge e) ≡ is_sent S (item.Edge e)
    sent e = ap (nat_lt 0) (sym (same.sends (λ (x : SentItem). as_number (same_item (item.Edge e) x.item))))

    came : (t : Task) → arrived P T t ≡ arrived P S t
    came t = weigh-same (λ e. as_number (is_sent T (item.Edge e))) (λ e. as_number (is_sent S (item.Edge e))) (in_edges P t) (λ e. ap as_number (sent e))

    still : (t : Task) → is_ready P T t ≡ is_ready P S t
    still t = λ k. (sym (same.claims (λ u. as_number (same_task t u))) k == 0) && (came t k == goal P t)

module _ (j : TableJob) (s : Table) (R T : Moment) (r : Parts j s R) (same : IsReorderedMoment R T) where
  live_same : (live stamp : ℕ) → AreLive j.matched R live stamp s.views → AreLive j.matched T live stamp s.views
  live_same live stamp l = record {
    live = omega (arith, l.live, ready_same j.matched R.state T.state same.state, same.running (λ _. 1), weigh-one R.running, weigh-one T.running);
    each = l.each;
    stamps = l.stamps;
    theirs = l.theirs;
    drawn = record {
      drawn = l.drawn.drawn;
      differ = l.drawn.differ;
      below = l.drawn.below;
      above_sources = l.drawn.above_sources;
      senders = λ x i. l.drawn.senders x (same_in same_sent_item same_sent_item-decides T.state.sends R.state.sends
          (HasSameMembers-sym R.state.sends T.state.sends same.state.sends) x i);
    };
  }

  pub reordered_parts : Parts j s T
  reordered_parts =
      let sound = sound_moment j s R r in
      let share : (k : ℕ) (y : Content) → Share j R k y → Share j T k y = λ k y h. reordered_share j.matched R T same
      j.given sound r.consistent (shard_of j.matched j.shards) k y h in
      let spare : (k : ℕ) (y : Content) → Reserve j R k y → Reserve j T k y = λ k y h. reordered_reserve j.matched R T
      same (shard_of j.matched j.shards) k y h in
      record {
        consistent = r.consistent;
        some_shards = r.some_shards;
        shards_at_most = r.shards_at_most;
        slots = r.slots;
        words = r.words;
        records = record {
          claims = λ f. sym (same.state.claims f) ∙ r.records.claims f;
          sends = λ f. sym (same.state.sends f) ∙ r.records.sends f;
          running = λ f. sym (same.running f) ∙ r.records.running f;
        };
        sound = (reordered_moment j.matched R T same j.given sound).state;
        owned = r.owned;
        handed = r.handed;
        finished = reordered_finished j.matched R T same j.given r.finished;
        in_slots = λ k l z. let h = r.in_slots k l z in (h.0, h.1, share k h.0 h.2);
        turns = r.turns;
        held = λ i v e k y h. share k y (r.held i v e k y h);
        quieted = record {
          calm = λ i v e q. reordered_calm j.matched R T same j.given sound r.consistent
              (r.quieted.calm i v e q);
          low = r.quieted.low;
          high = r.quieted.high;
        };
        live = live_same _ _ r.live;
        reserved = λ pre. let old = r.reserved pre in record {
          halt = old.halt;
          in_slots = λ k l z. let h = old.in_slots k l z in (h.0, h.1, spare k h.0 h.2);
          held = λ i v e k y h. spare k y (old.held i v e k y h);
        };
      }

-- a moment has the members of all records, joined
joined_members : (R : Moment) (vs : List PassRecord) → AreRecordsOf R vs → IsReorderedMoment R (joined vs)
joined_members R vs r = record {
  state = record {
    claims = λ f. r.claims f ∙ sym (weigh-flat_map f (λ (v : PassRecord). v.claims) vs);
    sends = λ f. r.sends f ∙ sym (weigh-flat_map f (λ (v : PassRecord). v.sends) vs);
  };
  running = λ f. r.running f ∙ sym (weigh-flat_map f (λ (v : PassRecord). v.running) vs);
}

-- the rule holds at the moment of all passes, joined
pub joined_parts : (j : TableJob) (s : Table) → Rule j s → Parts j s (joined s.views)
joined_parts j s rule = reordered_parts j s rule.0 (joined s.views) rule.1 (joined_members rule.0 s.views rule.1.records)
