-- A pass with all names is the only one that has done anything.
use Rattle.std.proofs.Common.{◌≡◌, ℕ, ◌<◌, ◌≢◌, [], ◌∷◌, get_or, ap, ◌∙◌, arith, eqb}
use mathlib.Core.Option.{some}
use lib.ListN.{get_elem?}
use Rattle.ptg_base.specs.Lists.{IsIn}
use Rattle.list_lemmas.specs.Counting.{HasSameMembers, as_number, weigh}
use Rattle.flow_meaning.specs.Machine.{sender}
use Rattle.list_lemmas.proofs.Counts.{weigh-one, same_in, HasSameMembers-sym}
use Rattle.shard_meaning.specs.Moment.{IsReorderedMoment}
use Rattle.work_board.specs.declared.record.PassRecord.{PassRecord}
use Rattle.table_rule.specs.declared.table_job.TableJob.{TableJob}
use Rattle.table_rule.specs.Live.{AreStamps}
use Rattle.table_rule.specs.Names.{AreAll}
use Rattle.table_rule.specs.Owning.{IsEmpty}
use Rattle.table_rule.specs.Records.{moment_of}
use Rattle.table_rule.specs.Rule.{Parts, Rule, Table}
use Rattle.table_rule.specs.Turns.{holds}
use Rattle.table_rule.specs.Words.{stamp_word, turn_word}
use Rattle.table_rule.proofs.Living.{same_stamp, same_stamp-decides}
use Rattle.table_rule.proofs.Naming.{nameless}
use Rattle.table_rule.proofs.SameMembers.{reordered_parts}
use Rattle.table_rule.proofs.Turning.{turns_in}
use Rattle.table_rule.proofs.Weighing.{weigh_alone}
use Rattle.work_board.specs.Stamps.{StampedTask}

module _ (j : TableJob) (s : Table) (id : ℕ) (v : PassRecord) (rule : Rule j s) (me : get_elem? s.views id ≡ some v) (all : AreAll (v ∷ [])) where
  others_empty : (i : ℕ) (u : PassRecord) → i ≢ id → get_elem? s.views i ≡ some u → IsEmpty u
  others_empty i u ne e = (rule.1.owned.each i u e).nameless (nameless s.views id v rule.1.owned.names me all i u ne e)

  its_members : IsReorderedMoment rule.0 (moment_of v)
  its_members = let r = rule.1.records in record {
    state = record {
      claims = λ f. r.claims f ∙ weigh_alone (λ (u : PassRecord). weigh f u.claims) s.views id v me (λ i u ne e. ap (weigh f) (others_empty i u ne e).claims);
      sends = λ f. r.sends f ∙ weigh_alone (λ (u : PassRecord). weigh f u.sends) s.views id v me (λ i u ne e. ap (weigh f) (others_empty i u ne e).sends);
    };
    running = λ f. r.running f ∙ weigh_alone (λ (u : PassRecord). weigh f u.running) s.views id v me (λ i u ne e. ap (weigh f) (others_empty i u ne e).running);
  }

  -- the rule holds at what it did
  pub alone_parts : Parts j s (moment_of v)
  alone_parts = reordered_parts j s rule.0 (moment_of v) rule.1 its_members

  -- if it holds no turn, each turn is free
  pub alone_free : v.turns ≡ [] → (k : ℕ) → k < j.shards → get_or s.words (turn_word k) 0 ≡ 0
  alone_free none_held k near = omega (
    arith,
    rule.1.turns.counted k (omega (arith, rule.1.slots)),
    weigh_alone
        (holds k) s.views id v me (λ i u ne e. ap (turns_in k) (others_empty i u ne e).turns),
    ap (turns_in k) none_held,
  )

  -- the stamps are its own
  same_stamps : HasSameMembers alone_parts.live.stamps v.stamps
  same_stamps f = alone_parts.live.theirs f ∙ weigh_alone (λ (u : PassRecord). weigh f u.stamps) s.views id v me
      (λ i u ne e. ap (weigh f) (others_empty i u ne e).stamps)

  among : (x : StampedTask) → IsIn x v.stamps → IsIn x alone_parts.live.stamps
  among x i = same_in same_stamp same_stamp-decides v.stamps alone_parts.live.stamps (HasSameMembers-sym alone_parts.live.stamps v.stamps same_stamps) x i

  pub alone_stamps : AreStamps j.matched (moment_of v) v.stamps (get_or s.words (stamp_word j.shards) 0)
  alone_stamps = let d = alone_parts.live.drawn in let parts = alone_parts in record {
    drawn = omega (arith, d.drawn, same_stamps (λ _. 1), weigh-one v.stamps, weigh-one alone_parts.live.stamps);
    differ = λ x. omega (arith, d.differ x, same_stamps (λ (y : StampedTask). as_number (eqb y.1 x)));
    below = λ t x i. d.below t x (among (t, x) i);
    above_sources = λ e a b edge i k. d.above_sources e a b edge (among (e.from, a) i) (among (e.to, b) k);
    senders = λ x i. let o = parts.live.drawn.senders x i in (
      o.0,
      same_in same_stamp same_stamp-decides alone_parts.live.stamps v.stamps same_stamps (sender x.item, o.0)
          o.1,
    );
  }
