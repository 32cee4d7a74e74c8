-- A turn is given back without an event.
use Rattle.std.proofs.Common.{ℕ, List, [], sym, refl, ap, subst, inl, arith, None}
use mathlib.Core.Option.{none}
use Rattle.atomic_table.specs.Table.{Allows, gives, rest, step, stepped}
use Rattle.ptg_base.specs.Lists.{IsIn}
use Rattle.dep_shard.specs.Content.{Content, IsUnchanged, Uses}
use Rattle.shard_meaning.specs.Moment.{Moment}
use Rattle.shard_meaning.proofs.CallerLemmas.{reserve-unchanged, unchanged}
use Rattle.work_board.specs.declared.record.PassRecord.{PassRecord}
use Rattle.table_rule.specs.declared.table_job.TableJob.{TableJob}
use Rattle.table_rule.specs.Changes.{turn_left}
use Rattle.shard_meaning.specs.Placing.{shard_of}
use Rattle.table_rule.specs.Plays.{GivesBack, HasTurn, Seated}
use Rattle.table_rule.specs.Rule.{Rule}
use Rattle.table_rule.specs.Words.{turn_word}
use Rattle.table_rule.proofs.Looking.{live_same}
use Rattle.table_rule.proofs.Moving.{given_back}
use Rattle.table_rule.proofs.Naming.{named_not_empty}
use Rattle.table_rule.proofs.Passes.{same_records}
use Rattle.list_lemmas.proofs.Counts.{weigh-one}

-- the turn that a pass holds, in its record
pub holds_turn : (m : Seated) (k : ℕ) (y₀ y : Content) (credits : ℕ) → HasTurn m k y₀ y credits → IsIn (k, y₀) m.0.turns
holds_turn m k y₀ y credits h = subst (IsIn (k, y₀)) (sym h.turn) (inl refl)

-- the turn is given back, and of the shard at most spares have grown
pub leaves : (j : TableJob) (n id : ℕ) (m : Seated) (k : ℕ) (y₀ y : Content) → HasTurn m k y₀ y 0 → IsUnchanged y₀ y
    → Uses y₀.spare y.spare 0 None 0 0 → Allows (Rule j) n id m (turn_word k) (λ _. 0)
    (λ _. GivesBack (step n (turn_word k) 0 0 none) m 0)
leaves j n id m k y₀ y h same uses s rule wide me _ = let R : Moment = rule.0 in let r = rule.1 in let v : PassRecord =
    m.0 in let w : PassRecord = turn_left v in let o = r.owned.each id v me in let l = r.live.each id v me in
    let held = holds_turn m k y₀ y 0 h in (
      w,
      gives,
      tt,
      subst (λ (c : List (ℕ × Content)). Rule j (stepped s (turn_word k) 0 id c w gives)) (sym h.slot) (
        R,
        given_back j s id v w k y₀ y [] R R r me h.turn (ap rest h.turn) (record {
          records = same_records s.views id v w me R refl refl refl r.records;
          sound = r.sound;
          finished = r.finished;
          owns = record { running = o.running; sends = o.sends; nameless = λ e. absurd (named_not_empty v.names h.named e) };
          handed = let g = r.handed id v me in record { tasks = g.tasks; inputs = g.inputs };
          names = refl;
          halts = refl;
          here = unchanged j.matched j.given (shard_of j.matched j.shards) k R y₀ y same (r.held id v me k y₀ held);
          others = λ x z ne q. q;
          calms = λ c. c;
          sees = r.quieted.calm id v me;
          live = live_same j s id v R r me w refl refl (record {
            credit = omega (arith, h.credit, o.running (λ _. 1), weigh-one v.running, weigh-one v.claims);
            stamps = l.stamps;
            stamped = l.stamped;
          });
          spare_here = λ pre. reserve-unchanged j.matched (shard_of j.matched j.shards) k R y₀ y same.entries uses ((r.reserved pre).held id v me k y₀ held);
          spare_others = λ pre x z ne q. q;
        }),
      ),
      refl,
    )
