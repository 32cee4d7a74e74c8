-- A turn that a clean pass takes, and the pass after it gave the turn back.
use Rattle.std.proofs.Common.{◌≡◌, ◌<◌, [], ◌∷◌, ◌++◌, length, sym, ap, ◌∙◌, subst, refl, arith}
use Rattle.table_rule.specs.Seats.{rest}
use Rattle.dep_shard.specs.Content.{Content}
use Rattle.work_board.specs.Looks.{HasStamp}
use Rattle.work_board.specs.Records.{IsClean, OnlyTook}
use Rattle.work_board.specs.declared.record.PassRecord.{PassRecord}
use Rattle.table_rule.specs.Changes.{turn_left, with_turn}
use Rattle.table_rule.specs.GivingBack.{MayGiveBack}
use Rattle.table_rule.specs.Plays.{HasName, HasTurn, Seated, WasSeen}
use Rattle.dep_table.specs.declared.turn.Turn.{Turn}
use Rattle.dep_table.specs.Passes.{IsPassOf}
use Rattle.dep_table.specs.Tables.{id_of, job_of}
use Rattle.dep_table.specs.Turns.{IsTurn, IsTurnOf}
use Rattle.dep_table.specs.Views.{PassView, shown}

-- a turn has just been taken by the clean pass p, which is i
pub taken_turn : (t : Turn) (p i : PassView) (y : Content) → IsPassOf (id_of t.table.now) p → i ≡ p
    → t.pass.now.table ≡ i.table → t.pass.now.stamp ≡ i.stamp → t.shard < (job_of t.table.now).shards
    → t.pass.now.me ≡ (with_turn i.me.0 t.shard y, (t.shard, y) ∷ i.me.1) → WasSeen (job_of t.table.now) t.shard i.me.0 y → IsTurnOf t (shown p) y y
taken_turn t p i y h is of stamp within me seen = record {
  of = of ∙ (ap (λ (q : PassView). q.table) is ∙ h.of);
  within = within;
  me = me ∙ (λ k. (with_turn (is k).me.0 t.shard y, (t.shard, y) ∷ (is k).me.1)) ∙ (λ k. (with_turn (shown p) t.shard y, (t.shard, y) ∷ h.clean.no_shard k));
  same = record { entries = refl; written = refl; trapped = refl; running = refl; ended = refl; elems = refl };
  spares = record { entries = omega arith; tiles = λ d. omega arith; writes = omega arith; traps = omega arith };
  seen = subst (λ (q : PassView). WasSeen (job_of t.table.now) t.shard q.me.0 y) is seen;
  clean = h.clean.clean;
  one_name = h.clean.one_name;
  stamp = λ u runs. subst (HasStamp (shown p) u) (sym (stamp ∙ ap (λ (q : PassView). q.stamp) is)) (h.stamp u runs);
}

-- the pass of a turn holds its shard, with no credit
pub has_turn : (t : Turn) (v : PassRecord) (y z : Content) (i : PassView) → IsTurnOf t v y z → i ≡ t.pass.now → HasTurn i.me t.shard y z 0
has_turn t v y z i h is = let me = ap (λ (q : PassView). q.me) is ∙ h.me in record {
  slot = ap (λ (m : Seated). m.1) me;
  turn = ap (λ (m : Seated). m.0.turns) me ∙ ap (λ l. (t.shard, y) ∷ l) h.clean.no_turn;
  named = subst (λ (m : Seated). HasName m.0) (sym me) (omega (arith, h.one_name));
  credit = ap (λ (m : Seated). m.0.credit) me ∙ h.clean.no_credit;
}

pub leaves_turn : (t : Turn) (i : PassView) → IsTurn t → i ≡ t.pass.now → MayGiveBack t.shard i.me
leaves_turn t i h is = record { before = h.1; after = h.2; turn = has_turn t h.0 h.1 h.2 i h.3 is; same = h.3.same; spares = h.3.spares }

-- the record of a pass that gave its turn back, and did nothing else
module _ (t : Turn) (v : PassRecord) (y z : Content) (h : IsTurnOf t v y z) (i q : PassView) (is : i ≡ t.pass.now)
    (of : q.table ≡ i.table) (stamp : q.stamp ≡ i.stamp) (me : q.me ≡ (turn_left i.me.0, rest i.me.1)) where
  left_me : q.me ≡ (turn_left (with_turn v t.shard y), [])
  left_me = me ∙ (λ k. let m = (ap (λ (p : PassView). p.me) is ∙ h.me) k in (turn_left m.0, rest m.1))

  pub left_pass : IsPassOf (id_of t.table.now) q
  left_pass = record {
    of = of ∙ (ap (λ (p : PassView). p.table) is ∙ h.of);
    clean = record {
      no_shard = ap (λ (m : Seated). m.1) left_me;
      clean = subst (λ (m : Seated). IsClean m.0) (sym left_me)
          (record { no_turn = h.clean.no_turn; no_credit = h.clean.no_credit; stamped = h.clean.stamped });
      one_name = ap (λ (m : Seated). length m.0.names) left_me ∙ h.one_name;
    };
    stamp = λ u runs. let s = h.stamp u (sym (ap (λ (m : Seated). m.0.running) left_me) ∙ runs) in record {
      earlier = s.earlier;
      is_last = ap (λ (m : Seated). m.0.stamps) left_me ∙ (s.is_last ∙ ap (λ n. s.earlier ++ (u, n) ∷ []) (sym (stamp ∙ ap (λ (p : PassView). p.stamp) is)));
    };
  }

  pub only_took : OnlyTook t.shard v (shown q)
  only_took = subst (λ (m : Seated). OnlyTook t.shard v m.0) (sym left_me) (record {
    shard = y;
    took = record { look = refl; looks = refl; last = refl };
    still = record {
      kept = record { names = refl; turns = refl; quiet = refl; halts = refl; credit = refl };
      done = record { claims = refl; stamps = refl; handed = refl; sends = refl };
      running = refl;
    };
  })

  pub left_last : (shown q).last ≡ (t.shard, y) ∷ []
  left_last = ap (λ (m : Seated). m.0.last) left_me
