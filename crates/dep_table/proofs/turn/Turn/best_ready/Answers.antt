use Rattle.std.proofs.Common.{ap, refl}
use Rattle.table_rule.specs.Plays.{Seated}
use Rattle.dep_table.proofs.Scans.{NoneReady, looked_turn, none_was}
use Rattle.dep_table.proofs.Tried.{if_none}
use Rattle.dep_table.proofs.turn.Turn.best_ready.Goals as goal

pub returns-clause-turn : goal.returns-clause-turn
returns-clause-turn c = λ v y z h. let e = c.best_of.ensures in let l = e.shard z (ap (λ (m : Seated). m.1) h.me) in
    (l.after, looked_turn c.args.self.now _ v y z l.after h refl refl e.same.0 e.same.1 (l.me) l.same l.spares)

pub returns-clause-none : goal.returns-clause-none
returns-clause-none c = if_none {Y = NoneReady c.args.self.now} (λ f v y z h. none_was _ v y z h (f z (ap (λ (m : Seated). m.1) h.me))) _ c.best_of.ensures.none
