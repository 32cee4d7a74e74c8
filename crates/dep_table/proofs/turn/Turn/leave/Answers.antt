use Rattle.std.proofs.Common.{refl}
use Rattle.dep_table.proofs.Turns.{leaves_turn, left_last, left_pass, only_took}
use Rattle.dep_table.proofs.turn.Turn.leave.Goals as goal

pub give-requires-clause-leaves : goal.give-requires-clause-leaves
give-requires-clause-leaves c = leaves_turn _ _ c.requires.turn c.pass.view_is

pub returns-clause-pass : goal.returns-clause-pass
returns-clause-pass c = let h = c.requires.turn in let e = c.give.ensures in left_pass _ _ _ _ h.3 _ _ c.pass.view_is e.of refl e.me

pub returns-clause-left : goal.returns-clause-left
returns-clause-left c = λ v y z h. let e = c.give.ensures in only_took _ v y z h _ _ c.pass.view_is e.of refl e.me

pub returns-clause-last : goal.returns-clause-last
returns-clause-last c = λ v y z h. let e = c.give.ensures in left_last _ v y z h _ _ c.pass.view_is e.of refl e.me
