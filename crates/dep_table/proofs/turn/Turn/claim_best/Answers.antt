use Rattle.std.proofs.Common.{rules}
use Rattle.dep_table.proofs.Scans.{best_claimed, best_goes}
use Rattle.dep_table.proofs.turn.Turn.claim_best.Goals as goal

pub claim-requires-clause-turn : goal.claim-requires-clause-turn
claim-requires-clause-turn c = let h = c.requires.best in (h.0, h.1, h.2, h.3)

pub unreachable-requires : goal.unreachable-requires
unreachable-requires c = let h = c.requires.best in best_goes _ _ h.0 _ h.1 (c.in-None.ensures.last h.0 h.1 h.2 h.3) h.4
    (c.in-None.ensures.none h.0 h.1 h.2 h.3)

pub returns-clause-claimed : goal.returns-clause-claimed
returns-clause-claimed c = λ v y z t. let h = c.requires.best in let b = best_claimed _ _ _ _ _ v _ h.1
    (c.in-Some.ensures.last h.0 h.1 h.2 h.3) h.4 (c.in-Some.ensures.some v y z t) in search rules
