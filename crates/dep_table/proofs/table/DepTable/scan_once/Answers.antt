use Rattle.std.proofs.Common.{rules, ap, refl, ◌∙◌}
use Rattle.table_rule.specs.Plays.{Seated}
use Rattle.dep_table.proofs.Scans.{best_at, none_at, none_ready, placed_at, relent}
use Rattle.dep_table.proofs.Tried.{best_claimed_at}
use Rattle.dep_table.proofs.table.DepTable.scan_once.Goals as goal

pub claim_best-arrivals-requires-clause-idle : goal.claim_best-arrivals-requires-clause-idle
claim_best-arrivals-requires-clause-idle c = let y = c.in-Ok.ensures.turn in let n = c.best_ready.ensures.turn _ y.0 y.0
    (relent c.in-Ok.turn _ _ _ _ refl refl refl y.1) in
    ap (λ (m : Seated). m.0.running) n.1.me ∙ c.requires.idle

pub claim_best-arrivals-requires-clause-best : goal.claim_best-arrivals-requires-clause-best
claim_best-arrivals-requires-clause-best c = let y = c.in-Ok.ensures.turn in let t = relent c.in-Ok.turn _ _ _ _ refl
    refl refl y.1 in let n = c.best_ready.ensures.turn _ y.0 y.0 t in
    (_, y.0, n.0, n.1, c.in-Some.ensures.some _ y.0 y.0 t)

pub leave-requires : goal.leave-requires
leave-requires c = let y = c.in-Ok.ensures.turn in let n = c.best_ready.ensures.turn _ y.0 y.0
    (relent c.in-Ok.turn _ _ _ _ refl refl refl y.1) in record { turn = (_, y.0, n.0, n.1) }

pub returns-in-Some-clause-scan : goal.returns-in-Some-clause-scan
returns-in-Some-clause-scan c =
    let s = c.in-Ok.ensures.same in
    let y = c.in-Ok.ensures.turn in
    let t = relent c.in-Ok.turn _ _ _ _ refl refl refl y.1 in
    let b = c.best_ready.ensures.same in
    let n = c.best_ready.ensures.turn _ y.0 y.0 t in
    let h = best_claimed_at _ _ (b.0 ∙ s.1) _ _ (b.1 ∙ s.2) _ _ _ _ (c.claim_best-arrivals.ensures.claimed _ y.0 n.0 n.1) in
    (placed_at _ _ s.1 _ _ s.2 _ (best_at c.in-Ok.turn _ y.0 y.0 y.1 _ (c.in-Some.ensures.some _ y.0 y.0 t)), search rules)

pub returns-in-None-clause-scan : goal.returns-in-None-clause-scan
returns-in-None-clause-scan c =
    let s = c.in-Ok.ensures.same in
    let y = c.in-Ok.ensures.turn in
    let t = relent c.in-Ok.turn _ _ _ _ refl refl refl y.1 in
    let b = c.best_ready.ensures.same in
    let n = c.best_ready.ensures.turn _ y.0 y.0 t in
    let h = none_at _ _ (b.1 ∙ s.2) _ _ (none_ready _ _ _ y.0 (c.leave.ensures.last _ y.0 n.0 n.1)
    (c.in-None.ensures.none _ y.0 y.0 t) (c.leave.ensures.left _ y.0 n.0 n.1)) in search rules
