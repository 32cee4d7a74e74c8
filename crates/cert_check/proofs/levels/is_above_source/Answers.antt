use Rattle.std.proofs.Common.{refl}
use Rattle.cert_check.proofs.Lookups.{above_by}
use Rattle.cert_check.proofs.levels.is_above_source.Goals as goal

pub returns-in-Some : goal.returns-in-Some
returns-in-Some c =
    above_by c.args.levels.now c.args.s.now c.args.w c.args.n c.in-Some.level c.from.result c.from-in-Some.result
    c.from-in-Some-2.result c.from.ensures c.from-in-Some.ensures c.from-in-Some-2.ensures c.in-Some.ensures

pub returns-in-None : goal.returns-in-None
returns-in-None c = (λ e k i. absurd (c.in-None.ensures k i), λ h. refl)
