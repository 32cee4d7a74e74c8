use Rattle.std.proofs.Common.{◌≡◌, length, arith}
use Rattle.std.proofs.lemmas.Bool.{eqb-true}
use Rattle.dep_iter.specs.Consistent.{roots}
use Rattle.flow_core.proofs.Opening.{opened_all}
use Rattle.flow_core.proofs.claiming.is_open.Goals as goal

pub returns : goal.returns
returns c = λ h.
    let full : length c.args.runner.now.running.items ≡ length (roots c.args.m.now) = omega
    (arith, eqb-true c.len.result c.roots.result h, c.len.ensures, c.roots.ensures) in
    opened_all c.args.m.now c.args.runner.now.run c.requires.opening c.requires.fits.0 c.requires.fits.1 c.args.runner.now.running.items c.requires.running full
