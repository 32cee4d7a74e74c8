use Rattle.std.proofs.Common.{ℕ, ◌↔◌, subst, IsTrue, arith}
use Rattle.ptg_base.specs.Task.{Task}
use Rattle.chain_cert.specs.Chains.{IsSourceOf}
use Rattle.cert_check.specs.Checking.{IsAboveSource}
use Rattle.cert_check.proofs.levels.is_high_enough.Goals as goal

pub returns : goal.returns
returns c =
    let is = c.weight_of-w.ensures in
    let high = subst (λ (w : ℕ). IsTrue c.is_above_sources.result ↔
    ((s : Task) → IsSourceOf c.args.plan.now s c.args.row.now.0
    → IsAboveSource c.args.levels.now w c.args.row.now.1 s)) is c.is_above_sources.ensures in
    (λ e. record { own = omega (arith, is, c.if-row-w.false); above = high.0 e }, λ h. high.1 h.above)
