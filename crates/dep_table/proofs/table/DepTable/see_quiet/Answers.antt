use Rattle.std.proofs.Common.{refl}
use mathlib.Core.Logic.{dite}
use native.Mathlib.Decide.{ℕ_discrete}
use Rattle.dep_table.proofs.Clean.{after_step, no_own_credit}
use Rattle.dep_table.proofs.table.DepTable.see_quiet.Goals as goal

pub read_live-requires-clause-no_credit : goal.read_live-requires-clause-no_credit
read_live-requires-clause-no_credit c =
    let r = c.requires in
    no_own_credit _ _ _ (record { of = r.of; clean = r.clean; stamp = r.stamp }) c.pass.view_is

pub returns-clause-pass : goal.returns-clause-pass
returns-clause-pass c = let e = c.read_live.ensures in dite (ℕ_discrete c.read_live.result 0)
    (λ z. after_step _ _ _ _ _ (record { of = c.requires.of; clean = c.requires.clean; stamp = c.requires.stamp })
    c.pass.view_is e.of refl (e.quiet z).0 refl (record {
      turns = refl;
      credit = refl;
      claims = refl;
      stamps = refl;
      running = refl;
    }))
    (λ nz. after_step _ _ _ _ _ (record { of = c.requires.of; clean = c.requires.clean; stamp = c.requires.stamp })
    c.pass.view_is e.of refl (e.busy nz) refl (record {
      turns = refl;
      credit = refl;
      claims = refl;
      stamps = refl;
      running = refl;
    }))
