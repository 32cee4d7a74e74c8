use Rattle.std.proofs.Common.{refl}
use Rattle.dep_table.proofs.Clean.{after_step}
use Rattle.dep_table.proofs.table.DepTable.halt.Goals as goal

pub returns-clause-pass : goal.returns-clause-pass
returns-clause-pass c = let e = c.raise_halt.ensures in after_step _ _ _ _ _ c.requires.pass c.pass.view_is e.of refl
    e.me refl (record { turns = refl; credit = refl; claims = refl; stamps = refl; running = refl })
