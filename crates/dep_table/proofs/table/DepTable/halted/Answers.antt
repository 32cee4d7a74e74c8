use Rattle.std.proofs.Common.{refl}
use Rattle.dep_table.proofs.Clean.{after_step}
use Rattle.dep_table.proofs.table.DepTable.halted.Goals as goal

pub returns-clause-pass : goal.returns-clause-pass
returns-clause-pass c = let e = c.read_halt.ensures in after_step _ _ _ _ _
    (record { of = c.requires.of; clean = c.requires.clean; stamp = c.requires.stamp }) c.pass.view_is e.of refl e.me
    refl (record { turns = refl; credit = refl; claims = refl; stamps = refl; running = refl })
