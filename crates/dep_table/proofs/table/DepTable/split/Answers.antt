use Rattle.std.proofs.Common.{ap, ◌∙◌, refl, length}
use Rattle.dep_table.specs.Views.{PassView, shown}
use Rattle.dep_table.proofs.Clean.{after_step, split_length}
use Rattle.dep_table.proofs.table.DepTable.split.Goals as goal

pub split-seat-requires-clause-one_name : goal.split-seat-requires-clause-one_name
split-seat-requires-clause-one_name c =
    ap (λ (p : PassView). length (shown p).names) c.pass.view_is ∙ c.requires.clean.one_name

pub returns-clause-pass : goal.returns-clause-pass
returns-clause-pass c =
    let e = c.split-seat.ensures in
    let r = c.requires in
    after_step _ _ _ _ _ (record { of = r.of; clean = r.clean; stamp = r.stamp }) c.pass.view_is e.of.0 refl e.me
    (split_length _) (record { turns = refl; credit = refl; claims = refl; stamps = refl; running = refl })
