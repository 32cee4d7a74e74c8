use Rattle.std.proofs.Common.{◌≡◌, sym, None}
use Rattle.std.specs.Map.{lookup}
use Rattle.ptg_base.specs.TaskComparing.{same_task}
use Rattle.flow_core.proofs.state.mark.Goals as goal

pub returns-in_default : goal.returns-in_default
returns-in_default c =
    let none : lookup (same_task c.args.t.now) c.args.claims.now.entries ≡ None = sym c.in_default.ensures.value in
    let some = c.requires in
    absurd cc
