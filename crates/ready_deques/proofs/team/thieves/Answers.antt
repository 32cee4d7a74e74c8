use Rattle.std.proofs.Common.{◌<◌, length, arith}
use Rattle.ready_deques.proofs.Rows.{one_more}
use Rattle.ready_deques.proofs.team.thieves.Goals as goal

pub loop-k-preserved : goal.loop-k-preserved
loop-k-preserved c =
    let i = c.loop-k.invariant in
    let within : c.loop-k.k < length c.args.owners.now.items = omega arith in
    let gave = c.in_ok-thief.ensures.ok in
    let both = one_more _ _ _ _ _ _ _ _ within i.0 i.1 c.index_mut.ensures.value gave.1 gave.0 c.in_ok-push.ensures.items in
    (both.0, both.1, i.2)
