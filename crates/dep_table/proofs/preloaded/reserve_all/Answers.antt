use Rattle.std.proofs.Common.{◌≡◌, arith, slice_get, Some}
use Rattle.list_lemmas.proofs.Places.{slice_get_at}
use Rattle.dep_table.proofs.NeedsSteps.{all_reserved, reserved_more}
use Rattle.dep_table.proofs.preloaded.reserve_all.Goals as goal

pub loop-k-preserved : goal.loop-k-preserved
loop-k-preserved c =
    let e : slice_get c.args.needs.now c.loop-k.k ≡ Some c.index-needs-k.result = slice_get_at c.args.needs.now
    c.loop-k.k c.index-needs-k.result c.loop-k-test.true c.index-needs-k.is in
    reserved_more c.loop-k.k c.args.needs.now c.index-needs-k.result c.args.shards.now.items c.loop-k.shards.items
    c.reserve_at.new.shards.items c.loop-k.invariant e c.in_ok-reserve_at.ensures

pub returns : goal.returns
returns c = all_reserved c.loop-k.k c.args.needs.now c.args.shards.now.items c.loop-k.shards.items (omega (arith, c.loop-k-test.false)) c.loop-k.invariant
