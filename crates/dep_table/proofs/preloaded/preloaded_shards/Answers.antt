use Rattle.std.proofs.Common.{◌∙◌, ap, sym, subst, length}
use Rattle.dep_table.specs.Needs.{AreReserved, FitShards}
use Rattle.dep_table.proofs.NeedsSteps.{kept_shards, reserved_shards, types_fit}
use Rattle.dep_table.proofs.preloaded.preloaded_shards.Goals as goal

pub reserve_all-requires-clause-count : goal.reserve_all-requires-clause-count
reserve_all-requires-clause-count c = ap length c.as_slice.ensures.value ∙ (c.in_ok-needs.ensures.count ∙ sym c.in_ok-opened.ensures.count)

pub reserve_all-requires-clause-types : goal.reserve_all-requires-clause-types
reserve_all-requires-clause-types c =
    subst (λ ns. FitShards ns c.in_ok-opened.opened.items) (sym c.as_slice.ensures.value)
    (types_fit c.args.m.now c.args.shards c.in_ok-needs.needs.items c.in_ok-opened.opened.items c.in_ok-needs.ensures.needs c.in_ok-opened.ensures)

pub returns-clause-shards : goal.returns-clause-shards
returns-clause-shards c =
    let reserved = subst (λ ns. AreReserved ns c.in_ok-opened.opened.items c.reserve_all.new.shards.items)
    c.as_slice.ensures.value c.in_ok-reserve_all.ensures in
    kept_shards c.args.m.now c.args.shards c.in_ok-needs.needs.items c.in_ok-opened.opened.items
    c.reserve_all.new.shards.items c.in_ok-needs.ensures.count c.in_ok-opened.ensures reserved

pub returns-clause-spares : goal.returns-clause-spares
returns-clause-spares c =
    let reserved = subst (λ ns. AreReserved ns c.in_ok-opened.opened.items c.reserve_all.new.shards.items)
    c.as_slice.ensures.value c.in_ok-reserve_all.ensures in
    reserved_shards c.args.m.now c.args.shards c.in_ok-needs.needs.items c.in_ok-opened.opened.items
    c.reserve_all.new.shards.items c.in_ok-needs.ensures.count c.in_ok-opened.ensures reserved
    c.in_ok-needs.ensures.needs
