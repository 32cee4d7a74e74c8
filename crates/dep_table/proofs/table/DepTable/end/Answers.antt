use Rattle.dep_table.proofs.Closings.{closes, closes_order, closes_quiet, left_by}
use Rattle.dep_table.proofs.table.DepTable.end.Goals as goal

pub invariant_of-result : goal.invariant_of-result
invariant_of-result c =
    let r = c.requires in
    let left = left_by _ _ _ _ _ c.args.self.of_job c.pass.view_is c.close-shards.ensures in
    record {
      ends = closes _ _ _ _ r.all r.no_turn r.did r.handed left;
      fit = c.args.self.fit;
      room = c.args.self.room.rows;
    }

pub returns-clause-at : goal.returns-clause-at
returns-clause-at c =
    let r = c.requires in
    let left = left_by _ _ _ _ _ c.args.self.of_job c.pass.view_is c.close-shards.ensures in
    closes _ _ _ _ r.all r.no_turn r.did r.handed left

pub returns-clause-quiet : goal.returns-clause-quiet
returns-clause-quiet c =
    let r = c.requires in
    let left = left_by _ _ _ _ _ c.args.self.of_job c.pass.view_is c.close-shards.ensures in
    closes_quiet _ _ c.args.records.records _ r.all r.no_turn r.did r.handed left

pub returns-clause-order : goal.returns-clause-order
returns-clause-order c =
    let r = c.requires in
    let left = left_by _ _ _ _ _ c.args.self.of_job c.pass.view_is c.close-shards.ensures in
    closes_order _ _ c.args.records.records _ r.all r.stamped r.did r.drew left
