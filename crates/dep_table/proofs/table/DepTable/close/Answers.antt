use Rattle.std.proofs.Common.{List, ap, sym, ◌∙◌, map, subst}
use Rattle.work_board.specs.declared.record.PassRecord.{PassRecord}
use Rattle.table_rule.specs.Records.{joined}
use Rattle.dep_table.specs.ClosedTables.{shards_of}
use Rattle.dep_table.specs.Closing.{IsClosedAt, IsLastPass}
use Rattle.dep_table.specs.StampOrders.{AreInStampOrder, IsClaimOrder, joined_stamps}
use Rattle.dep_table.specs.Tables.{id_of, job_of}
use Rattle.dep_table.specs.Views.{shown}
use Rattle.dep_table.proofs.table.DepTable.close.Goals as goal

pub end-requires : goal.end-requires
end-requires c =
    let seen = c.of-records.ensures ∙ ap (map shown) c.as_slice.ensures.value in
    subst (IsLastPass (id_of c.args.self) c.join_all-last.result) (sym seen) c.join_all-last.ensures.last

pub returns-clause-at : goal.returns-clause-at
returns-clause-at c =
    subst (λ (vs : List PassRecord). IsClosedAt (job_of c.args.self) vs (shards_of c.end.result))
    (sym c.end.ensures.records) c.end.ensures.at

pub returns-clause-quiet : goal.returns-clause-quiet
returns-clause-quiet c = λ p i seen. c.end.ensures.quiet (c.join_all-last.ensures.quiet p i seen)

pub returns-clause-order : goal.returns-clause-order
returns-clause-order c = λ ts o.
    let seen = c.end.ensures.records in
    let before = subst (λ (vs : List PassRecord). AreInStampOrder (joined_stamps vs) ts) seen o in
    subst (λ (vs : List PassRecord). IsClaimOrder (job_of c.args.self).matched (joined vs).state ts) (sym seen)
    (c.end.ensures.order ts before)
