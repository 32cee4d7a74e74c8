use Rattle.std.proofs.Common.{◌≡◌, ◌++◌}
use Rattle.flow_core.specs.Rows.{writes_among}
use Rattle.flow_core.specs.SentItems.{all_sent}
use Rattle.flow_core.proofs.sent_items.write_backs_of.Given as goal

-- what is found and what is left
abbrev pub invariant-loop-item : goal.invariant-loop-item
invariant-loop-item l = l.writes.items ++ writes_among (all_sent l.item-iterator) ≡ writes_among (all_sent l.fn.table.entries)
