use Rattle.std.proofs.Common.{◌≡◌, List, length}
use Rattle.std.specs.List.{AllByRecursion}
use Rattle.trace_core.specs.Spelling.{IsSpelled}
use Rattle.trace_core.specs.Text.{TraceRow, rows_text}
use Rattle.trace_core.proofs.ReadRows.{IsReadTo}
use Rattle.trace_core.proofs.reading.add_tasks.Given as goal

abbrev pub invariant-rows : goal.invariant-rows
invariant-rows l = (es : List TraceRow) → AllByRecursion IsSpelled es → l.rows ≡ rows_text es → IsReadTo l.plan es l.tasks.keys l.left

abbrev pub decreases-rows : goal.decreases-rows
decreases-rows l = length l.left
