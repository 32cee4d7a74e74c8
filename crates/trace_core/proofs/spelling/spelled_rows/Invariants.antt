use Rattle.std.proofs.Common.{◌≡◌, List, length}
use Rattle.trace_core.specs.Spelling.{BeginsWith}
use Rattle.trace_core.specs.Text.{TraceRow}
use Rattle.trace_core.proofs.spelling.spelled_rows.Given as goal

abbrev pub invariant-rows : goal.invariant-rows
invariant-rows l = (es : List TraceRow) × BeginsWith l.text l.rows es l.left × (length es ≡ l.at)
