use Rattle.std.proofs.Common.{◌≡◌, ◌++◌, length, map, take}
use Rattle.trace_core.specs.Text.{row_of, head_line, rows_text}
use Rattle.trace_core.proofs.text.trace_text.Given as goal

abbrev pub invariant-loop-t : goal.invariant-loop-t
invariant-loop-t l = l.out ≡ head_line (length l.list) ++ rows_text (map (row_of l.plan) (take l.t-index l.list))
