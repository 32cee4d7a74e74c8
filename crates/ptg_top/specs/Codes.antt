-- The exit status of the process for each way in which a run ends.
-- Carried by: `Status::code`.
-- Tested by: all rows.
use Rattle.std.specs.Prelude.{ℕ}
use Rattle.ptg_top.specs.declared.status.Status.{Status}
use Rattle.ptg_top.specs.declared.status.Status.TheVariants.{Complete, Usage, JdfRefused, DataRefused, Inconsistent, Trapped, Stalled, ReadFault}
use Rattle.ptg_top.specs.declared.status.Status.TheVariants.{WriteFault, OutOfMemory, PreloadTooLarge, TraceRefused}

-- the exit status as a number
abbrev pub code_of : Status → ℕ
code_of Complete = 0
code_of Usage = 1
code_of JdfRefused = 2
code_of DataRefused = 3
code_of Inconsistent = 4
code_of Trapped = 5
code_of Stalled = 6
code_of ReadFault = 7
code_of WriteFault = 8
code_of OutOfMemory = 9
code_of PreloadTooLarge = 10
code_of TraceRefused = 11
