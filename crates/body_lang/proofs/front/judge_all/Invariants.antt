use Rattle.std.proofs.Common.{◌≡◌, ◌-◌, drop}
use Rattle.body_lang.specs.Environment.{environment_of}
use Rattle.body_lang.specs.TokenScan.{judged_among}
use Rattle.body_lang.specs.Scanner.{scan_of}
use Rattle.body_lang.proofs.front.judge_all.Given as goal

abbrev pub invariant-loop-index : goal.invariant-loop-index
invariant-loop-index l = judged_among (environment_of l.scope) (scan_of l.scanner) (l.count - l.index)
    (drop l.index l.tokens) ≡ judged_among (environment_of l.scope) (scan_of l.fn.scanner) l.count l.tokens
