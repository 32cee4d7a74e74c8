use Rattle.std.proofs.Common.{refl}
use Rattle.jdf_lex.proofs.Scanning.{scanned_at_start}
use Rattle.jdf_lex.proofs.lex.lex.Goals as goal

pub loop-here-init : goal.loop-here-init
loop-here-init c = scanned_at_start c.args.text.now c.new-tokens.result
    (record { index = 0; spot = record { line = 1; column = 1 } }) c.new-tokens.ensures refl refl
