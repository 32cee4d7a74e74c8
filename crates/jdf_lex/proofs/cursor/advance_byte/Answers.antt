use Rattle.std.proofs.Common.{arith, ap}
use Rattle.grammar_core.specs.declared.token.Spot.{Spot}
use Rattle.jdf_lex.proofs.Spots.{column_bound}
use Rattle.jdf_lex.proofs.cursor.advance_byte.Goals as goal

pub overflow_add-spot-else-text-here-eq10 : goal.overflow_add-spot-else-text-here-eq10
overflow_add-spot-else-text-here-eq10 c =
    omega (arith, column_bound c.args.text.now c.args.here.index c.requires.cursor.within, ap (λ (s : Spot). s.column) c.requires.cursor.spot)
