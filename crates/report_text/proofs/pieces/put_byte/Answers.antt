use Rattle.std.proofs.Common.{refl, [], ◌∷◌}
use Rattle.report_text.proofs.Putting.{puts_cut}
use Rattle.report_text.proofs.pieces.put_byte.Goals as goal

pub returns-in_err-make_room : goal.returns-in_err-make_room
returns-in_err-make_room g c = puts_cut (c.args.byte ∷ []) _ c.in_err-make_room.ensures.puts c.from_residual.ensures.0 refl
