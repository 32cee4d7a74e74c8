use Rattle.std.proofs.Common.{ap}
use Rattle.report_text.specs.Refusal.{refusal_text}
use Rattle.report_text.proofs.Putting.{puts_same}
use Rattle.report_text.proofs.refusal_line.put_refusal.Goals as goal

pub returns-in-Match : goal.returns-in-Match
returns-in-Match g c = puts_same _ c.put_inconsistent.ensures (ap refusal_text c.in-Match.is)
