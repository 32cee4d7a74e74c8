use Rattle.std.proofs.Common.{◌∙◌, arith}
use Rattle.trace_core.proofs.Texts.{whole_text}
use Rattle.trace_core.proofs.text.trace_text.Goals as goal

pub returns : goal.returns
returns c =
    whole_text c.args.plan.now c.args.list.now c.loop-t.t-index c.loop-t.out c.in_ok-text.text (omega arith)
    c.loop-t.invariant (c.in_ok-text.ensures ∙ c.as_slice.ensures)
