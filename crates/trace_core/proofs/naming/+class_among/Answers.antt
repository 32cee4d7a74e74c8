use Rattle.std.proofs.Common.{◌∙◌}
use Rattle.std.proofs.lemmas.Bool.{false≢true}
use Rattle.trace_core.proofs.Named.{later_class}
use Rattle.list_lemmas.proofs.Texts.{equal_bytes}
use Rattle.trace_core.proofs.naming.+class_among.Goals as goal

pub returns : goal.returns
returns t c =
    later_class c.args.classes.now c.in-Some.later.now c.in-Some.first.now c.args.name.now c.args.n c.class_among.result c.in-Some.ensures.cases.0
    (λ e. false≢true (c.if-eq.ensures ∙ equal_bytes c.bytes.result.now c.args.name.now (c.bytes.ensures ∙ e))) c.class_among.ensures
