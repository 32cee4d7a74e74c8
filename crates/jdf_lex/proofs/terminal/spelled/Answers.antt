use Rattle.std.proofs.Common.{sym, ◌∙◌}
use Rattle.jdf_lex.proofs.Spelled.{here, further}
use Rattle.jdf_lex.proofs.terminal.spelled.Goals as goal

pub returns-then-eq : goal.returns-then-eq
returns-then-eq c = sym (here _ _ c.args.other _ _ c.loop-word-test.true (sym c.eq.ensures ∙ c.if-eq.true)) ∙ c.loop-word.invariant

pub loop-word-preserved : goal.loop-word-preserved
loop-word-preserved c = sym (further _ _ c.args.other _ _ c.loop-word-test.true (sym c.eq.ensures ∙ c.if-eq.false)) ∙ c.loop-word.invariant
