use Rattle.std.proofs.Common.{ap, ◌∙◌}
use Rattle.jdf_lex.specs.Terminals.{is}
use Rattle.jdf_lex.proofs.Same.{same_is}
use Rattle.jdf_lex.proofs.next.is_next.Goals as goal

pub returns-in-Some : goal.returns-in-Some
returns-in-Some c = rw c.in-Some.ensures.cases.0 (c.eq.ensures ∙ (same_is _ _ ∙ ap (is c.args.wanted) c.of.ensures))
