use Rattle.std.proofs.Common.{◌≡◌, true, ap, sym, ◌∙◌}
use Rattle.jdf_lex.specs.Terminals.{is, terminal_of}
use Rattle.jdf_lex.proofs.Same.{same_is}
use Rattle.jdf_lex.proofs.next.expect.Goals as goal

pub returns-in-Some : goal.returns-in-Some
returns-in-Some c =
    let wanted : is c.args.wanted (terminal_of c.in-Some.first.now) ≡ true =
    sym (c.eq.ensures ∙ (same_is _ _ ∙ ap (is c.args.wanted) c.of.ensures)) ∙ c.if-eq.true in
    rw (c.in-Some.ensures.cases.0, wanted)
