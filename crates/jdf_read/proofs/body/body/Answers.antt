use Rattle.std.proofs.Common.{refl, ◌∙◌, rules}
use Rattle.ptg_base.specs.Returns.{ReturnsRefusal}
use Rattle.grammar_core.specs.Reading.{reading}
use Rattle.grammar_core.proofs.CallerLemmas.{fails_before}
use Rattle.jdf_tree.specs.ClassGrammar.{body}
use Rattle.jdf_tree.specs.Grammar.{productions}
use Rattle.jdf_read.proofs.Parts.{body_reads}
use Rattle.jdf_read.proofs.body.body.Goals as goal

pub returns : goal.returns
returns c = body_reads c.args.tokens.now ∙ rw (c.in_ok-rest.ensures, c.in_ok-rest-2.ensures, c.in_ok-body.ensures, c.in_ok-end.ensures) refl

pub returns-in_err-rest : goal.returns-in_err-rest
returns-in_err-rest c =
    let fails : ReturnsRefusal c.in_err-rest.field-0.0 (reading productions body c.args.tokens.now) =
    rw body_reads (fails_before _ _ _ c.in_err-rest.ensures) in
    search rules

pub returns-in_err-rest-2 : goal.returns-in_err-rest-2
returns-in_err-rest-2 c =
    let fails : ReturnsRefusal c.in_err-rest-2.field-0.0 (reading productions body c.args.tokens.now) =
    rw (body_reads, c.in_ok-rest.ensures) (fails_before _ _ _ c.in_err-rest-2.ensures) in
    search rules

pub returns-in_err-body : goal.returns-in_err-body
returns-in_err-body c =
    let fails : ReturnsRefusal c.in_err-body.field-0.0 (reading productions body c.args.tokens.now) =
    rw (body_reads, c.in_ok-rest.ensures, c.in_ok-rest-2.ensures) (fails_before _ _ _ c.in_err-body.ensures) in
    search rules

pub returns-in_err-end : goal.returns-in_err-end
returns-in_err-end c =
    let fails : ReturnsRefusal c.in_err-end.field-0.0 (reading productions body c.args.tokens.now) =
    rw (body_reads, c.in_ok-rest.ensures, c.in_ok-rest-2.ensures, c.in_ok-body.ensures)
    (fails_before _ _ _ c.in_err-end.ensures) in
    search rules
