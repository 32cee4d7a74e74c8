use Rattle.std.proofs.Common.{refl, ◌∙◌, rules}
use Rattle.ptg_base.specs.Returns.{ReturnsRefusal}
use Rattle.grammar_core.specs.Reading.{reading}
use Rattle.grammar_core.proofs.CallerLemmas.{fails_before}
use Rattle.jdf_tree.specs.Grammar.{productions}
use Rattle.jdf_read.specs.Next.{signature}
use Rattle.jdf_read.proofs.Parts.{signature_reads}
use Rattle.jdf_read.proofs.head.signature.Goals as goal

pub returns : goal.returns
returns c = signature_reads c.args.tokens.now ∙ rw (c.in_ok-class.ensures, c.in_ok-params.ensures, c.in_ok-rest.ensures) refl

pub returns-in_err-class : goal.returns-in_err-class
returns-in_err-class c =
    let fails : ReturnsRefusal c.in_err-class.field-0.0 (reading productions signature c.args.tokens.now) =
    rw signature_reads (fails_before _ _ _ c.in_err-class.ensures) in
    search rules

pub returns-in_err-params : goal.returns-in_err-params
returns-in_err-params c =
    let fails : ReturnsRefusal c.in_err-params.field-0.0 (reading productions signature c.args.tokens.now) =
    rw (signature_reads, c.in_ok-class.ensures) (fails_before _ _ _ c.in_err-params.ensures) in
    search rules

pub returns-in_err-rest : goal.returns-in_err-rest
returns-in_err-rest c =
    let fails : ReturnsRefusal c.in_err-rest.field-0.0 (reading productions signature c.args.tokens.now) =
    rw (signature_reads, c.in_ok-class.ensures, c.in_ok-params.ensures)
    (fails_before _ _ _ c.in_err-rest.ensures) in
    search rules
