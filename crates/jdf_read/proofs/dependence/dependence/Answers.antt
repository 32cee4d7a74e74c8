use Rattle.std.proofs.Common.{refl, ◌∙◌, rules}
use Rattle.ptg_base.specs.Returns.{ReturnsRefusal}
use Rattle.grammar_core.specs.Reading.{reading}
use Rattle.grammar_core.proofs.CallerLemmas.{fails_before}
use Rattle.jdf_tree.specs.ClassGrammar.{dependence}
use Rattle.jdf_tree.specs.Grammar.{productions}
use Rattle.jdf_read.proofs.Begins.{dependence_reads}
use Rattle.jdf_read.proofs.dependence.dependence.Goals as goal

pub returns : goal.returns
returns c = dependence_reads c.args.tokens.now ∙ rw (c.in_ok-direction.ensures, c.in_ok-guard.ensures, c.in_ok-datatype.ensures) refl

pub returns-in_err-direction : goal.returns-in_err-direction
returns-in_err-direction c =
    let fails : ReturnsRefusal c.in_err-direction.field-0.0 (reading productions dependence c.args.tokens.now) =
    rw dependence_reads (fails_before _ _ _ c.in_err-direction.ensures) in
    search rules

pub returns-in_err-guard : goal.returns-in_err-guard
returns-in_err-guard c =
    let fails : ReturnsRefusal c.in_err-guard.field-0.0 (reading productions dependence c.args.tokens.now) =
    rw (dependence_reads, c.in_ok-direction.ensures) (fails_before _ _ _ c.in_err-guard.ensures) in
    search rules

pub returns-in_err-datatype : goal.returns-in_err-datatype
returns-in_err-datatype c =
    let fails : ReturnsRefusal c.in_err-datatype.field-0.0 (reading productions dependence c.args.tokens.now) =
    rw (dependence_reads, c.in_ok-direction.ensures, c.in_ok-guard.ensures)
    (fails_before _ _ _ c.in_err-datatype.ensures) in
    search rules
