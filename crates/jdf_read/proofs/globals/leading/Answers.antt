use Rattle.std.proofs.Common.{refl, sym, ◌∙◌, rules}
use Rattle.ptg_base.specs.Returns.{ReturnsRefusal}
use Rattle.grammar_core.specs.Reading.{reading}
use Rattle.grammar_core.proofs.CallerLemmas.{fails_before}
use Rattle.jdf_tree.specs.Grammar.{productions}
use Rattle.jdf_read.specs.Next.{leading}
use Rattle.jdf_read.proofs.BeforeClasses.{leading_reads}
use Rattle.jdf_read.proofs.globals.leading.Goals as goal

pub returns-then-is_skip_next : goal.returns-then-is_skip_next
returns-then-is_skip_next c = leading_reads c.args.tokens.now ∙ rw (sym c.is_skip_next.ensures ∙ c.if-is_skip_next.true, c.in_ok-rest.ensures) refl

pub returns : goal.returns
returns c = leading_reads c.args.tokens.now ∙ rw (sym c.is_skip_next.ensures ∙ c.if-is_skip_next.false, c.in_ok-global.ensures, c.in_ok-rest-2.ensures) refl

pub returns-in_err-rest : goal.returns-in_err-rest
returns-in_err-rest c =
    let fails : ReturnsRefusal c.in_err-rest.field-0.0 (reading productions leading c.args.tokens.now) =
    rw (leading_reads, sym c.is_skip_next.ensures ∙ c.if-is_skip_next.true)
    (fails_before _ _ _ c.in_err-rest.ensures) in
    search rules

pub returns-in_err-global : goal.returns-in_err-global
returns-in_err-global c =
    let fails : ReturnsRefusal c.in_err-global.field-0.0 (reading productions leading c.args.tokens.now) =
    rw (leading_reads, sym c.is_skip_next.ensures ∙ c.if-is_skip_next.false)
    (fails_before _ _ _ c.in_err-global.ensures) in
    search rules

pub returns-in_err-rest-2 : goal.returns-in_err-rest-2
returns-in_err-rest-2 c =
    let fails : ReturnsRefusal c.in_err-rest-2.field-0.0 (reading productions leading c.args.tokens.now) =
    rw (leading_reads, sym c.is_skip_next.ensures ∙ c.if-is_skip_next.false, c.in_ok-global.ensures)
    (fails_before _ _ _ c.in_err-rest-2.ensures) in
    search rules
