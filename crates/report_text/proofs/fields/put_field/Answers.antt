use Rattle.std.proofs.Common.{◌≡◌, ℤ, ◌∷◌, ap, sym, ◌∙◌, rules}
use Rattle.std.specs.Fmt.{signed_decimal}
use Rattle.std.specs.Int.{w128}
use Rattle.std.proofs.lemmas.Int.{to_z-of_z}
use mir.Val.{to_z, of_z, SFits}
use Rattle.report_text.specs.Field.{field_texts, with_commas}
use Rattle.report_text.specs.declared.fields.Field.{Field}
use Rattle.report_text.proofs.Lines.{integer_texts, one_text}
use Rattle.report_text.proofs.Putting.{puts_same}
use Rattle.report_text.proofs.fields.put_field.Goals as goal

pub returns-in-Word : goal.returns-in-Word
returns-in-Word g c = puts_same _ c.put_word_field.ensures (ap (λ (f : Field). with_commas (field_texts f)) c.in-Word.is ∙ one_text _)

pub returns-in-Number : goal.returns-in-Number
returns-in-Number g c = puts_same _ c.put_number_field.ensures (ap (λ (f : Field). with_commas (field_texts f)) c.in-Number.is ∙ one_text _)

pub returns-in-Integer : goal.returns-in-Integer
returns-in-Integer g c =
    let n = c.in-Integer.n in
    let fits : SFits w128 n = search rules in
    let same : to_z w128 (of_z w128 n) ≡ n = to_z-of_z w128 n fits in
    puts_same _ c.put_integer_field.ensures (ap (λ (f : Field). with_commas (field_texts f)) c.in-Integer.is
    ∙ (one_text (signed_decimal n) ∙ ap (λ (z : ℤ). 44 ∷ signed_decimal z) (sym same)))

pub returns-in-Integers : goal.returns-in-Integers
returns-in-Integers g c = puts_same _ c.put_integers.ensures (ap (λ (f : Field). with_commas (field_texts f)) c.in-Integers.is ∙ integer_texts _)
