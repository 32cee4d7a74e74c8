use Rattle.std.proofs.Common.{◌≡◌, ◌∙◌, ap, [], Some, None, refl}
use Rattle.csv.specs.Records.{fields_of}
use Rattle.data_read.specs.Fields.{after_blanks, content_length, without_blanks}
use Rattle.data_read.proofs.FieldsAt.{field_or_none}
use Rattle.data_read.proofs.field.field.Goals as goal

pub returns-in-Some : goal.returns-in-Some
returns-in-Some c =
    let here = field_or_none (fields_of c.args.fields.now) c.args.at (Some c.in-Some.bytes.now) c.in-Some.ensures.value in
    c.without_blanks.ensures ∙ ap without_blanks here

no_blanks : [] ≡ without_blanks []
unfolding after_blanks content_length
no_blanks = refl

pub returns-in-None : goal.returns-in-None
returns-in-None c = c.as_slice.ensures ∙ no_blanks ∙ ap without_blanks (field_or_none (fields_of c.args.fields.now) c.args.at None c.in-None.ensures.value)
