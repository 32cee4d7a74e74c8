use Rattle.std.proofs.Common.{[], sym, ◌∙◌}
use Rattle.std.proofs.lemmas.List.{get_or_past, get_or_read}
use Rattle.report_text.proofs.rows.trap_word.Goals as goal

-- a word with this number
pub returns-in-Some : goal.returns-in-Some
returns-in-Some c =
    let found = c.in-Some.ensures.lookup in
    c.bytes.ensures ∙ get_or_read c.args.words.now c.args.n c.in-Some.word.now found.3.0 found.1 []

-- there is no such word
pub returns-in-None : goal.returns-in-None
returns-in-None c = sym (get_or_past c.args.words.now c.args.n [] c.in-None.ensures.lookup.3)
