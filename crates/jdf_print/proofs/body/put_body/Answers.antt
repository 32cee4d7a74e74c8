use Rattle.std.proofs.Common.{ℕ, List, [], ◌∷◌, ◌++◌, ap, sym, ◌∙◌}
use Rattle.std.proofs.lemmas.List.{append-nil}
use Rattle.std.proofs.lemmas.Result.{IfOk-equal}
use Rattle.grammar_core.specs.declared.token.Token.{Token}
use Rattle.jdf_print.specs.Fragments.{token, space, text}
use Rattle.jdf_print.specs.Spelling.{body}
use Rattle.jdf_print.proofs.Separated.{line_written}
use Rattle.jdf_print.proofs.body.put_body.Goals as goal

pub returns : goal.returns
returns c =
    let old = c.args.out.now in
    let x = c.in-Some.first.now in
    let put_first = c.in_ok-put.ensures ∙ ap (λ (w : List ℕ). old ++ w) (c.bytes.ensures ∙ sym (append-nil x.text)) in
    IfOk-equal _ _ _ _ c.put-2.ensures
    (line_written (space ∷ []) (λ (t : Token). token t.text ∷ []) x c.in-Some.later.now old c.put.new.out
    c.put_later.new.out put_first c.in_ok-put_later.ensures
    ∙ ap (λ (w : List Token). old ++ text (body w)) (sym c.in-Some.ensures.cases.0))
