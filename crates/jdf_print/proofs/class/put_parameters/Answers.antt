use Rattle.std.proofs.Common.{ℕ, List, [], ◌∷◌, ◌++◌, ap, sym, ◌∙◌}
use Rattle.std.proofs.lemmas.List.{append-nil}
use Rattle.std.proofs.lemmas.Result.{IfOk-equal}
use Rattle.jdf_tree.specs.declared.expression.Word.{Word}
use Rattle.jdf_print.specs.Fragments.{token, comma}
use Rattle.jdf_print.proofs.Separated.{all_written}
use Rattle.jdf_print.proofs.class.put_parameters.Goals as goal

pub returns : goal.returns
returns c =
    IfOk-equal _ _ _ _ c.put_later.ensures
    (all_written comma (λ (w : Word). token w.text ∷ []) c.args.names.now c.in-Some.first.now c.in-Some.later.now
    c.args.out.now c.put_word.new.out c.in-Some.ensures.cases.0
    (c.in_ok-put_word.ensures ∙ ap (λ (w : List ℕ). c.args.out.now ++ w)
    (sym (append-nil c.in-Some.first.now.text))))
