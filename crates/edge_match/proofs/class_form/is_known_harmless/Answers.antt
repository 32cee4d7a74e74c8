use Rattle.list_lemmas.proofs.Places.{slice_get_at}
use Rattle.list_lemmas.proofs.Truth.{on_true_weaker}
use Rattle.edge_match.proofs.HarmlessParts.{class_known}
use Rattle.edge_match.proofs.class_form.is_known_harmless.Goals as goal

pub returns-in-Some : goal.returns-in-Some
returns-in-Some c =
    let classes = c.args.plan.now.classes in
    let l = rw c.as_slice.ensures at c.in-Some.ensures.lookup in
    let here = slice_get_at classes c.args.class c.in-Some.found.now l.3.0 l.1 in
    on_true_weaker c.is_harmless_class.result (class_known c.args.plan.now c.args.class c.in-Some.found.now here) c.is_harmless_class.ensures
