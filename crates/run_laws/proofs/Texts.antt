-- The text of a list of tasks is well spelled, and that of no other list; that of a whole order is short enough.
use Rattle.std.proofs.Common.{◌≡◌, ◌+◌, ◌≤◌, List, ◌++◌, map, length, ap, sym, ◌∙◌, subst, arith, []}
use Rattle.std.specs.List.{AllByRecursion}
use Rattle.std.proofs.lemmas.List.{append-nil, length-map}
use Rattle.ptg_base.specs.Task.{Task}
use Rattle.plan_core.specs.declared.plan.Plan.{Plan}
use Rattle.dep_iter.specs.Tasks.{IsTask, all_tasks}
use Rattle.trace_core.specs.Spelling.{IsSpelled, IsWellSpelled}
use Rattle.trace_core.specs.Text.{row_of, head_line, rows_text, trace_text}
use Rattle.trace_core.proofs.CallerLemmas.{one_spelling, same_list}
use Rattle.coll_data.specs.Data.{Data}
use Rattle.list_lemmas.proofs.Distinct.{no_longer}
use Rattle.dep_iter.specs.Consistent.{IsConsistent}
use Rattle.dep_iter.proofs.CallerLemmas.{listed}
use Rattle.chain_cert.proofs.CallerLemmas.{legal_once, legal_tasks}
use Rattle.flow_meaning.specs.Order.{IsWholeOrder}

pub spelled_text : (P : Plan) (ts : List Task) → AllByRecursion IsSpelled (map (row_of P) ts) → length ts ≤ 1000000
    → IsWellSpelled (trace_text P ts) (map (row_of P) ts)
unfolding trace_text
spelled_text P ts rows le =
    let es = map (row_of P) ts in
    let n = length-map ts (row_of P) in
    record {
      at_most = omega (arith, n);
      split = ap (λ k. head_line k ++ rows_text es) (sym n) ∙ ap (λ l. head_line (length es) ++ l) (sym (append-nil (rows_text es)));
      spelled = rows;
    }

pub one_list : (P : Plan) (ts us : List Task) → AllByRecursion (IsTask P) ts → AllByRecursion (IsTask P) us
    → AllByRecursion IsSpelled (map (row_of P) ts) → AllByRecursion IsSpelled (map (row_of P) us) → length ts ≤ 1000000
    → length us ≤ 1000000 → trace_text P ts ≡ trace_text P us → ts ≡ us
one_list P ts us h k rows lines le ge e =
    let w = spelled_text P ts rows le in
    let v = spelled_text P us lines ge in
    same_list P ts us h k (one_spelling (trace_text P us) (map (row_of P) ts) (map (row_of P) us)
    (subst (λ text. IsWellSpelled text (map (row_of P) ts)) e w) v)

pub whole_length : (P : Plan) (G : Data) → IsConsistent P → (ts : List Task) → IsWholeOrder P G ts → length ts ≤ 1000000
whole_length P G con ts w =
    let few = no_longer ts (all_tasks P) (legal_once P [] ts w.legal) (λ t i. (listed P t).0 (legal_tasks P [] ts w.legal t i)) in
    let limit = con.tasks_at_most in
    omega arith
