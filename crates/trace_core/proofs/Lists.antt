-- A well spelled text is that of the tasks whose rows it has, and of no other list.
use Rattle.std.proofs.Common.{◌≡◌, ℕ, ◌+◌, ◌≤◌, List, [], ◌∷◌, ◌++◌, map, length, refl, ap, ◌∙◌, arith}
use Rattle.std.specs.List.{AllByRecursion}
use Rattle.std.proofs.lemmas.List.{append-nil}
use Rattle.ptg_base.specs.Task.{Task}
use Rattle.plan_core.specs.declared.plan.Plan.{Plan}
use Rattle.dep_iter.specs.Tasks.{IsTask}
use Rattle.trace_core.specs.Naming.{AreRowsOf}
use Rattle.trace_core.specs.Reading.{IsListOf}
use Rattle.trace_core.specs.Spelling.{IsWellSpelled}
use Rattle.trace_core.specs.Text.{TraceRow, row_of, head_line, rows_text, trace_text}
use Rattle.trace_core.proofs.Named.{one_task}

entries_length : (P : Plan) (ts : List Task) → length (map (row_of P) ts) ≡ length ts
entries_length P [] = refl
entries_length P (t ∷ ts) = omega (arith, entries_length P ts)

pub same_list : (P : Plan) (ts us : List Task) → AllByRecursion (IsTask P) ts → AllByRecursion (IsTask P) us → map (row_of P) ts ≡ map (row_of P) us → ts ≡ us
same_list P [] [] h k e = refl
same_list P [] (u ∷ us) h k e = let never : [] ≡ row_of P u ∷ map (row_of P) us = e in absurd cc
same_list P (t ∷ ts) [] h k e = let never : row_of P t ∷ map (row_of P) ts ≡ [] = e in absurd cc
same_list P (t ∷ ts) (u ∷ us) h k e =
    let whole : row_of P t ∷ map (row_of P) ts ≡ row_of P u ∷ map (row_of P) us = e in
    let first : row_of P t ≡ row_of P u = cc in
    let rest : map (row_of P) ts ≡ map (row_of P) us = cc in
    let same = one_task P (row_of P t) t u (h.0, refl) (k.0, first) in
    let later = same_list P ts us h.1 k.1 rest in
    λ i. same i ∷ later i

-- a well spelled text whose rows are those of these tasks is their text
pub is_list : (P : Plan) (text : List ℕ) (es : List TraceRow) (ts : List Task) → length text ≤ 16777216
    → IsWellSpelled text es → AreRowsOf P es ts → IsListOf P text ts
unfolding trace_text
is_list P text es ts le w rows = record {
  at_most = le;
  is_text =
      w.split ∙ ap (λ l. head_line (length es) ++ l) (append-nil (rows_text es)) ∙ ap (λ l. head_line (length l) ++ rows_text l) rows.named
      ∙ ap (λ k. head_line k ++ rows_text (map (row_of P) ts)) (entries_length P ts);
  tasks = rows.tasks;
  once = rows.once;
}
