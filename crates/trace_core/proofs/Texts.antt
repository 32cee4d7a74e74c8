-- How the text of a trace is built.
use Rattle.std.proofs.Common.{◌≡◌, ◌≤◌, ℕ, List, [], ◌∷◌, ◌++◌, codes, length, map, take, ap, sym, ◌∙◌, append_assoc, Some, slice_get}
use Rattle.std.proofs.lemmas.List.{take_all}
use Rattle.ptg_base.specs.Task.{Task}
use Rattle.plan_core.specs.declared.class.ClassPlan.{ClassPlan}
use Rattle.plan_core.specs.declared.plan.Plan.{Plan}
use Rattle.trace_core.specs.Rows.{number_fields}
use Rattle.trace_core.specs.Text.{row_of, head_line, row_line, rows_text, trace_text}
use Rattle.trace_core.proofs.Named.{class_name_at}
use Rattle.trace_core.proofs.Spelled.{row_line_is}

-- a row is its word, its name, its numbers and LF
pub row_put : (P : Plan) (t : Task) (c : ClassPlan) (out a b d e name : List ℕ) → slice_get P.classes t.class ≡ Some c → name ≡ c.name
    → a ≡ out ++ codes "ran," → b ≡ a ++ name → d ≡ b ++ number_fields t.params → e ≡ d ++ 10 ∷ [] → e ≡ out ++ row_line (row_of P t)
row_put P t c out a b d e name is named p q r s =
    let word : List ℕ = codes "ran," in
    let fields = number_fields t.params in
    let same : name ≡ (row_of P t).name = named ∙ sym (class_name_at P t.class c is) in
    s ∙ ap (λ x. x ++ 10 ∷ []) (r ∙ ap (λ x. x ++ fields) (q ∙ ap (λ x. x ++ name) p))
    ∙ joined out word name fields
    ∙ ap (λ x. out ++ ((word ++ (x ++ fields)) ++ 10 ∷ [])) same
    ∙ ap (λ x. out ++ x) (sym (row_line_is (row_of P t)))
  where
    joined : (out word name fields : List ℕ) → (((out ++ word) ++ name) ++ fields) ++ 10 ∷ [] ≡ out ++ ((word ++ (name ++ fields)) ++ 10 ∷ [])
    joined out word name fields = simp append_assoc

pub whole_text : (P : Plan) (ts : List Task) (n : ℕ) (out text : List ℕ) → length ts ≤ n
    → out ≡ head_line (length ts) ++ rows_text (map (row_of P) (take n ts)) → text ≡ out → text ≡ trace_text P ts
unfolding trace_text
whole_text P ts n out text le is same = same ∙ is ∙ ap (λ us. head_line (length ts) ++ rows_text (map (row_of P) us)) (take_all n ts le)
