-- Definitions that see those before them, in lists that grow by one.
use Rattle.std.proofs.Common.{◌≡◌, ℕ, ◌+◌, ◌<◌, List, [], ◌∷◌, ◌++◌, take, length, get_or, Option, Some, None, Result, refl, sym, ◌∙◌, ap, subst}
use Rattle.std.proofs.lemmas.List.{take_more, append-nil, append_assoc}
use Rattle.ptg_base.specs.declared.refusal.Refusal.{Refusal}
use Rattle.term_core.specs.declared.space.Def.{Def}
use Rattle.type_rules.specs.TreesAndFaults.{JdfFault, Word, DefTree}
use Rattle.type_rules.specs.Names.{Job}
use Rattle.type_rules.specs.Returns.{ReturnsChecked, both}
use Rattle.type_rules.specs.Definitions.{definition_faults, definitions_faults, definition_of, definitions_of}

defined_more : (job : Job) (before defs : List DefTree) (d : DefTree)
    → definitions_of job before (defs ++ d ∷ []) ≡ both (λ xs x. xs ++ x ∷ []) (definitions_of job before defs) (definition_of job (before ++ defs) d.value)
defined_more job before [] d = go (definition_of job before d.value)
    ∙ ap (λ l. both (λ xs x. xs ++ x ∷ []) (Some []) (definition_of job l d.value)) (sym (append-nil before))
  where
    go : (o : Option Def) → both (λ x xs. x ∷ xs) o (Some []) ≡ both (λ xs x. xs ++ x ∷ []) (Some []) o
    go None = refl
    go (Some x) = refl
defined_more job before (e ∷ defs) d =
    ap (both (λ x xs. x ∷ xs) (definition_of job before e.value))
    (defined_more job (before ++ e ∷ []) defs d
    ∙ ap (λ l. both (λ xs x. xs ++ x ∷ []) (definitions_of job (before ++ e ∷ []) defs) (definition_of job l d.value)) (append_assoc before (e ∷ []) defs))
    ∙ go (definition_of job before e.value) (definitions_of job (before ++ e ∷ []) defs) (definition_of job (before ++ e ∷ defs) d.value)
  where
    go : (a : Option Def) (b : Option (List Def)) (c : Option Def)
        → both (λ x xs. x ∷ xs) a (both (λ xs x. xs ++ x ∷ []) b c)
        ≡ both (λ xs x. xs ++ x ∷ []) (both (λ x xs. x ∷ xs) a b) c
    go None b c = refl
    go (Some y) None c = refl
    go (Some y) (Some ys) None = refl
    go (Some y) (Some ys) (Some z) = refl

faults_more : (job : Job) (params : List Word) (before defs : List DefTree) (d : DefTree)
    → definitions_faults job params before (defs ++ d ∷ []) ≡ definitions_faults job params before defs ++ definition_faults job params (before ++ defs) d
faults_more job params before [] d = append-nil (definition_faults job params before d) ∙ ap (λ l. definition_faults job params l d) (sym (append-nil before))
faults_more job params before (e ∷ defs) d =
    let first = definition_faults job params before e in
    ap (λ l. first ++ l)
    (faults_more job params (before ++ e ∷ []) defs d
    ∙ ap (λ l. definitions_faults job params (before ++ e ∷ []) defs ++ definition_faults job params l d) (append_assoc before (e ∷ []) defs))
    ∙ sym (append_assoc first (definitions_faults job params (before ++ e ∷ []) defs) (definition_faults job params (before ++ e ∷ defs) d))

-- the result for one more definition
pub next_definition : (job : Job) (params : List Word) (defs : List DefTree) (i : ℕ) (d : DefTree)
    (r : Result (List Def) (Refusal JdfFault)) → i < length defs → d ≡ get_or defs i d
    → ReturnsChecked r (both (λ xs x. xs ++ x ∷ []) (definitions_of job [] (take i defs))
    (definition_of job (take i defs) d.value))
    (definitions_faults job params [] (take i defs) ++ definition_faults job params (take i defs) d)
    → ReturnsChecked r (definitions_of job [] (take (i + 1) defs)) (definitions_faults job params [] (take (i + 1) defs))
next_definition job params defs i d r lt at h =
    let more : take i defs ++ d ∷ [] ≡ take (i + 1) defs = ap (λ y. take i defs ++ y ∷ []) at ∙ sym (take_more defs i d lt) in
    subst (λ l. ReturnsChecked r (definitions_of job [] l) (definitions_faults job params [] l)) more
    (subst (λ o. ReturnsChecked r o (definitions_faults job params [] (take i defs ++ d ∷ []))) (sym (defined_more job [] (take i defs) d))
    (subst (λ l. ReturnsChecked r (both (λ xs x. xs ++ x ∷ []) (definitions_of job [] (take i defs))
    (definition_of job (take i defs) d.value)) l) (sym (faults_more job params [] (take i defs) d)) h))
