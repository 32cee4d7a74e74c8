-- The resolver of expressions returns the term of an expression, or the least of the faults of its names.
use Rattle.std.proofs.Common.{◌≡◌, List, [], ◌∷◌, ◌++◌, Option, Some, None, Result, Ok, Err, refl, sym, ap, ◌∙◌, subst}
use Rattle.std.specs.Option.{IsSome}
use Rattle.std.specs.Result.{result_ok}
use Rattle.std.proofs.lemmas.List.{append-nil}
use Rattle.std.proofs.lemmas.Option.{same_Some}
use Rattle.term_core.specs.Term.{Term}
use Rattle.term_core.specs.Term as term
use Rattle.ptg_base.specs.declared.refusal.Refusal.{Refusal}
use Rattle.ptg_base.specs.declared.refusal.Refusal.TheVariants.{Fault, OutOfMemory}
use Rattle.ptg_base.specs.Returns.{Returns, and_then}
use Rattle.jdf_tree.specs.Expression.{Expression, Num, Name, Elem, Unary, Binary, Choose}
use Rattle.expr_names.specs.Symbols.{Resolved, fault_at}
use Rattle.expr_names.specs.Meanings.{value_of}
use Rattle.expr_names.specs.Expressions as expression
use Rattle.expr_names.specs.Expressions.{together}
use Rattle.type_rules.specs.TreesAndFaults.{JdfFault, DefTree, UnknownName}
use Rattle.type_rules.specs.Faults.{earlier, earlier_of, first_fault, fault, resolved_faults}
use Rattle.type_rules.specs.Returns.{ReturnsChecked}
use Rattle.type_rules.specs.Names.{Job, meaning_of}
use Rattle.type_rules.specs.Expressions.{symbols_of, term_of, expression_faults}
use Rattle.type_rules.proofs.First.{first_append}

-- a part without faults, or the first of the part's faults
abbrev pub Agrees : {A : Type 0} → Resolved A → Option A → List JdfFault → Type 0
Agrees (Ok x) o fs = (o ≡ Some x) × (fs ≡ [])
Agrees (Err f) o fs = (o ≡ None) × (first_fault fs ≡ Some f)

-- a part without faults exists
pub faultless_there : {A : Type 0} (r : Resolved A) (o : Option A) (fs : List JdfFault) → Agrees r o fs → fs ≡ [] → IsSome o
faultless_there (Ok x) o fs h e = rw (h.0) refl
faultless_there (Err f) o fs h e = let none = sym (ap first_fault e) ∙ h.1 in absurd cc

-- a part that exists has no faults
pub there_faultless : {A : Type 0} (r : Resolved A) (o : Option A) (fs : List JdfFault) → Agrees r o fs → (x : A) → o ≡ Some x → fs ≡ []
there_faultless (Ok y) o fs h x e = h.1
there_faultless (Err f) o fs h x e = let some = sym h.0 ∙ e in absurd cc

-- a part that exists is the resolved one
pub resolved_is : {A : Type 0} (r : Resolved A) (o : Option A) (fs : List JdfFault) → Agrees r o fs → (x : A) → o ≡ Some x → r ≡ Ok x
resolved_is (Ok y) o fs h x e = ap Ok (same_Some y x (sym h.0 ∙ e))
resolved_is (Err f) o fs h x e = let some = sym h.0 ∙ e in absurd cc

-- these are the faults of a result: none for a part, and for a fault those whose first one it is
abbrev AreFaultsOf : {A : Type 0} → Resolved A → List JdfFault → Type 0
AreFaultsOf (Ok x) fs = fs ≡ []
AreFaultsOf (Err f) fs = first_fault fs ≡ Some f

by_faults : {A : Type 0} (r : Resolved A) (fs : List JdfFault) → AreFaultsOf r fs → Agrees r (result_ok r) fs
by_faults (Ok x) fs h = (refl, h)
by_faults (Err f) fs h = (refl, h)

-- the faults of two parts
pair_faults : {A B : Type 0} (r : Resolved A) (q : Resolved B) (fs gs : List JdfFault) → AreFaultsOf r fs
    → AreFaultsOf q gs → AreFaultsOf (together earlier r q) (fs ++ gs)
pair_faults (Ok x) (Ok y) fs gs h k = ap (λ l. l ++ gs) h ∙ k
pair_faults (Ok x) (Err g) fs gs h k = ap (λ l. first_fault (l ++ gs)) h ∙ k
pair_faults (Err f) (Ok y) fs gs h k = ap (λ l. first_fault (fs ++ l)) k ∙ (ap first_fault (append-nil fs) ∙ h)
pair_faults (Err f) (Err g) fs gs h k = first_append fs gs ∙ (ap (λ u. earlier_of u (first_fault gs)) h ∙ ap (earlier_of (Some f)) k)

-- an operation that cannot fail adds no faults
mapped_faults : {A B : Type 0} (f : A → B) (r : Resolved A) (fs : List JdfFault) → AreFaultsOf r fs → AreFaultsOf (and_then r (λ x. Ok (f x))) fs
mapped_faults f (Ok x) fs h = h
mapped_faults f (Err e) fs h = h

module _ (job : Job) (seen : List DefTree) where
  expression_faults_are : (e : Expression) → AreFaultsOf (expression.term_of (symbols_of job seen) e) (expression_faults job seen e)
  expression_faults_are (Num z spot) = refl
  expression_faults_are (Name w) = go (value_of w (meaning_of job seen w.text))
    where
      go : (r : Resolved Term) → AreFaultsOf r (resolved_faults r)
      go (Ok t) = refl
      go (Err f) = refl
  expression_faults_are (Elem w at) = go (expression.term_of (symbols_of job seen) at) (expression_faults_are at)
    where
      go : (r : Resolved Term) → AreFaultsOf r (expression_faults job seen at)
          → AreFaultsOf (and_then (together earlier (fault_at w UnknownName) r) (λ x. Ok (term.Elem x.0 x.1)))
          (fault w.spot UnknownName ∷ expression_faults job seen at)
      go (Ok t) h = ap (λ l. first_fault (fault w.spot UnknownName ∷ l)) h
      go (Err f) h = ap (earlier_of (Some (fault w.spot UnknownName))) h
  expression_faults_are (Unary o a spot) =
      mapped_faults (term.Unary o) (expression.term_of (symbols_of job seen) a) (expression_faults job seen a)
      (expression_faults_are a)
  expression_faults_are (Binary o a b) =
      mapped_faults (λ (x : Term × Term). term.Binary o x.0 x.1)
      (together earlier (expression.term_of (symbols_of job seen) a)
      (expression.term_of (symbols_of job seen) b))
      (expression_faults job seen a ++ expression_faults job seen b)
      (pair_faults (expression.term_of (symbols_of job seen) a) (expression.term_of (symbols_of job seen) b)
      (expression_faults job seen a) (expression_faults job seen b) (expression_faults_are a)
      (expression_faults_are b))
  expression_faults_are (Choose c a b) =
      let branches = together earlier (expression.term_of (symbols_of job seen) a) (expression.term_of (symbols_of job seen) b) in
      let faults = expression_faults job seen a ++ expression_faults job seen b in
      mapped_faults (λ (x : Term × (Term × Term)). term.Choose x.0 x.1.0 x.1.1)
      (together earlier (expression.term_of (symbols_of job seen) c) branches)
      (expression_faults job seen c ++ faults)
      (pair_faults (expression.term_of (symbols_of job seen) c) branches (expression_faults job seen c) faults (expression_faults_are c)
      (pair_faults (expression.term_of (symbols_of job seen) a) (expression.term_of (symbols_of job seen) b)
      (expression_faults job seen a) (expression_faults job seen b) (expression_faults_are a)
      (expression_faults_are b)))

  pub agrees : (e : Expression) → Agrees (expression.term_of (symbols_of job seen) e) (term_of job seen e) (expression_faults job seen e)
  unfolding term_of
  agrees e = by_faults (expression.term_of (symbols_of job seen) e) (expression_faults job seen e) (expression_faults_are e)

  pub term_checked : (r : Result Term (Refusal JdfFault)) (e : Expression)
      → Returns (λ x. x) r (expression.term_of (symbols_of job seen) e)
      → ReturnsChecked r (term_of job seen e) (expression_faults job seen e)
  term_checked r e h = by_result r (expression.term_of (symbols_of job seen) e) (agrees e) h
    where
      by_result : (r : Result Term (Refusal JdfFault)) (given : Resolved Term)
          → Agrees given (term_of job seen e) (expression_faults job seen e) → Returns (λ x. x) r given
          → ReturnsChecked r (term_of job seen e) (expression_faults job seen e)
      by_result (Ok x) given a h = let k : Agrees (Ok x) (term_of job seen e) (expression_faults job seen e) =
          subst (λ g. Agrees g (term_of job seen e) (expression_faults job seen e)) h a in k
      by_result (Err OutOfMemory) given a h = tt
      by_result (Err (Fault f)) given a h =
          let k : Agrees {A = Term} (Err f) (term_of job seen e) (expression_faults job seen e) =
          subst (λ g. Agrees g (term_of job seen e) (expression_faults job seen e)) h a in k.1
