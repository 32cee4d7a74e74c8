-- The result for a body is the one body whose text the tokens are, or their one first fault.
use Rattle.std.proofs.Common.{◌≡◌, ℕ, ◌-◌, List, length, Result, Ok, Err, IfOk, refl, ap, ◌∙◌, inl, inr}
use Rattle.grammar_core.specs.declared.fault.ReadFault.{ReadFault}
use Rattle.grammar_core.specs.declared.token.Spot.{Spot}
use Rattle.grammar_core.specs.declared.token.Token.{Token}
use Rattle.ptg_base.specs.declared.refusal.Refusal.{Refusal}
use Rattle.ptg_base.specs.declared.refusal.Refusal.TheVariants.{Fault, OutOfMemory}
use Rattle.ptg_base.specs.Returns.{FindsOrRefuses, Returns, ReturnsRefusal}
use Rattle.jdf_lex.specs.declared.fault.JdfFault.{JdfFault}
use Rattle.term_core.specs.declared.body.Body.{Body}
use Rattle.jdf_tree.specs.Statements.{Statements}
use Rattle.expr_names.specs.Symbols.{Resolved}
use Rattle.body_lang.specs.Text.{IsTree, IsFaultBefore}
use Rattle.body_lang.specs.Environment.{Environment}
use Rattle.body_lang.specs.Statements.{body_of}
use Rattle.body_lang.specs.Broken.{broken_fault}
use Rattle.body_lang.specs.Body.{IsBody, IsBodyFault}
use Rattle.body_lang.proofs.Once.{one_body, one_fault, body_or_fault}

abbrev Answer : Type 0
Answer = Result (Body × List (List ℕ)) (Refusal JdfFault)

abbrev answer : Body × List (List ℕ) → Answer
answer x = Ok x

abbrev refused : JdfFault → Answer
refused f = Err (Fault f)

abbrev failed : {A : Type 0} → JdfFault → Resolved A
failed f = Err f

module _ (scope : Environment) (tokens : List Token) (finish : Spot) where
  abbrev IsExact : Answer → Type 0
  IsExact r = FindsOrRefuses (IsBody scope tokens) (IsBodyFault scope tokens finish) r

  exactly : (r : Answer) → IfOk r (IsBody scope tokens) → ((f : JdfFault) → r ≡ Err (Fault f) → IsBodyFault scope tokens finish f) → IsExact r
  exactly (Ok x) h k =
      record {
        found = h;
        only = λ y i. inl (ap answer (one_body scope tokens x y h i));
        fault = k;
        refused = λ f i. absurd (body_or_fault scope tokens finish x f h i);
      }
  exactly (Err (Fault g)) h k =
      record {
        found = tt;
        only = λ y i. absurd (body_or_fault scope tokens finish y g i (k g refl));
        fault = k;
        refused = λ f i. inl (ap refused (one_fault scope tokens finish g f (k g refl) i));
      }
  exactly (Err OutOfMemory) h k = record { found = tt; only = λ y i. inr refl; fault = k; refused = λ f i. inr refl }

  -- the result for a text that has a tree
  pub of_tree : (t : Statements) (r : Answer) → IsTree tokens t → Returns (λ x. x) r (body_of scope t) → IsExact r
  of_tree t (Ok x) h e = exactly (Ok x) (record { tree = t; text = h; named = e }) (λ f i. absurd cc)
  of_tree t (Err (Fault g)) h e = exactly (Err (Fault g)) tt (λ f i. let same : g ≡ f = cc in inl (record { tree = t; text = h; named = e ∙ ap failed same }))
  of_tree t (Err OutOfMemory) h e = exactly (Err OutOfMemory) tt (λ f i. absurd cc)

  -- the result for a text that has a fault
  pub of_broken : (x : ReadFault) (r : Refusal JdfFault) → IsFaultBefore tokens x
      → ReturnsRefusal r (broken_fault scope tokens finish (length tokens - x.left) x.code) → IsExact (Err r)
  of_broken x (Fault g) h e =
      exactly (Err (Fault g)) tt
      (λ f i. let same : g ≡ f = cc in inr (record { token_index = length tokens - x.left; code = x.code; broken = h.first; first = e ∙ ap failed same }))
  of_broken x OutOfMemory h e = exactly (Err OutOfMemory) tt (λ f i. absurd cc)
