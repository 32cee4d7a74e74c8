-- Tokens are the text of at most one body, or have at most one first fault, never both.
use Rattle.std.proofs.Common.{◌≡◌, ℕ, ◌-◌, List, length, Ok, Err, sym, ap, ◌∙◌, inl, inr, arith}
use Rattle.std.specs.Prelude.{None}
use Rattle.jdf_lex.specs.declared.fault.JdfFault.{JdfFault}
use Rattle.grammar_core.specs.declared.token.Spot.{Spot}
use Rattle.grammar_core.specs.declared.token.Token.{Token}
use Rattle.grammar_core.specs.declared.code.Code.{Code}
use Rattle.grammar_core.specs.Production.{IsText}
use Rattle.grammar_core.proofs.CallerLemmas.{fault_index}
use Rattle.jdf_tree.specs.BodyGrammar.{body}
use Rattle.jdf_tree.specs.Grammar.{productions}
use Rattle.jdf_tree.specs.Statements.{Statements}
use Rattle.body_lang.proofs.WholeText.{only, fault_read, one_tree, no_fault, one_place}
use Rattle.body_lang.specs.Environment.{Environment}
use Rattle.body_lang.specs.Statements.{body_of}
use Rattle.body_lang.specs.Broken.{broken_fault}
use Rattle.body_lang.specs.Body.{IsNameFault, IsTextFault}
use Rattle.body_lang.specs.Laws.{OneBody, OneFault, BodyOrFault}
use Rattle.list_lemmas.proofs.Options.{same_Ok, same_Err, Ok≢Err}

-- a body has one tree
same_body : (scope : Environment) (tokens : List Token) (t u : Statements) → IsText productions body tokens t None
    → IsText productions body tokens u None → body_of scope t ≡ body_of scope u
same_body scope tokens t u h k = ap (body_of scope) (one_tree tokens t u (only tokens t h) k)

pub one_body : OneBody
one_body scope tokens x y h k = same_Ok x y (sym h.named ∙ (same_body scope tokens h.tree k.tree h.text k.text ∙ k.named))

names_alike : (scope : Environment) (tokens : List Token) (f g : JdfFault) → IsNameFault scope tokens f → IsNameFault scope tokens g → f ≡ g
names_alike scope tokens f g h k = same_Err f g (sym h.named ∙ (same_body scope tokens h.tree k.tree h.text k.text ∙ k.named))

texts_alike : (scope : Environment) (tokens : List Token) (finish : Spot) (f g : JdfFault)
    → IsTextFault scope tokens finish f → IsTextFault scope tokens finish g → f ≡ g
texts_alike scope tokens finish f g h k =
    let within = fault_index productions body tokens h.token_index h.code h.broken in
    let same = one_place tokens (length tokens - h.token_index) k.token_index h.code k.code (fault_read tokens h.token_index h.code h.broken) k.broken in
    let index : h.token_index ≡ k.token_index = omega (arith, same.0, within) in
    same_Err f g
    (sym h.first ∙ (ap (λ (p : ℕ). broken_fault scope tokens finish p h.code) index
    ∙ (ap (λ (c : Code). broken_fault scope tokens finish k.token_index c) same.1 ∙ k.first)))

pub one_fault : OneFault
one_fault scope tokens finish f g (inl h) (inl k) = names_alike scope tokens f g h k
one_fault scope tokens finish f g (inl h) (inr k) = absurd (no_fault tokens h.tree k.token_index k.code (only tokens h.tree h.text) k.broken)
one_fault scope tokens finish f g (inr h) (inl k) = absurd (no_fault tokens k.tree h.token_index h.code (only tokens k.tree k.text) h.broken)
one_fault scope tokens finish f g (inr h) (inr k) = texts_alike scope tokens finish f g h k

pub body_or_fault : BodyOrFault
body_or_fault scope tokens finish x f h (inl k) = Ok≢Err x f (sym h.named ∙ (same_body scope tokens h.tree k.tree h.text k.text ∙ k.named))
body_or_fault scope tokens finish x f h (inr k) = no_fault tokens h.tree k.token_index k.code (only tokens h.tree h.text) k.broken
