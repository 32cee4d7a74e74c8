-- Laws of the definitions of a body, of its first fault, and of its names and trap words.
use Rattle.std.specs.Prelude.{◌≡◌, ◌≢◌, ℕ, ◌+◌, List, [], length, map, slice_get, Some, None, ◌<◌, ◌++◌, ◌⊎◌, Ok}
use Rattle.jdf_lex.specs.declared.fault.JdfCode.TheVariants.{TooManyVars}
use Rattle.jdf_lex.specs.declared.fault.JdfFault.{JdfFault}
use Rattle.grammar_core.specs.declared.token.Token.{Token}
use Rattle.grammar_core.specs.Production.{IsText}
use Rattle.term_core.specs.declared.body.Body.{Body}
use Rattle.jdf_tree.specs.BodyGrammar.{body}
use Rattle.jdf_tree.specs.Grammar.{productions}
use Rattle.jdf_tree.specs.Statements.{Statements}
use Rattle.body_lang.specs.Environment.{Environment}
use Rattle.body_lang.specs.Statements.{body_of}
use Rattle.body_lang.specs.TokenScan.{fault_of, front_fault}
use Rattle.body_lang.specs.Body.{IsBody, IsNameFault}
use Rattle.body_lang.specs.TrapWords.{words_of, numbers_of, words_in_order}
use Rattle.body_laws.specs.Declarations.{declarations}

-- A text without a fault never declares too many variables, so no name is refused because of their number.
abbrev pub NameNeverTooMany : Type 0
NameNeverTooMany =
    (scope : Environment) (tokens : List Token) (f : JdfFault) → IsNameFault scope tokens f → f.code ≢ TooManyVars

-- A body has a slot for each local of the class and for each variable that it declares.
abbrev pub SlotForEach : Type 0
SlotForEach =
    (scope : Environment) (tokens : List Token) (x : Body × List (List ℕ)) (h : IsBody scope tokens x)
    → x.0.slots ≡ length scope.locals + declarations h.tree

-- In a text without a fault, the names have the same first fault by the tokens beside them as by the tree, or none by
-- both.
abbrev pub TokensAgreeWithTree : Type 0
TokensAgreeWithTree =
    (scope : Environment) (tokens : List Token) (tree : Statements) → IsText productions body tokens tree None
    → front_fault scope tokens (length tokens) ≡ fault_of (body_of scope tree)

-- The names at a front of such a text have no fault, or the fault of the tree.
abbrev pub FrontsAgreeWithTree : Type 0
FrontsAgreeWithTree =
    (scope : Environment) (tokens : List Token) (tree : Statements) (n : ℕ) → IsText productions body tokens tree None
    → (front_fault scope tokens n ≡ Ok tt) ⊎ (front_fault scope tokens n ≡ fault_of (body_of scope tree))

-- Of the tokens after a front, only the next one changes how the names in the front are judged.
abbrev pub OnlyTheNextCounts : Type 0
OnlyTheNextCounts =
    (scope : Environment) (front rest other : List Token) (n : ℕ) → n < length front
    → front_fault scope (front ++ rest) n ≡ front_fault scope (front ++ other) n

-- Each trap of a body has the number of the word that it has in the text.
abbrev pub OwnWords : Type 0
OwnWords = (scope : Environment) (tokens : List Token) (x : Body × List (List ℕ)) (h : IsBody scope tokens x)
    → map (λ (n : ℕ). slice_get x.1 n) (numbers_of x.0.statements) ≡ map (λ (w : List ℕ). Some w) (words_of h.tree)

-- The trap words of a body are those of its text, each once, in the order of their first use.
abbrev pub WordsOnce : Type 0
WordsOnce =
    (scope : Environment) (tokens : List Token) (x : Body × List (List ℕ)) (h : IsBody scope tokens x)
    → x.1 ≡ words_in_order [] (words_of h.tree)
