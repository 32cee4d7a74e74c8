-- The expressions of a JDF with their names resolved, or the fault that is reported of their names. Source: the JDF
-- documentation; that one fault is reported is this project's own choice.
-- Carried by: `term_of`, and with it `type_check::check`, `body_lang::resolve`.
-- Tested by: `type_faults.txt`, `body_names.txt`.
use Rattle.std.specs.Prelude.{Ok, Err}
use Rattle.jdf_lex.specs.declared.fault.JdfFault.{JdfFault}
use Rattle.term_core.specs.Term.{Term}
use Rattle.term_core.specs.Term as term
use Rattle.ptg_base.specs.Returns.{and_then}
use Rattle.jdf_tree.specs.Expression.{Expression, Num, Name, Elem, Unary, Binary, Choose}
use Rattle.expr_names.specs.Symbols.{Resolved, SymbolTable}
use Rattle.expr_names.specs.Meanings.{value_of}

-- two parts of an expression: both of them, or the fault of one, or whichever of two faults is reported
abbrev pub together : {A B : Type 0} → (JdfFault → JdfFault → JdfFault) → Resolved A → Resolved B → Resolved (A × B)
together reported (Ok x) (Ok y) = Ok (x, y)
together reported (Ok x) (Err g) = Err g
together reported (Err f) (Ok y) = Err f
together reported (Err f) (Err g) = Err (reported f g)

-- the term of an expression whose names have these meanings, or the fault that is reported
abbrev pub term_of : SymbolTable → Expression → Resolved Term
term_of names (Num z spot) = Ok (term.Num z)
term_of names (Name w) = value_of w (names.meaning w.text)
term_of names (Elem w at) =
    and_then (together names.reported (names.flow w) (term_of names at)) (λ (flow, index). Ok (term.Elem flow index))
term_of names (Unary o a spot) = and_then (term_of names a) (λ x. Ok (term.Unary o x))
term_of names (Binary o a b) =
    and_then (together names.reported (term_of names a) (term_of names b))
    (λ (left, right). Ok (term.Binary o left right))
term_of names (Choose c a b) =
    and_then (together names.reported (term_of names c) (together names.reported (term_of names a) (term_of names b)))
    (λ (condition, (first, second)). Ok (term.Choose condition first second))
