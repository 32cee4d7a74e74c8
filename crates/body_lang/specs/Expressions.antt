-- What the names in the expressions of a body are resolved to, or which fault they have.
-- Carried by: `resolve`.
-- Tested by: `body_names.txt`, `body_variables.txt`.
use Rattle.std.specs.Prelude.{ℕ, List, Option, Some, None, Ok, slice_get}
use Rattle.jdf_lex.specs.declared.fault.JdfCode.TheVariants.{UnknownName, WrongKind, CtlMixed, ReadAssigned, NotAssignable}
use Rattle.term_core.specs.declared.flow.FlowKind.{FlowKind}
use Rattle.term_core.specs.declared.flow.FlowKind.TheVariants as kind
use Rattle.term_core.specs.Term.{Term}
use Rattle.jdf_tree.specs.declared.expression.Word.{Word}
use Rattle.jdf_tree.specs.Expression.{Expression}
use Rattle.expr_names.specs.Symbols.{Resolved, SymbolTable, fault_at}
pub use Rattle.expr_names.specs.Meanings.{value_of}
use Rattle.expr_names.specs.Expressions as expression
use Rattle.body_lang.specs.declared.variable.Variable.{Variable}
use Rattle.expr_names.specs.declared.meaning.Meaning.{Meaning}
use Rattle.expr_names.specs.declared.meaning.Meaning.TheVariants as meaning
use Rattle.body_lang.specs.Environment.{Environment}
use Rattle.body_lang.specs.declared.scope.FlowName.{FlowName}
use Rattle.body_lang.specs.Meanings.{meaning_of, flow_named}

-- the slot of a name that a statement assigns to
abbrev pub slot_of : Word → Meaning → Resolved ℕ
slot_of w (meaning.Variable n) = Ok n
slot_of w (meaning.LoopVariable n) = fault_at w NotAssignable
slot_of w (meaning.Local n) = fault_at w NotAssignable
slot_of w (meaning.Integer z) = fault_at w NotAssignable
slot_of w meaning.Collection = fault_at w WrongKind
slot_of w meaning.Nothing = fault_at w UnknownName

-- a flow whose elements are read: its kind may be any with a tile
abbrev pub readable : Word → FlowKind → ℕ → Resolved ℕ
readable w kind.Ctl n = fault_at w CtlMixed
readable w _ n = Ok n

-- a flow whose elements are assigned to: its kind has a tile and is not only read
abbrev pub writable : Word → FlowKind → ℕ → Resolved ℕ
writable w kind.Ctl n = fault_at w CtlMixed
writable w kind.Read n = fault_at w ReadAssigned
writable w _ n = Ok n

-- the use of a flow, if there is such a flow
abbrev pub if_flow : (Word → FlowKind → ℕ → Resolved ℕ) → Word → ℕ → Option FlowName → Resolved ℕ
if_flow use_of w n None = fault_at w UnknownName
if_flow use_of w n (Some flow) = use_of w flow.kind n

-- the flow of a name, for a use
abbrev pub flow_by : (Word → FlowKind → ℕ → Resolved ℕ) → Environment → Word → Option ℕ → Resolved ℕ
flow_by use_of scope w None = fault_at w UnknownName
flow_by use_of scope w (Some n) = if_flow use_of w n (slice_get scope.flows n)

-- the flow that a name before an index names, if its tile is read
abbrev pub read_flow : Environment → Word → Resolved ℕ
read_flow scope w = flow_by readable scope w (flow_named scope w.text)

-- the flow that a name before an index names, if its tile is written
abbrev pub written_flow : Environment → Word → Resolved ℕ
written_flow scope w = flow_by writable scope w (flow_named scope w.text)

-- what names mean at a point where these variables are seen: a name before an index names a flow; the fault that comes
-- first in the text's order is reported
abbrev pub symbols_of : Environment → List Variable → SymbolTable
symbols_of scope seen =
    record {
      meaning = meaning_of scope seen;
      flow = λ w. read_flow scope w;
      reported = λ first _. first;
    }

-- the term of an expression at a point where these variables are seen
abbrev pub term_of : Environment → List Variable → Expression → Resolved Term
term_of scope seen e = expression.term_of (symbols_of scope seen) e
