-- What the names in expressions mean. Source: the JDF documentation.
-- Carried by: `term_of`, and with it `type_check::check`, `body_lang::resolve`.
-- Tested by: `type_faults.txt`, `body_names.txt`.
use Rattle.std.specs.Prelude.{ℕ, List, Result, Err}
use Rattle.jdf_lex.specs.declared.fault.JdfCode.{JdfCode}
use Rattle.jdf_lex.specs.declared.fault.JdfFault.{JdfFault}
use Rattle.jdf_tree.specs.declared.expression.Word.{Word}
use Rattle.expr_names.specs.declared.meaning.Meaning.{Meaning}

-- what is resolved, or else a fault
abbrev pub Resolved : Type 0 → Type 0
Resolved A = Result A JdfFault

-- a fault at a name
abbrev pub fault_at : {A : Type 0} → Word → JdfCode → Resolved A
fault_at w code = Err (record { spot = w.spot; code = code })

-- what the names in one expression mean, and which of two faults is reported
pub record SymbolTable : Type 0 where
  -- what a name means if it is not before an index
  pub meaning : List ℕ → Meaning
  -- the number of the flow that a name before an index names, or the fault of the name
  pub flow : Word → Resolved ℕ
  -- which fault is reported if two parts of an expression have one each
  pub reported : JdfFault → JdfFault → JdfFault
