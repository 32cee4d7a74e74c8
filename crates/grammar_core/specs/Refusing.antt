-- Why the code could not read tokens, for its contracts.
use Rattle.std.specs.Prelude.{ℕ}
use Rattle.ptg_base.specs.declared.refusal.Refusal.{Refusal}
use Rattle.ptg_base.specs.declared.refusal.Refusal.TheVariants.{Fault}
use Rattle.grammar_core.specs.declared.code.Code.{Code}
use Rattle.grammar_core.specs.declared.fault.ReadFault.{ReadFault}
use Rattle.grammar_core.specs.Reading.{fault_from_end}

-- Why the code could not read tokens: their first fault, or out of memory.
abbrev pub ReadRefusal : Type 0
ReadRefusal = Refusal ReadFault

-- The refusal for a fault with this code at which this many tokens are left.
abbrev pub fault_with : ℕ → Code → ReadRefusal
fault_with left code = Fault (fault_from_end left code)
