-- A fault of arithmetic as a trap.
use Rattle.term_core.specs.declared.fault.ExprFault.{ExprFault}
use Rattle.term_core.specs.declared.fault.ExprFault.TheVariants as fault
use Rattle.term_core.specs.declared.trap.Trap.{Trap}
use Rattle.term_core.specs.declared.trap.Trap.TheVariants as trap

-- the trap of the same name
abbrev pub trap_of : ExprFault → Trap
trap_of fault.Overflow = trap.Overflow
trap_of fault.Divide = trap.Divide
