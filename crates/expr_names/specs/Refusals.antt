-- Which of two refusals is reported.
use Rattle.ptg_base.specs.declared.refusal.Refusal.{Refusal}
use Rattle.ptg_base.specs.declared.refusal.Refusal.TheVariants.{Fault, OutOfMemory}
use Rattle.jdf_lex.specs.declared.fault.JdfFault.{JdfFault}

-- which of two refusals is reported; out of memory, if either of them is that
abbrev pub reported_refusal : (JdfFault → JdfFault → JdfFault) → Refusal JdfFault → Refusal JdfFault → Refusal JdfFault
reported_refusal reported OutOfMemory other = OutOfMemory
reported_refusal reported (Fault f) OutOfMemory = OutOfMemory
reported_refusal reported (Fault f) (Fault g) = Fault (reported f g)
