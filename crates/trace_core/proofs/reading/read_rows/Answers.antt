use Rattle.std.proofs.Common.{refl, subst, arith}
use Rattle.trace_core.specs.declared.fault.TraceCode.TheVariants.{BadTrace}
use Rattle.trace_core.specs.Reading.{IsSpellingFault, of_a_row}
use Rattle.trace_core.proofs.ReadFaults.{fault_is}
use Rattle.trace_core.proofs.reading.read_rows.Goals as goal

pub returns-in-Err-clause-fault : goal.returns-in-Err-clause-fault
returns-in-Err-clause-fault c = λ f e.
    let bad : IsSpellingFault c.args.bytes.now (record { row = c.in-Err.row; code = BadTrace }) = of_a_row (omega arith) c.in-Err.ensures.err refl in
    subst (IsSpellingFault c.args.bytes.now) (fault_is c.refused.result f (record { row = c.in-Err.row; code = BadTrace }) c.refused.ensures e) bad
