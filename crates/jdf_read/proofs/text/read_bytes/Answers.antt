use Rattle.std.proofs.Common.{subst, arith}
use Rattle.jdf_lex.specs.declared.fault.JdfFault.{JdfFault}
use Rattle.jdf_tree.specs.Fault.{IsJdfFault}
use Rattle.jdf_read.proofs.File.{no_utf8_at, same_fault}
use Rattle.jdf_read.proofs.text.read_bytes.Goals as goal

pub returns-in-Err-clause-fault : goal.returns-in-Err-clause-fault
returns-in-Err-clause-fault c f e =
    let fault = no_utf8_at c.args.bytes.now c.valid_up_to.result _ c.spot_after.result (omega arith)
    c.in-Err.ensures.cases.1 c.valid_up_to.ensures c.spot_after.ensures in
    subst (λ (g : JdfFault). IsJdfFault c.args.bytes.now g) (same_fault _ f e) fault
