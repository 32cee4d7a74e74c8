use Rattle.std.proofs.Common.{Err, ap}
use Rattle.ptg_top.proofs.JdfFiles.{same_fault_refuses}
use Rattle.ptg_top.proofs.jdf_file.tree_of_text.Goals as goal

-- a fault of the text
pub returns-in-Err-Fault-clause-refused : goal.returns-in-Err-Fault-clause-refused
returns-in-Err-Fault-clause-refused c =
    same_fault_refuses c.args.text.now c.in-Err-Fault.fault _ c.in-Err-Fault.fault-is
    (c.in-Err-Fault.ensures.fault c.in-Err-Fault.fault (ap Err c.in-Err-Fault.field-0-is))
