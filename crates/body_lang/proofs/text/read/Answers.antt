use Rattle.std.proofs.Common.{ℕ, ap, ◌∙◌}
use Rattle.expr_read.specs.Front.{fault_at}
use Rattle.body_lang.proofs.WholeText.{read_tree, read_no_memory, read_fault}
use Rattle.body_lang.proofs.text.read.Goals as goal
use Rattle.grammar_core.proofs.CallerLemmas.{fault_is_of_refusals as fault_is}

pub returns-in-Ok : goal.returns-in-Ok
returns-in-Ok c = record { exact = read_tree c.args.tokens.now c.args.finish c.in-Ok.tree c.in-Ok.ensures }

pub returns-in-Err-OutOfMemory : goal.returns-in-Err-OutOfMemory
returns-in-Err-OutOfMemory c = record { exact = read_no_memory c.args.tokens.now c.args.finish }

pub returns-in-Err-Fault : goal.returns-in-Err-Fault
returns-in-Err-Fault c =
    let met = fault_is _ c.in-Err-Fault.field-0 _ _ c.in-Err-Fault.ensures c.in-Err-Fault.field-0-is in
    let at = c.fault_at.ensures ∙ ap (λ (n : ℕ). fault_at c.args.tokens.now c.args.finish n c.in-Err-Fault.fault.code) c.saturating_sub-index.ensures in
    record { exact = read_fault c.args.tokens.now c.args.finish c.in-Err-Fault.fault.left c.in-Err-Fault.fault.code c.fault_at.result met at }
