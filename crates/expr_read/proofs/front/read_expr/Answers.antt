use Rattle.std.proofs.Common.{arith}
use Rattle.expr_read.specs.Front.{part_of}
use Rattle.grammar_core.proofs.CallerLemmas.{fault_is_of_refusals as fault_is}
use Rattle.expr_read.proofs.Answer.{rest_within, left_within, found_exact, no_memory, fault_exact}
use Rattle.expr_read.proofs.front.read_expr.Goals as goal

pub overflow_sub-result : goal.overflow_sub-result
overflow_sub-result c =
    let w = rest_within c.args.tokens.now c.args.from c.requires c.part_of.result (part_of c.args.in_body)
    c.part_of.ensures c.in-Ok.expression c.in-Ok.rest.now c.in-Ok.ensures in
    omega (arith, w)

pub overflow_sub-tokens : goal.overflow_sub-tokens
overflow_sub-tokens c =
    let w = left_within c.args.tokens.now c.args.from c.requires c.part_of.result (part_of c.args.in_body)
    c.part_of.ensures c.in-Err-Fault.fault.left c.in-Err-Fault.fault.code
    (fault_is _ c.in-Err-Fault.field-0 _ _ c.in-Err-Fault.ensures c.in-Err-Fault.field-0-is) in
    omega (arith, w)

pub returns-in-Ok : goal.returns-in-Ok
returns-in-Ok c =
    record {
      exact = found_exact c.args.tokens.now c.args.from c.requires c.part_of.result (part_of c.args.in_body)
          c.part_of.ensures c.in-Ok.expression c.in-Ok.rest.now c.in-Ok.ensures c.args.finish;
    }

pub returns-in-Err-OutOfMemory : goal.returns-in-Err-OutOfMemory
returns-in-Err-OutOfMemory c = record {
  exact =
      no_memory c.args.tokens.now c.args.from c.requires c.part_of.result (part_of c.args.in_body) c.part_of.ensures
      c.args.finish;
}

pub returns-in-Err-Fault : goal.returns-in-Err-Fault
returns-in-Err-Fault c =
    record {
      exact =
          fault_exact c.args.tokens.now c.args.from c.requires c.part_of.result (part_of c.args.in_body)
          c.part_of.ensures c.in-Err-Fault.fault.left c.in-Err-Fault.fault.code
          (fault_is _ c.in-Err-Fault.field-0 _ _ c.in-Err-Fault.ensures c.in-Err-Fault.field-0-is) c.args.finish c.fault_at.result c.fault_at.ensures;
    }
