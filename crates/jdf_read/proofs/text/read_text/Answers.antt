use Rattle.std.proofs.Common.{subst}
use Rattle.jdf_lex.specs.declared.fault.JdfFault.{JdfFault}
use Rattle.grammar_core.specs.Reading.{whole}
use Rattle.jdf_tree.specs.Grammar.{productions, file}
use Rattle.jdf_tree.specs.Fault.{IsJdfFault}
use Rattle.grammar_core.proofs.CallerLemmas.{fault_is_of_refusals as fault_is}
use Rattle.jdf_read.proofs.File.{read_is, fault_is_named, same_fault}
use Rattle.jdf_read.proofs.text.read_text.Goals as goal

pub returns-in-Ok-clause-found : goal.returns-in-Ok-clause-found
returns-in-Ok-clause-found c =
    read_is c.args.text.now c.in_ok-lexed.lexed c.as_slice.result.now c.in-Ok.jdf c.requires c.utf8.text
    c.in_ok-lexed.ensures.exact.found c.as_slice.ensures c.in-Ok.ensures

pub returns-clause-fault : goal.returns-clause-fault
returns-clause-fault c f e =
    let stopped = fault_is (whole productions file c.as_slice.result.now) c.in-Err-Fault.field-0
    c.in-Err-Fault.fault.left c.in-Err-Fault.fault.code c.in-Err-Fault.ensures c.in-Err-Fault.field-0-is in
    let fault = fault_is_named c.args.text.now c.in_ok-lexed.lexed c.as_slice.result.now c.in-Err-Fault.fault.left
    c.in-Err-Fault.fault.code c.grammar_fault.result c.requires c.utf8.text c.in_ok-lexed.ensures.exact.found
    c.as_slice.ensures stopped c.grammar_fault.ensures.at_token c.grammar_fault.ensures.at_end in
    subst (λ (g : JdfFault). IsJdfFault c.args.text.now g) (same_fault c.grammar_fault.result f e) fault
