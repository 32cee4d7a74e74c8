use Rattle.std.proofs.Common.{List, ◌++◌, ap, ◌∙◌}
use Rattle.std.specs.List.{flat_map}
use Rattle.std.proofs.lemmas.Result.{IfOk-equal}
use Rattle.grammar_core.specs.declared.token.Token.{Token}
use Rattle.jdf_tree.specs.declared.tree.DefTree.{DefTree}
use Rattle.jdf_tree.specs.declared.tree.FlowTree.{FlowTree}
use Rattle.jdf_print.specs.Fragments.{text}
use Rattle.jdf_print.specs.Spelling.{head, definition, affinity, flow, priority, body}
use Rattle.jdf_print.proofs.Lines.{class_written}
use Rattle.jdf_print.proofs.class.put_class.Goals as goal

pub returns : goal.returns
returns c =
    let k = c.args.c.now in
    IfOk-equal _ _ _ _ c.put-3.ensures
    (class_written c.args.out.now c.put.new.out c.put_head.new.out c.put_definitions.new.out c.put_affinity.new.out
    c.put_flows.new.out c.put_priority.new.out c.put-2.new.out c.put_body.new.out
    (head k) (flat_map definition k.defs) (affinity k) (flat_map flow k.flows) (priority k.priority) (body k.body)
    c.in_ok-put.ensures c.in_ok-put_head.ensures
    (c.in_ok-put_definitions.ensures ∙ ap (λ (w : List DefTree). c.put_head.new.out ++ text (flat_map definition w)) c.as_slice.ensures)
    c.in_ok-put_affinity.ensures
    (c.in_ok-put_flows.ensures ∙ ap (λ (w : List FlowTree). c.put_affinity.new.out ++ text (flat_map flow w)) c.as_slice-2.ensures)
    c.in_ok-put_priority.ensures c.in_ok-put-2.ensures
    (c.in_ok-put_body.ensures ∙ ap (λ (w : List Token). c.put-2.new.out ++ text (body w)) c.as_slice-3.ensures))
