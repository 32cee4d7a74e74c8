use Rattle.std.proofs.Common.{ℕ, List, ◌++◌, ap, ◌∙◌}
use Rattle.std.proofs.lemmas.Result.{IfOk-equal}
use Rattle.jdf_print.specs.Spelling.{arrow, guard, target, other, datatype}
use Rattle.jdf_print.proofs.Lines.{dependence_written}
use Rattle.jdf_print.proofs.target.put_dependence.Goals as goal

pub returns : goal.returns
returns c =
    let d = c.args.d.now in
    IfOk-equal _ _ _ _ c.put-4.ensures
    (dependence_written c.args.out.now (arrow d.direction) c.put.new.out c.put-2.new.out c.put-3.new.out
    c.put_guard.new.out c.put_target.new.out c.put_other.new.out c.put_datatype.new.out
    (guard d.guard) (target d.yes) (other d.no) (datatype d.datatype)
    c.in_ok-put.ensures (c.in_ok-put-2.ensures ∙ ap (λ (w : List ℕ). c.put.new.out ++ w) c.arrow_of.ensures) c.in_ok-put-3.ensures
    c.in_ok-put_guard.ensures c.in_ok-put_target.ensures c.in_ok-put_other.ensures c.in_ok-put_datatype.ensures)
