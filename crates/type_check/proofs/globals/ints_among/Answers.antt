use Rattle.std.proofs.Common.{◌∙◌, sym, ap}
use Rattle.name_table.specs.Names.{value_named}
use Rattle.type_rules.specs.Names.{is_declared}
use Rattle.type_check.specs.Globals.{job_with}
use Rattle.type_check.proofs.GlobalTables.{ints_step, ints_skip}
use Rattle.type_check.proofs.globals.ints_among.Goals as goal
use Rattle.type_check.proofs.globals.ints_among.Goals.{then-contains+in_ok-add_int, else-contains}

pub loop-int-preserved : goal.loop-int-preserved
loop-int-preserved c n =
    let job = job_with c.args.declared.now in
    let xs = c.args.ints.now in
    let i = c.loop-int.int-index in
    let d = c.int-item.result in
    elim c.if-contains.branch [
      | then-contains+in_ok-add_int w ↦
          let passes = sym (c.requires d.0) ∙ (sym c.contains.ensures ∙ w.if-contains.true) in
          ap (λ t. value_named t n) w.table-is
          ∙ ints_step (is_declared job) xs i d c.loop-int.table w.add_int.new.table c.loop-int-test.true
          c.int-item.is passes c.loop-int.invariant w.in_ok-add_int.ensures n
      | else-contains w ↦
          let fails = sym (c.requires d.0) ∙ (sym c.contains.ensures ∙ w.if-contains.false) in
          ap (λ t. value_named t n) w.table-is
          ∙ ints_skip (is_declared job) xs i d c.loop-int.table c.loop-int-test.true c.int-item.is fails
          c.loop-int.invariant n
    ]
