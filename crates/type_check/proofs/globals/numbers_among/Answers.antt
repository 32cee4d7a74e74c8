use Rattle.std.proofs.Common.{◌∙◌, sym, ap}
use Rattle.name_table.specs.Names.{value_named}
use Rattle.type_rules.specs.Names.{is_declared}
use Rattle.type_check.specs.Globals.{job_with}
use Rattle.type_check.proofs.GlobalTables.{numbers_step, numbers_skip}
use Rattle.type_check.proofs.globals.numbers_among.Goals as goal
use Rattle.type_check.proofs.globals.numbers_among.Goals.{then-contains+in_ok-add_number, else-contains}

pub loop-i-preserved : goal.loop-i-preserved
loop-i-preserved c n =
    let job = job_with c.args.declared.now in
    let xs = c.args.colls.now in
    let i = c.loop-i.i in
    let d = c.index-colls-i.result in
    elim c.if-contains.branch [
      | then-contains+in_ok-add_number w ↦
          let passes = sym (c.requires.declared d.name) ∙ (sym c.contains.ensures ∙ w.if-contains.true) in
          ap (λ t. value_named t n) w.table-is
          ∙ numbers_step (is_declared job) xs i d c.loop-i.table w.add_number.new.table c.loop-i-test.true
          c.index-colls-i.is passes
          c.loop-i.invariant w.in_ok-add_number.ensures n
      | else-contains w ↦
          let fails = sym (c.requires.declared d.name) ∙ (sym c.contains.ensures ∙ w.if-contains.false) in
          ap (λ t. value_named t n) w.table-is
          ∙ numbers_skip (is_declared job) xs i d c.loop-i.table c.loop-i-test.true c.index-colls-i.is fails
          c.loop-i.invariant n
    ]
