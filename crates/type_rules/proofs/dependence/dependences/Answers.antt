use Rattle.std.proofs.Common.{◌∙◌, sym, subst, take, ◌+◌}
use Rattle.type_rules.specs.Contexts.{job_of}
use Rattle.type_rules.specs.Returns.{ReturnsChecked}
use Rattle.type_rules.specs.Dependences.{dependence_of, dependence_faults, is_of_direction, dependences_of, dependences_faults}
use Rattle.type_rules.proofs.Ways.{next_kept, next_dropped}
use Rattle.type_rules.proofs.dependence.dependences.Goals as goal
use Rattle.type_rules.proofs.dependence.dependences.Goals.{then-is_of_direction, else-is_of_direction}

pub loop-each-preserved : goal.loop-each-preserved
loop-each-preserved c =
    let p = is_of_direction c.args.direction in
    let f = dependence_of (job_of c.args.context.now) c.args.context.now.seen.now in
    let g = dependence_faults (job_of c.args.context.now) c.args.context.now.seen.now c.args.flow.now in
    let xs = c.args.deps.now in
    let i = c.loop-each.each-index in
    let x = c.each-item.result in
    elim c.if-is_of_direction.branch [
      | then-is_of_direction w ↦
          subst (λ r. ReturnsChecked r (dependences_of (job_of c.args.context.now) c.args.context.now.seen.now
          c.args.direction (take (i + 1) xs))
          (dependences_faults (job_of c.args.context.now) c.args.context.now.seen.now c.args.flow.now
          c.args.direction (take (i + 1) xs))) (sym w.parts-is)
          (next_kept p f g xs i x w.with_part-parts.result c.loop-each-test.true c.each-item.is
          (sym c.is_of_direction.ensures ∙ w.if-is_of_direction.true)
          (w.with_part-parts.ensures _ _ _ _ c.loop-each.invariant w.dependence.ensures))
      | else-is_of_direction w ↦
          subst (λ r. ReturnsChecked r (dependences_of (job_of c.args.context.now) c.args.context.now.seen.now
          c.args.direction (take (i + 1) xs))
          (dependences_faults (job_of c.args.context.now) c.args.context.now.seen.now c.args.flow.now
          c.args.direction (take (i + 1) xs))) (sym w.parts-is)
          (next_dropped p f g xs i x c.loop-each.parts c.loop-each-test.true c.each-item.is
          (sym c.is_of_direction.ensures ∙ w.if-is_of_direction.false) c.loop-each.invariant)
    ]
