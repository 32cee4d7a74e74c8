use Rattle.std.proofs.Common.{arith, subst, take}
use Rattle.std.proofs.lemmas.List.{take_all}
use Rattle.type_rules.specs.Contexts.{job_of}
use Rattle.type_check.specs.Check.{AreRead}
use Rattle.type_check.proofs.ClassesRead.{one_class, next_class}
use Rattle.type_check.proofs.whole.read_classes.Goals as goal

pub loop-class-preserved : goal.loop-class-preserved
loop-class-preserved c =
    let job = job_of c.args.context.now in
    let classes = c.args.classes.now in
    next_class job classes c.loop-class.class-index c.class-item.result c.with_class-results.result c.loop-class-test.true c.class-item.is
    (one_class job (take c.loop-class.class-index classes) c.class-item.result c.loop-class.results
    c.with_class-results.result c.in_ok-read.read c.with_class-results.ensures c.loop-class.invariant
    c.in_ok-read.ensures)

pub returns : goal.returns
returns c =
    subst (λ l. AreRead (job_of c.args.context.now) l c.loop-class.results)
    (take_all c.loop-class.class-index c.args.classes.now (omega (arith, c.loop-class-test.false)))
    c.loop-class.invariant
