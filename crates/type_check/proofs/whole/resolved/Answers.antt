use Rattle.std.proofs.Common.{◌++◌, ap, ◌∙◌, subst}
use Rattle.type_rules.specs.TreesAndFaults.{Word, ClassTree, NameTwice}
use Rattle.type_rules.specs.Contexts.{job_of}
use Rattle.type_rules.specs.Repeats.{repeats}
use Rattle.type_check.specs.Check.{AreRead}
use Rattle.type_check.proofs.ClassesRead.{resolved}
use Rattle.type_check.proofs.whole.resolved.Goals as goal

pub returns : goal.returns
returns c =
    let job = job_of c.args.context.now in
    let globals = repeats (λ (w : Word). w) NameTwice c.as_slice-globals.result.now in
    let classes = repeats (λ (x : ClassTree). x.name) NameTwice c.as_slice-classes.result.now in
    resolved job c.in_ok-read.read c.and_rules.result (globals ++ classes)
    (subst (λ l. AreRead job l c.in_ok-read.read) c.as_slice-classes.ensures c.in_ok-read.ensures)
    (λ p fs k. c.and_rules.ensures p fs (globals ++ classes) k c.names.ensures)
    (ap (λ l. repeats (λ (w : Word). w) NameTwice l ++ classes) c.as_slice-globals.ensures
    ∙ ap (λ l. repeats (λ (w : Word). w) NameTwice job.jdf.globals ++ repeats (λ (x : ClassTree). x.name)
    NameTwice l) c.as_slice-classes.ensures)
