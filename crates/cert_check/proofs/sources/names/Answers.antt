use Rattle.std.proofs.Common.{sym, ◌∙◌}
use Rattle.std.proofs.lemmas.Bool.{false≢true}
use Rattle.dep_iter.specs.Arguments.{combinations}
use Rattle.cert_check.proofs.FarTasks.{from_named, to_named}
use Rattle.cert_check.proofs.sources.names.Goals as goal

pub returns-then-class : goal.returns-then-class
returns-then-class c = λ n. (
  λ q. absurd (false≢true q),
  λ h. let k = rw c.in-Task.is at h in
      let p = from_named n c.in-Task.class _ (combinations c.in-Task.args c.args.env.now) c.args.far.now k in
      absurd (c.if-class.true (p.0 ∙ sym c.class.ensures)),
)

pub returns : goal.returns
returns c = λ n.
    let cs = combinations c.in-Task.args c.args.env.now in
    let w = rw (c.as_slice.ensures, c.params.ensures.same) at c.has_combination.ensures in (
      λ q. rw c.in-Task.is (to_named n c.in-Task.class _ cs c.args.far.now (c.if-class.false ∙ c.class.ensures) (w.0 q)),
      λ h. let k = rw c.in-Task.is at h in w.1 (from_named n c.in-Task.class _ cs c.args.far.now k).1,
    )
