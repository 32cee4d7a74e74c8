use Rattle.std.proofs.Common.{sym, ◌∙◌}
use Rattle.std.proofs.lemmas.Bool.{false≢true}
use Rattle.dep_iter.specs.Arguments.{combinations}
use Rattle.dep_iter.proofs.Belonging.{from_links, to_links_of}
use Rattle.dep_iter.proofs.membership.leads_to.Goals as goal

pub returns-then-class : goal.returns-then-class
returns-then-class c = λ n. (
  λ q. absurd (false≢true q),
  λ h. let k = rw c.in-Task.is at h in
      let p = from_links n c.in-Task.class c.in-Task.flow (combinations c.in-Task.args c.args.env.now)
      (record { near = n; far = c.args.far.now; far_flow = c.args.far_flow }) k in
      absurd (c.if-class.true (sym p.0 ∙ sym c.class.ensures)),
)

pub returns-then-flow-far_flow : goal.returns-then-flow-far_flow
returns-then-flow-far_flow c = λ n. (
  λ q. absurd (false≢true q),
  λ h. let k = rw c.in-Task.is at h in
      let p = from_links n c.in-Task.class c.in-Task.flow (combinations c.in-Task.args c.args.env.now)
      (record { near = n; far = c.args.far.now; far_flow = c.args.far_flow }) k in
      absurd (c.if-flow-far_flow.true (sym p.1)),
)

pub returns : goal.returns
returns c = λ n.
    let w = rw (c.as_slice.ensures, c.params.ensures.same) at c.has_combination.ensures in (
      λ q. rw c.in-Task.is (to_links_of n c.in-Task.class c.in-Task.flow c.args.far.now c.args.far_flow
          (combinations c.in-Task.args c.args.env.now) (c.if-class.false ∙ c.class.ensures) c.if-flow-far_flow.false
          (w.0 q)),
      λ h. let k = rw c.in-Task.is at h in
          w.1 (from_links n c.in-Task.class c.in-Task.flow (combinations c.in-Task.args c.args.env.now)
          (record { near = n; far = c.args.far.now; far_flow = c.args.far_flow }) k).2,
    )
