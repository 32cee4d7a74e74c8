use Rattle.std.proofs.Common.{sym, ◌∙◌, refl}
use Rattle.std.proofs.lemmas.Bool.{false≢true}
use Rattle.dep_iter.specs.declared.link.Link.{Link}
use Rattle.dep_iter.proofs.Belonging.{any-none, any-here, any-later}
use Rattle.dep_iter.proofs.membership.+any_leads_to.Goals as goal

pub returns-in_default-held_target : goal.returns-in_default-held_target
returns-in_default-held_target t c = λ n.
    let l : Link = record { near = n; far = c.args.far.now; far_flow = c.args.far_flow } in
    rw c.in-Some.ensures.cases.0 (any-none c.args.env.now n l c.in-Some.d.now c.in-Some.later.now c.args.first_only
    c.any_leads_to.result (sym c.in_default-held_target.ensures) (c.any_leads_to.ensures n))

pub returns-then-leads_to : goal.returns-then-leads_to
returns-then-leads_to t c = λ n.
    let l : Link = record { near = n; far = c.args.far.now; far_flow = c.args.far_flow } in (
      λ q. rw c.in-Some.ensures.cases.0 (any-here c.args.env.now n l c.in-Some.d.now c.in-Some.later.now
          c.args.first_only c.in-Some-held_target.target.now (sym c.in-Some-held_target.ensures)
          ((c.leads_to.ensures n).0 c.if-leads_to.true)),
      λ h. refl,
    )

pub returns : goal.returns
returns t c = λ n.
    let l : Link = record { near = n; far = c.args.far.now; far_flow = c.args.far_flow } in
    rw c.in-Some.ensures.cases.0 (
    any-later c.args.env.now n l c.in-Some.d.now c.in-Some.later.now c.args.first_only c.any_leads_to-2.result
    c.in-Some-held_target.target.now c.if-first_only.false (sym c.in-Some-held_target.ensures)
    (λ h. false≢true (sym c.if-leads_to.false ∙ (c.leads_to.ensures n).1 h)) (c.any_leads_to-2.ensures n))
