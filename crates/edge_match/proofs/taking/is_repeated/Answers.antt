use Rattle.std.proofs.Common.{◌↔◌, IsTrue, ℕ, subst}
use Rattle.std.proofs.lemmas.Bool.{false≢true}
use Rattle.term_core.specs.declared.direction.Direction.TheVariants.{In}
use Rattle.ptg_base.specs.Lists.{IsIn}
use Rattle.dep_iter.specs.Edges.{in_edges_before}
use Rattle.dep_iter.proofs.CallerLemmas.{before-no_dependences}
use Rattle.edge_match.specs.Tallies.{plan_of, task_of}
use Rattle.edge_match.proofs.taking.is_repeated.Goals as goal

pub returns-then-k-eq0 : goal.returns-then-k-eq0
returns-then-k-eq0 c =
    let at = c.args.at.now in
    rw (c.if-k-eq0.true, before-no_dependences In (plan_of at) (task_of at) at.number) (λ q. false≢true q, λ h. absurd h)

pub returns : goal.returns
returns c =
    let at = c.args.at.now in
    let e = c.args.edge.now in
    subst (λ (n : ℕ). IsTrue c.has_edge_before.result ↔ IsIn e (in_edges_before (plan_of at) (task_of at) n c.args.k)) c.requires.flow
    (c.has_edge_before.ensures (plan_of at) (task_of at) at.task.now.are_locals (c.requires.task, rw c.requires.flow at.here))
