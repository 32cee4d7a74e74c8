use Rattle.std.proofs.Common.{List, ℤ, [], ◌∷◌, map, sym, subst}
use Rattle.std.proofs.lemmas.List.{append-nil}
use Rattle.dep_iter.specs.Edges.{edge, in_edges_before}
use Rattle.dep_iter.specs.Tasks.{task}
use Rattle.edge_match.specs.Flows.{AreTaken}
use Rattle.edge_match.proofs.TakenEdges.{taken_append, taken_nil}
use Rattle.edge_match.specs.Tallies.{plan_of, task_of, env_of}
use Rattle.edge_match.proofs.taking.take_each.Goals as goal

pub loop-values-init : goal.loop-values-init
loop-values-init c = record { then = λ u h. h }

pub loop-values-preserved : goal.loop-values-preserved
loop-values-preserved c =
    let at = c.args.at.now in
    let P = plan_of at in
    let before = in_edges_before P (task_of at) at.number c.args.k in
    let mk = λ (ps : List ℤ). edge (task c.in-Task.class ps) c.in-Task.flow (task_of at) at.number in
    let s = c.loop-values.ins in
    let u = c.take_link.new.ins in
    let e = mk c.in-Some.values in
    let taken = rw (c.new-from.ensures, c.as_slice.ensures.same) at c.if-not-take_link.ensures in
    record {
      then = λ v h. c.loop-values.invariant.then v (
          subst (λ ps. AreTaken P before s v (map mk ps)) (sym c.in-Some.ensures)
          (taken_append P before s u v (e ∷ []) (map mk c.next.new.self) taken h));
    }

pub returns : goal.returns
returns c =
    let at = c.args.at.now in
    let P = plan_of at in
    let before = in_edges_before P (task_of at) at.number c.args.k in
    let mk = λ (ps : List ℤ). edge (task c.in-Task.class ps) c.in-Task.flow (task_of at) at.number in
    let s = c.loop-values.ins in
    let all = c.loop-values.invariant.then s (subst (λ ps. AreTaken P before s s (map mk ps)) (sym c.in_default-next.ensures.0) (taken_nil P before s)) in
    let taken = rw (c.new-params.ensures, c.as_slice-args.ensures) at all in
    let once = rw c.in-Task.is at (c.edges_of_a_dependence_differ.ensures.ins (task_of at) (env_of at) at.number c.args.target.now) in
    rw c.in-Task.is (record { source = tt; taken = rw append-nil (record { taken = taken; once = once }) })
