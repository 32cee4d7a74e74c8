use Rattle.std.proofs.Common.{ap, sym, subst, inl, refl}
use Rattle.edge_match.specs.FlowParts.{before_at}
use Rattle.edge_match.proofs.Directed.{Rest, differ, edges_named, named_items, no_more, one_more}
use Rattle.edge_match.proofs.Parts.{stop}
use Rattle.edge_match.proofs.dependences.check_target.Goals as goal

pub loop-values-preserved : goal.loop-values-preserved
loop-values-preserved c =
    let at = c.args.at.now in
    let way = c.args.direction in
    let named = edges_named at c.in-Task.class c.in-Task.flow way in
    let before = before_at way at c.args.k in
    let s = c.loop-values.counted in
    let u = c.check_edge.new.counted in
    let one = rw (c.between-edge.ensures, c.new-far.ensures, c.as_slice.ensures.same) at c.in_ok-check_edge-in-Task.ensures in
    let all = ap named (sym c.in-Some.ensures) in
    record {
      rest = λ v r w. c.loop-values.invariant.rest v r (subst (Rest at way before s v r) all (one_more at way before s u v r _ (named c.next.new.self) one w));
    }

pub returns-in_err-check_edge-in-Task : goal.returns-in_err-check_edge-in-Task
returns-in_err-check_edge-in-Task c =
    let at = c.args.at.now in
    let way = c.args.direction in
    let named = edges_named at c.in-Task.class c.in-Task.flow way in
    let before = before_at way at c.args.k in
    let one = rw (c.between-edge.ensures, c.new-far.ensures, c.as_slice.ensures.same) at c.in_err-check_edge-in-Task.ensures in
    let all = ap named (sym c.in-Some.ensures) in
    let stopped = subst (Rest at way before c.loop-values.counted c.check_edge.new.counted c.from_residual.result) all
    (λ earlier agree once. stop _ c.from_residual.ensures.1 (one earlier (agree _ (inl refl)))) in
    let every = rw (c.new-params.ensures, c.as_slice-args.ensures) at (c.loop-values.invariant.rest _ _ stopped) in
    rw (c.in-Task.is, named_items at c.in-Task.class c.in-Task.flow c.in-Task.args way)
    (every before (λ e h. (λ x. x, λ x. x)) (differ at c.in-Task.class c.in-Task.flow c.in-Task.args way))

pub returns-in_default : goal.returns-in_default
returns-in_default c =
    let at = c.args.at.now in
    let way = c.args.direction in
    let named = edges_named at c.in-Task.class c.in-Task.flow way in
    let before = before_at way at c.args.k in
    let s = c.loop-values.counted in
    let none = subst (Rest at way before s s _) (ap named (sym c.in_default.ensures.0)) (no_more at way before s) in
    let every = rw (c.new-params.ensures, c.as_slice-args.ensures) at (c.loop-values.invariant.rest _ _ none) in
    rw (c.in-Task.is, named_items at c.in-Task.class c.in-Task.flow c.in-Task.args way)
    (every before (λ e h. (λ x. x, λ x. x)) (differ at c.in-Task.class c.in-Task.flow c.in-Task.args way))
