use Rattle.std.proofs.Common.{ℕ, sym, ◌∙◌, subst, arith}
use Rattle.plan_core.specs.declared.plan.Plan.{Plan}
use Rattle.dep_iter.specs.Edges.{sources}
use Rattle.chain_cert.specs.Finding.{IsLeastWhere, is_heaviest_source}
use Rattle.chain_cert.proofs.Tracing.{step_by, step_ends}
use Rattle.chain_cert.proofs.longest.step_back.Goals as goal
use Rattle.flow_meaning.specs.Numbers.{number_for}

pub returns-then-n-w : goal.returns-then-n-w
returns-then-n-w c =
    let table = c.args.table.now.entries in
    let t = c.args.t.now in
    step_ends c.args.m.now c.plan-plan.ensures.consistent c.args.weights.now table c.requires.levels t c.requires.task
    (omega (arith, c.level_in-n.ensures, c.weight_of-w.ensures, c.if-n-w.true))

pub returns : goal.returns
returns c =
    let P = c.args.m.now in
    let ws = c.args.weights.now in
    let table = c.args.table.now.entries in
    let t = c.args.t.now in
    let o = c.least_heaviest_source.result in
    let a = subst (λ (p : Plan). IsLeastWhere (is_heaviest_source table c.weight_of-w.result c.level_in-n.result)
    (sources p t) o) c.plan-plan.ensures.same c.least_heaviest_source.ensures in
    let b = subst (λ (n : ℕ). IsLeastWhere (is_heaviest_source table c.weight_of-w.result n) (sources P t) o) c.level_in-n.ensures a in
    let l = subst (λ (w : ℕ). IsLeastWhere (is_heaviest_source table w (number_for table t)) (sources P t) o) c.weight_of-w.ensures b in
    step_by P c.plan-plan.ensures.consistent ws table c.requires.levels t c.requires.task
    (λ e. c.if-n-w.false (c.level_in-n.ensures ∙ e ∙ sym c.weight_of-w.ensures)) o l
