use Rattle.std.proofs.Common.{◌≡◌, max, map, ap, ◌∙◌, subst, arith}
use Rattle.ptg_base.specs.declared.edge.Edge.{Edge}
use Rattle.chain_cert.specs.Finding.{greatest_among}
use Rattle.chain_cert.proofs.leveling.greatest_before.Goals as goal

pub loop-edge-preserved : goal.loop-edge-preserved
loop-edge-preserved c =
    let table = c.args.table.now.entries in
    let all = greatest_among table (map (λ (e : Edge). e.from) c.into_iter-edge-iterator.result) in
    let a = subst (λ es. max c.loop-edge.greatest (greatest_among table (map (λ (e : Edge). e.from) es)) ≡ all)
    c.in-Some.ensures.steps c.loop-edge.invariant.greatest in
    record { can_next = tt; is_finite = tt; greatest = omega (arith, a, c.level_in.ensures, c.max-greatest.ensures) }

pub returns : goal.returns
returns c =
    let table = c.args.table.now.entries in
    let all = greatest_among table (map (λ (e : Edge). e.from) c.into_iter-edge-iterator.result) in
    let a = subst (λ es. max c.loop-edge.greatest (greatest_among table (map (λ (e : Edge). e.from) es)) ≡ all)
    c.in-None.ensures.steps.0 c.loop-edge.invariant.greatest in
    let is = c.into_iter-edge-iterator.ensures.into_iter_gives ∙ c.in_edges-edge-items.ensures in
    omega (arith, a, ap (λ es. greatest_among table (map (λ (e : Edge). e.from) es)) is)
