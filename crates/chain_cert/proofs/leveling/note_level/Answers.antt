use Rattle.std.proofs.Common.{◌≡◌, ℕ, ◌+◌, ◌*◌, ◌≤◌, length, ap, sym, ◌∙◌, subst, arith}
use Rattle.plan_core.specs.declared.plan.Plan.{Plan}
use Rattle.dep_iter.specs.Edges.{sources}
use Rattle.chain_cert.specs.Finding.{greatest_among}
use Rattle.chain_cert.proofs.TableLevels.{among_bounded, bounded, light, noted}
use Rattle.chain_cert.proofs.leveling.note_level.Goals as goal

-- levels of so few tasks are far below 2^64
pub overflow_add-level : goal.overflow_add-level
overflow_add-level c =
    let ws = c.args.weights.now in
    let table = c.args.table.now.entries in
    let next = c.requires.next.1 in
    let before : c.greatest_before.result ≤ 1000000 * length c.requires.next.0 =
    subst (λ (n : ℕ). n ≤ 1000000 * length c.requires.next.0) (sym c.greatest_before.ensures)
    (among_bounded table (1000000 * length c.requires.next.0)
    (bounded c.args.m.now ws c.requires.next.0 table next.levels) (sources c.plan.result.now c.args.t.now)) in
    omega (arith, c.weight_of.ensures, light ws c.args.t.now c.requires.weights, before, next.at_most)

pub returns : goal.returns
returns c =
    let P = c.args.m.now in
    let ws = c.args.weights.now in
    let table = c.args.table.now.entries in
    let t = c.args.t.now in
    let before : c.greatest_before.result ≡ greatest_among table (sources P t) = c.greatest_before.ensures
    ∙ ap (λ (p : Plan). greatest_among table (sources p t)) c.plan.ensures.same in
    λ b next. noted P ws b table c.insert.new.self.entries t c.copy.result
    (c.weight_of.result + c.greatest_before.result) c.copy.ensures (omega (arith, c.weight_of.ensures, before))
    (light ws t c.requires.weights) next c.in_ok-insert.ensures.updates.0
