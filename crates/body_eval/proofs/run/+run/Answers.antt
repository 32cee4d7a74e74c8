use Rattle.std.proofs.Common.{◌≡◌, ℕ, ◌+◌, ◌<◌, pos, ◌+ℤ◌, ◌∷◌, length, drop, slice_set, refl, Err, FitsSigned, w64, rules, arith, ap, sym, ◌∙◌}
use Rattle.std.proofs.lemmas.Int.{to_z-of_z}
use Rattle.term_core.specs.StatementList.{statement_count}
use Rattle.term_core.specs.BlockStatementList.{statement_list}
use Rattle.body_eval.specs.State.{state_of}
use Rattle.body_eval.specs.Meaning.{run, turns, turn_values}
use Rattle.body_eval.specs.Statement.{statement_meaning}
use Rattle.body_eval.proofs.Units.{by_parts, first_then-ok, first_then-err}
use Rattle.body_eval.proofs.Blocks.{run-drop, count_le}
use Rattle.body_eval.proofs.Turns.{values_left, values_past, values_next, values_checked}
use Rattle.body_eval.proofs.TurnSteps.{turns-end, turns-none, turns-err, turns-ok}
use Rattle.body_eval.proofs.run.+run.Goals as goal

pub run_block-run_statement-requires : goal.run_block-run_statement-requires
run_block-run_statement-requires t c =
    let below : c.loop-statement.statement-index < length c.as_slice-statement-items.result.now = omega arith in
    let most = count_le c.as_slice-statement-items.result.now c.loop-statement.statement-index c.statement-item.result below c.statement-item.is in
    let all = ap statement_count c.as_slice-statement-items.ensures in
    (omega (arith, most, all), tt)

pub run_block-returns-in_err-run_statement-clause-trap :
    goal.run_block-returns-in_err-run_statement-clause-trap
run_block-returns-in_err-run_statement-clause-trap t c =
    let below : c.loop-statement.statement-index < length c.as_slice-statement-items.result.now = omega arith in
    let at = state_of c.loop-statement.scratch c.loop-statement.tiles in
    let rest = run (statement_list (drop (c.loop-statement.statement-index + 1) c.as_slice-statement-items.result.now)) in
    let starts = run-drop c.as_slice-statement-items.result.now c.loop-statement.statement-index c.statement-item.result below c.statement-item.is at in
    let stops = first_then-err c.loop-statement.scratch.slots c.loop-statement.tiles c.loop-statement.scratch.units_left
    c.spend.new.self.units_left c.in_ok-spend.ensures.ok (statement_meaning c.statement-item.result) rest
    c.in_err-run_statement.field-0.0 (by_parts (statement_meaning c.statement-item.result) c.spend.new.self
    c.loop-statement.scratch.slots c.loop-statement.tiles c.spend.new.self.units_left c.spend.ensures.slots refl
    ∙ c.in_err-run_statement.ensures.trap) in
    let all : run c.args.block.now (state_of c.args.scratch.now c.args.tiles.now) ≡ Err c.in_err-run_statement.field-0.0 =
    sym c.loop-statement.invariant.goes ∙ starts ∙ stops in
    search rules

pub run_block-loop-statement-preserved : goal.run_block-loop-statement-preserved
run_block-loop-statement-preserved t c =
    let below : c.loop-statement.statement-index < length c.as_slice-statement-items.result.now = omega arith in
    let at = state_of c.loop-statement.scratch c.loop-statement.tiles in
    let next = state_of c.run_statement.new.scratch c.run_statement.new.tiles in
    let rest = run (statement_list (drop (c.loop-statement.statement-index + 1) c.as_slice-statement-items.result.now)) in
    let starts = run-drop c.as_slice-statement-items.result.now c.loop-statement.statement-index c.statement-item.result below c.statement-item.is at in
    let goes = first_then-ok c.loop-statement.scratch.slots c.loop-statement.tiles c.loop-statement.scratch.units_left
    c.spend.new.self.units_left c.in_ok-spend.ensures.ok (statement_meaning c.statement-item.result) rest next
    (by_parts (statement_meaning c.statement-item.result) c.spend.new.self c.loop-statement.scratch.slots
    c.loop-statement.tiles c.spend.new.self.units_left c.spend.ensures.slots refl
    ∙ c.in_ok-run_statement.ensures.ok) in
    record {
      goes = sym goes ∙ sym starts ∙ c.loop-statement.invariant.goes;
      sizes = λ flow. c.run_statement.ensures.sizes flow ∙ c.loop-statement.invariant.sizes flow;
    }

-- the values that are left at a turn: that of the turn, and those after it
coming : (t : ℕ) (c : goal.run_turns-After-checked_add-next t)
    → values_left c.loop-next.next c.args.variable.hi ≡ c.in-Some.v ∷ values_left c.checked_add-next.result
    c.args.variable.hi
coming t c =
    let f : FitsSigned w64 c.in-Some.v = search rules in
    let g : FitsSigned w64 c.args.variable.hi = search rules in
    let test = simp to_z-of_z at c.if-v-hi.false in
    let sum = simp to_z-of_z at c.checked_add-next.ensures in
    ap (λ o. values_left o c.args.variable.hi) c.in-Some.is ∙ values_checked c.in-Some.v c.args.variable.hi c.checked_add-next.result f g test sum

pub run_turns-returns-then-v-hi-clause-ok : goal.run_turns-returns-then-v-hi-clause-ok
run_turns-returns-then-v-hi-clause-ok t c =
    let f : FitsSigned w64 c.in-Some.v = search rules in
    let g : FitsSigned w64 c.args.variable.hi = search rules in
    let k : FitsSigned w64 c.args.variable.lo = search rules in
    let test = simp to_z-of_z at c.if-v-hi.true in
    let so_far = simp to_z-of_z at c.loop-next.invariant.goes in
    let none = ap (λ o. values_left o c.args.variable.hi) c.in-Some.is ∙ values_past c.in-Some.v c.args.variable.hi test in
    turns-end (run c.args.turn.now) c.args.variable.number (values_left c.loop-next.next c.args.variable.hi) _
    (state_of c.loop-next.scratch c.loop-next.tiles) none so_far

pub run_turns-returns-in_err-spend-clause-trap : goal.run_turns-returns-in_err-spend-clause-trap
run_turns-returns-in_err-spend-clause-trap t c =
    let f : FitsSigned w64 c.in-Some.v = search rules in
    let g : FitsSigned w64 c.args.variable.hi = search rules in
    let k : FitsSigned w64 c.args.variable.lo = search rules in
    let test = simp to_z-of_z at c.if-v-hi.false in
    let so_far = simp to_z-of_z at c.loop-next.invariant.goes in
    let one = ap (λ o. values_left o c.args.variable.hi) c.in-Some.is ∙ values_next c.in-Some.v c.args.variable.hi test in
    let stops : turns (run c.args.turn.now) c.args.variable.number (turn_values c.args.variable.lo c.args.variable.hi)
    (state_of c.args.scratch.now c.args.tiles.now) ≡ Err c.in_err-spend.field-0.0 =
    turns-none (run c.args.turn.now) c.args.variable.number (values_left c.loop-next.next c.args.variable.hi) _
    c.in-Some.v (turn_values (c.in-Some.v +ℤ pos 1) c.args.variable.hi) c.loop-next.scratch.slots c.loop-next.tiles
    c.loop-next.scratch.units_left one so_far c.in_err-spend.ensures.trap.1
    ∙ ap Err (sym c.in_err-spend.ensures.trap.0) in
    search rules

pub run_turns-returns-in_err-run_block-clause-trap :
    goal.run_turns-returns-in_err-run_block-clause-trap
run_turns-returns-in_err-run_block-clause-trap t c =
    let f : FitsSigned w64 c.in-Some.v = search rules in
    let g : FitsSigned w64 c.args.variable.hi = search rules in
    let k : FitsSigned w64 c.args.variable.lo = search rules in
    let test = simp to_z-of_z at c.if-v-hi.false in
    let so_far = simp to_z-of_z at c.loop-next.invariant.goes in
    let one = ap (λ o. values_left o c.args.variable.hi) c.in-Some.is ∙ values_next c.in-Some.v c.args.variable.hi test in
    let set = simp to_z-of_z at c.assign.ensures.slots in
    let block = run c.args.turn.now in
    let slots = set ∙ ap (λ s. slice_set s c.args.variable.number c.in-Some.v) c.spend.ensures.slots in
    let at_turn = by_parts block c.assign.new.self _ c.loop-next.tiles c.spend.new.self.units_left slots
    c.assign.ensures.units ∙ c.in_err-run_block.ensures.trap in
    let stops : turns block c.args.variable.number (turn_values c.args.variable.lo c.args.variable.hi)
    (state_of c.args.scratch.now c.args.tiles.now) ≡ Err c.in_err-run_block.field-0.0 =
    turns-err block c.args.variable.number (values_left c.loop-next.next c.args.variable.hi) _ c.in-Some.v
    (turn_values (c.in-Some.v +ℤ pos 1) c.args.variable.hi) c.loop-next.scratch.slots c.loop-next.tiles
    c.loop-next.scratch.units_left one so_far c.spend.new.self.units_left c.in_err-run_block.field-0.0
    c.in_ok-spend.ensures.ok at_turn in
    search rules

pub run_turns-loop-next-smaller : goal.run_turns-loop-next-smaller
run_turns-loop-next-smaller t c =
    let g : FitsSigned w64 c.args.variable.hi = search rules in
    let e = ap length (coming t c) in simp to_z-of_z (omega (arith, e))

pub run_turns-loop-next-preserved : goal.run_turns-loop-next-preserved
run_turns-loop-next-preserved t c =
    let f : FitsSigned w64 c.in-Some.v = search rules in
    let g : FitsSigned w64 c.args.variable.hi = search rules in
    let k : FitsSigned w64 c.args.variable.lo = search rules in
    let so_far = simp to_z-of_z at c.loop-next.invariant.goes in
    let set = simp to_z-of_z at c.assign.ensures.slots in
    let block = run c.args.turn.now in
    let next = state_of c.run_block.new.scratch c.run_block.new.tiles in
    let slots = set ∙ ap (λ s. slice_set s c.args.variable.number c.in-Some.v) c.spend.ensures.slots in
    let at_turn = by_parts block c.assign.new.self _ c.loop-next.tiles c.spend.new.self.units_left slots
    c.assign.ensures.units ∙ c.in_ok-run_block.ensures.ok in
    let goes = turns-ok block c.args.variable.number (values_left c.loop-next.next c.args.variable.hi) _ c.in-Some.v
    (values_left c.checked_add-next.result c.args.variable.hi) c.loop-next.scratch.slots c.loop-next.tiles
    c.loop-next.scratch.units_left (coming t c) so_far c.spend.new.self.units_left next c.in_ok-spend.ensures.ok
    at_turn in
    record {
      goes = simp to_z-of_z goes;
      sizes = λ flow. c.run_block.ensures.sizes flow ∙ c.loop-next.invariant.sizes flow;
    }
