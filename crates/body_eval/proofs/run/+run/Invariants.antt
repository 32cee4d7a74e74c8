use Rattle.std.proofs.Common.{◌≡◌, ◌+◌, ◌*◌, length, drop}
use Rattle.term_core.specs.StatementList.{statement_count}
use Rattle.term_core.specs.BlockStatementList.{statement_list}
use Rattle.body_eval.specs.Sizes.{KeepsSizes}
use Rattle.body_eval.specs.State.{state_of}
use Rattle.body_eval.specs.Meaning.{run, turns, turn_values}
use Rattle.body_eval.proofs.Blocks.{count_of}
use Rattle.body_eval.proofs.Turns.{values_left}
use Rattle.body_eval.proofs.run.+run.Given as goal

abbrev pub invariant-run_block-loop-statement : goal.invariant-run_block-loop-statement
invariant-run_block-loop-statement l =
    record {
      goes : run (statement_list (drop l.statement-index l.statement-items)) (state_of l.scratch l.tiles)
          ≡ run l.fn.block (state_of l.fn.scratch l.fn.tiles);
      sizes : KeepsSizes l.fn.tiles l.tiles;
    }

abbrev pub invariant-run_turns-loop-next : goal.invariant-run_turns-loop-next
invariant-run_turns-loop-next l =
    record {
      goes : turns (run l.turn) l.number (values_left l.next l.hi) (state_of l.scratch l.tiles)
          ≡ turns (run l.turn) l.number (turn_values l.fn.variable.lo l.fn.variable.hi) (state_of l.fn.scratch l.fn.tiles);
      sizes : KeepsSizes l.fn.tiles l.tiles;
    }

abbrev pub decreases-run_turns-loop-next : goal.decreases-run_turns-loop-next
decreases-run_turns-loop-next l = length (values_left l.next l.hi)

abbrev pub decreases-run_block : goal.decreases-run_block
decreases-run_block l = 3 * statement_count l.block.now + 1

abbrev pub decreases-run_inner_block : goal.decreases-run_inner_block
decreases-run_inner_block l = 3 * statement_count l.block.now + 2

abbrev pub decreases-run_statement : goal.decreases-run_statement
decreases-run_statement l = 3 * count_of l.statement.now

abbrev pub decreases-run_turns : goal.decreases-run_turns
decreases-run_turns l = 3 * statement_count l.turn.now + 2
