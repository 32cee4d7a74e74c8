use Rattle.std.proofs.Common.{◌≡◌, ◌+◌, length, ap, sym, ◌∙◌, arith, subst}
use Rattle.std.proofs.lemmas.Option.{slice_get_read}
use Rattle.task_run.specs.Start.{HasInputsFrom, delivered}
use Rattle.task_run.proofs.Ending.{laid_all, laid_next}
use Rattle.std.proofs.lemmas.List.{length_push}
use Rattle.task_run.proofs.bench.Bench.lay_all.Goals as goal

pub loop-flow-preserved : goal.loop-flow-preserved
loop-flow-preserved c =
    let P = c.args.start.now.at.now.plan.now in
    let G = c.args.start.now.given.now in
    let t = c.args.start.now.at.now.task.now in
    let flows = c.flows-flow-items.result.now in
    let i = c.loop-flow.flow-index in
    let here = slice_get_read flows (length flows) i c.flow-item.result (λ j. length flows) c.loop-flow-test.true
    c.flow-item.is in
    let count : length c.lay.new.self.tiles ≡ length c.loop-flow.self.tiles + 1 = ap length c.lay.ensures.tiles
    ∙ length_push c.loop-flow.self.tiles _ in
    record {
      elems = c.lay.ensures.elems ∙ c.loop-flow.invariant.elems;
      tiles = laid_next P G (delivered P G) t flows i c.flow-item.result c.loop-flow.self.tiles c.lay.new.self.tiles
          c.loop-flow.invariant.tiles here c.loop-flow.invariant.count c.lay.ensures.tiles;
      count = omega (arith, count, c.loop-flow.invariant.count);
      inputs = subst (λ n. HasInputsFrom P G t n c.lay.new.arrivals) (sym count) c.lay.ensures.inputs;
    }

pub returns-clause-tiles : goal.returns-clause-tiles
returns-clause-tiles c =
    let P = c.args.start.now.at.now.plan.now in
    let G = c.args.start.now.given.now in
    laid_all P G (delivered P G) c.args.start.now.at.now.task.now c.flows-flow-items.result.now c.loop-flow.flow-index
    c.loop-flow.self.tiles c.flows-flow-items.ensures.flows c.loop-flow-test.false c.loop-flow.invariant.tiles
