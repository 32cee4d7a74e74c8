use Rattle.std.proofs.Common.{◌≡◌, ◌≤◌, length, take, drop, ap, sym, ◌∙◌, Some, Ok, Err, slice_get, arith}
use Rattle.task_run.specs.Bench.{Laid}
use Rattle.task_run.specs.Start.{delivered}
use Rattle.task_run.proofs.Ending.{ends, well_body}
use Rattle.task_run.proofs.Laying.{kept, take_new, whole_count}
use Rattle.task_run.proofs.bench.Bench.run_laid.Goals as goal
use Rattle.std.proofs.lemmas.Result.{IfErr-weaker, on_ok_weaker}
use Rattle.std.proofs.lemmas.List.{length-take-le}

pub run_body-requires : goal.run_body-requires
run_body-requires c =
    let P = c.args.start.now.at.now.plan.now in
    let G = c.args.start.now.given.now in
    let t = c.args.start.now.at.now.task.now in
    let class = c.class-class.result.now in
    let is : slice_get P.classes t.class ≡ Some class = ap (slice_get P.classes) (sym c.class.ensures)
    ∙ c.class-class.ensures.class in
    let laid_are = ap (λ n. take n c.self.inside.tiles) c.flows-flows.ensures.flows
    ∙ ap (λ (b : Laid). b.tiles) c.self.view_is ∙ c.requires.tiles in
    well_body P G (delivered P G) t c.args.start.now.at.now.of_job class c.args.start.now.at.now.locals.now
    (take c.flows-flows.result c.self.inside.tiles) is c.args.start.now.at.now.are_locals laid_are

pub invariant_of-self : goal.invariant_of-self
invariant_of-self c =
    let few : c.flows-flows.result ≤ length c.self.inside.tiles = omega
    (arith, c.self.invariant.1, c.flows-flows.ensures.at_most) in
    let count : length c.run_body.new.tiles ≡ c.flows-flows.result = c.run_body.auto.tiles
    ∙ length-take-le c.flows-flows.result c.self.inside.tiles few in (
      kept c.self.inside.pools.elems c.self.inside.pools.lent c.self.inside.tiles c.run_body.new.tiles
          (drop c.flows-flows.result c.self.inside.tiles) c.flows-flows.result
          c.self.invariant.0 c.flows-flows.ensures.flows count c.run_body.ensures.sizes,
      whole_count c.flows-flows.result c.self.inside.tiles c.run_body.new.tiles count few ∙ c.self.invariant.1,
    )

pub returns-clause-ok : goal.returns-clause-ok
returns-clause-ok c =
    let P = c.args.start.now.at.now.plan.now in
    let G = c.args.start.now.given.now in
    let t = c.args.start.now.at.now.task.now in
    let class = c.class-class.result.now in
    let is : slice_get P.classes t.class ≡ Some class = ap (slice_get P.classes) (sym c.class.ensures)
    ∙ c.class-class.ensures.class in
    let laid_are = ap (λ n. take n c.self.inside.tiles) c.flows-flows.ensures.flows
    ∙ ap (λ (b : Laid). b.tiles) c.self.view_is ∙ c.requires.tiles in
    let few : c.flows-flows.result ≤ length c.self.inside.tiles = omega
    (arith, c.self.invariant.1, c.flows-flows.ensures.at_most) in
    let count : length c.run_body.new.tiles ≡ c.flows-flows.result = c.run_body.auto.tiles
    ∙ length-take-le c.flows-flows.result c.self.inside.tiles few in
    on_ok_weaker c.run_body.result
    (λ e. ends P G t class c.args.start.now.at.now.locals.now (take c.flows-flows.result c.self.inside.tiles)
    (Ok c.run_body.new.tiles) c.args.start.now.consistent c.args.start.now.at.now.of_job c.requires.runs is
    c.args.start.now.at.now.are_locals laid_are e
    ∙ ap (λ l. Some (Ok l)) (sym (take_new (length c.self.inside.pools.lent) c.run_body.new.tiles
    (drop c.flows-flows.result c.self.inside.tiles) (count ∙ c.flows-flows.ensures.flows))))
    c.run_body.ensures.ok

pub returns-clause-trap : goal.returns-clause-trap
returns-clause-trap c =
    let P = c.args.start.now.at.now.plan.now in
    let G = c.args.start.now.given.now in
    let t = c.args.start.now.at.now.task.now in
    let class = c.class-class.result.now in
    let is : slice_get P.classes t.class ≡ Some class = ap (slice_get P.classes) (sym c.class.ensures)
    ∙ c.class-class.ensures.class in
    let laid_are = ap (λ n. take n c.self.inside.tiles) c.flows-flows.ensures.flows
    ∙ ap (λ (b : Laid). b.tiles) c.self.view_is ∙ c.requires.tiles in
    IfErr-weaker c.run_body.result _ _
    (λ cause e. ends P G t class c.args.start.now.at.now.locals.now (take c.flows-flows.result c.self.inside.tiles)
    (Err cause)
    c.args.start.now.consistent c.args.start.now.at.now.of_job c.requires.runs is c.args.start.now.at.now.are_locals
    laid_are e)
    c.run_body.ensures.trap
