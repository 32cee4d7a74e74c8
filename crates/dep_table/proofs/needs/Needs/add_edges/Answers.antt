use Rattle.std.proofs.Common.{◌≡◌, ◌<◌, sym, subst, arith}
use Rattle.ptg_base.specs.Lists.{IsIn}
use Rattle.dep_iter.specs.Edges.{in_edges}
use Rattle.dep_table.specs.Needs.{edge_tiles, flows_tiles}
use Rattle.dep_table.proofs.NeedsFlows.{known_types, tiles_are}
use Rattle.dep_table.proofs.NeedsOne.{same_tiles}
use Rattle.dep_table.proofs.needs.Needs.add_edges.Goals as goal

pub add_flows-requires-clause-known : goal.add_flows-requires-clause-known
add_flows-requires-clause-known c = λ f i.
    let at = c.args.at.now in
    subst (λ n. f.datatype < n) (sym c.requires.types)
    (known_types at.plan.now at.task.now at.of_job f (subst (IsIn f) c.flows.ensures.flows i))

pub add_flows-requires-clause-room : goal.add_flows-requires-clause-room
add_flows-requires-clause-room c = λ d.
    let at = c.args.at.now in
    omega (
      arith,
      c.requires.room d,
      tiles_are at.plan.now c.requires.plan at.task.now at.of_job d at.locals.now c.flows.result.now at.are_locals
          c.flows.ensures.flows,
    )

pub returns : goal.returns
returns c =
    let at = c.args.at.now in
    same_tiles (flows_tiles at.locals.now c.flows.result.now)
    (edge_tiles at.plan.now (in_edges at.plan.now at.task.now)) 0
    c.args.self.now c.add_flows.new.self c.add_flows.ensures
    (λ d. tiles_are at.plan.now c.requires.plan at.task.now at.of_job d at.locals.now c.flows.result.now at.are_locals
    c.flows.ensures.flows)
