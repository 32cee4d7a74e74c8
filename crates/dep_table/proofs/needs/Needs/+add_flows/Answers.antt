use Rattle.std.proofs.Common.{◌<◌, length, ap, sym, subst, refl, inl, inr, arith}
use Rattle.ptg_base.specs.Lists.{IsIn}
use Rattle.dep_table.specs.Needs.{flows_tiles}
use Rattle.dep_table.proofs.needs.Needs.+add_flows.Goals as goal

pub add_flow-requires-clause-known : goal.add_flow-requires-clause-known
add_flow-requires-clause-known t c = c.requires.known c.in-Some.flow.now (subst (IsIn c.in-Some.flow.now) (sym c.in-Some.ensures.cases.0) (inl refl))

pub add_flow-requires-clause-room : goal.add_flow-requires-clause-room
add_flow-requires-clause-room t c = λ d. omega (arith, c.requires.room d, ap (λ l. flows_tiles c.args.env.now l d) c.in-Some.ensures.cases.0)

pub add_flows-requires : goal.add_flows-requires
add_flows-requires t c =
    let shorter = ap length c.in-Some.ensures.cases.0 in (
      omega (arith, shorter, c.decreases),
      (
        (λ f i. subst (λ n. f.datatype < n) (sym c.add_flow.ensures.types) (c.requires.known f (subst (IsIn f) (sym c.in-Some.ensures.cases.0) (inr i)))),
        (λ d. omega (arith, c.requires.room d, ap (λ l. flows_tiles c.args.env.now l d) c.in-Some.ensures.cases.0, c.add_flow.ensures.tiles d)),
      ),
    )
