use Rattle.std.proofs.Common.{All, sym, subst}
use Rattle.std.proofs.lemmas.List.Elements.{All-push}
use Rattle.dep_table.specs.Passes.{IsPassOf}
use Rattle.dep_table.specs.Tables.{id_of}
use Rattle.ptg_measure.proofs.tables.some_passes.Goals as goal

pub loop-preserved : goal.loop-preserved
loop-preserved c =
    let own = IsPassOf (id_of c.args.table.now) in (
      c.split.ensures.pass,
      subst (All own) (sym c.in_ok-push.ensures.items)
          (All-push own c.loop.passes.items c.split.result c.loop.invariant.1 c.split.ensures.new),
    )

pub returns : goal.returns
returns c =
    let own = IsPassOf (id_of c.args.table.now) in
    subst (All own) (sym c.in_ok-push-2.ensures.items) (All-push own c.loop.passes.items c.loop.first c.loop.invariant.1 c.loop.invariant.0)
