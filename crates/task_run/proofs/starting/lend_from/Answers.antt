use Rattle.std.proofs.Common.{length, ap, arith}
use Rattle.flow_meaning.proofs.CallerLemmas.{known_datatype}
use Rattle.task_run.proofs.starting.lend_from.Goals as goal

pub lend-requires-clause-known : goal.lend-requires-clause-known
lend-requires-clause-known c =
    omega (
      arith,
      known_datatype c.args.start.now.at.now.plan.now c.args.start.now.at.now.task.now (length c.args.pools.now.lent)
          c.args.flow.now c.args.start.now.at.now.of_job c.requires.flow,
      ap length c.requires.elems,
    )

pub lend_unsourced-requires-clause-known : goal.lend_unsourced-requires-clause-known
lend_unsourced-requires-clause-known c =
    omega (
      arith,
      known_datatype c.args.start.now.at.now.plan.now c.args.start.now.at.now.task.now (length c.args.pools.now.lent)
          c.args.flow.now c.args.start.now.at.now.of_job c.requires.flow,
      ap length c.requires.elems,
    )
