use Rattle.std.proofs.Common.{arith}
use Rattle.chain_cert.proofs.Whole.{has_all, no_cycle}
use Rattle.chain_cert.proofs.certifying.chain_and_levels.Goals as goal

pub printed_chain-requires-clause-table : goal.printed_chain-requires-clause-table
printed_chain-requires-clause-table c = has_all c.args.m.now c.args.order.items c.requires.legal
    (omega (arith, c.requires.all)) c.args.weights.now c.args.table.now.entries c.requires.levels

pub printed_chain-requires-clause-no_cycle : goal.printed_chain-requires-clause-no_cycle
printed_chain-requires-clause-no_cycle c = no_cycle c.args.m.now c.args.order.items c.requires.legal (omega (arith, c.requires.all))
