use Rattle.std.proofs.Common.{◌≡◌, length, ap, arith}
use Rattle.type_check.proofs.Counts.{colls_at_most}
use Rattle.type_check.proofs.globals.globals_of.Goals as goal

pub globals_among-requires-clause-at_most : goal.globals_among-requires-clause-at_most
globals_among-requires-clause-at_most c =
    let same : length c.colls.result.now ≡ length c.args.given.now.colls = ap length c.colls.ensures.colls in
    omega (arith, same, colls_at_most c.args.given.now c.colls.ensures.well_made)
