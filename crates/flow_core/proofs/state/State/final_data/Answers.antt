use Rattle.std.proofs.Common.{subst, sym}
use Rattle.std.specs.List.{All}
use Rattle.run_answer.specs.Written.{IsWritable}
use Rattle.flow_core.proofs.Writes.{all_writable, data_is}
use Rattle.flow_core.proofs.state.State.final_data.Goals as goal

pub with_written-requires : goal.with_written-requires
with_written-requires c =
    subst (All (IsWritable c.args.given)) (sym c.in_ok-written.ensures)
    (all_writable c.args.m.now c.args.given c.plan_is_consistent.ensures c.args.self c.requires.fits
    c.requires.known c.data_are_well_made.ensures)

pub returns : goal.returns
returns c =
    data_is c.args.m.now c.args.given c.plan_is_consistent.ensures c.args.self c.requires.fits c.requires.known
    c.data_are_well_made.ensures c.in_ok-written.written.items c.with_written.result c.in_ok-written.ensures
    c.with_written.ensures
