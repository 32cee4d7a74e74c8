use Rattle.std.proofs.Common.{Err, ap}
use Rattle.ptg_top.proofs.Loading.{loaded_as, long_as, long_is_no_fault, value_is_no_fault}
use Rattle.ptg_top.proofs.Replayed.{long_ends, read_ends}
use Rattle.ptg_top.proofs.replaying.replay.Goals as goal

-- the verdict on the text that was read
pub returns-in-Ok-clause-verdict : goal.returns-in-Ok-clause-verdict
returns-in-Ok-clause-verdict g c =
    read_ends (g.F.Files.reads c.args.files.now) (g.F.Files.reads c.load.new.files) (g.F.Files.faults c.args.files.now)
    (g.F.Files.faults c.load.new.files) c.args.trace.now c.args.matched c.args.given c.as_slice.result.now
    c.replay_of.result
    (loaded_as (g.F.Files.reads c.args.files.now) (g.F.Files.reads c.load.new.files) (g.F.Files.faults c.args.files.now)
    (g.F.Files.faults c.load.new.files) c.args.trace.now c.name_of.result.now c.name_of.ensures c.in-Ok.text
    c.as_slice.result.now c.as_slice.ensures c.in-Ok.ensures.loaded
    (c.in-Ok.ensures.no_fault (value_is_no_fault _)))
    c.replay_of.ensures.verdict

-- a trace file that is too long
pub returns-in-Err-TooLong-clause-verdict : goal.returns-in-Err-TooLong-clause-verdict
returns-in-Err-TooLong-clause-verdict g c =
    long_ends (g.F.Files.reads c.args.files.now) (g.F.Files.reads c.load.new.files) (g.F.Files.faults c.args.files.now)
    (g.F.Files.faults c.load.new.files) c.args.trace.now c.args.matched c.args.given c.trace_too_long.result
    c.trace_too_long.ensures
    (long_as (g.F.Files.reads c.args.files.now) (g.F.Files.reads c.load.new.files) (g.F.Files.faults c.args.files.now)
    (g.F.Files.faults c.load.new.files) c.args.trace.now c.name_of.result.now c.name_of.ensures
    (c.in-Err-TooLong.ensures.long (ap Err c.in-Err-TooLong.field-0-is)))
    (c.in-Err-TooLong.ensures.no_fault (long_is_no_fault _ c.in-Err-TooLong.field-0-is))
