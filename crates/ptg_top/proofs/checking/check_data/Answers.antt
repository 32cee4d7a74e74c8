use Rattle.std.proofs.Common.{Err, ap}
use Rattle.ptg_top.proofs.Checked.{data_ends, long_data_ends}
use Rattle.ptg_top.proofs.Loading.{loaded_as, long_as, long_is_no_fault, value_is_no_fault}
use Rattle.ptg_top.proofs.checking.check_data.Goals as goal

-- the verdict on the two texts
pub returns-in_ok-job-in-Ok-clause-verdict : goal.returns-in_ok-job-in-Ok-clause-verdict
returns-in_ok-job-in-Ok-clause-verdict g c text tree =
    data_ends (g.F.Files.reads c.args.files.now) (g.F.Files.reads c.load.new.files) (g.F.Files.faults c.args.files.now)
    (g.F.Files.faults c.load.new.files) text c.args.data_name.now c.as_slice.result.now c.in_ok-job-in-Ok.job
    (loaded_as (g.F.Files.reads c.args.files.now) (g.F.Files.reads c.load.new.files) (g.F.Files.faults c.args.files.now)
    (g.F.Files.faults c.load.new.files) c.args.data_name.now c.name_of.result.now c.name_of.ensures c.in-Ok.text
    c.as_slice.result.now c.as_slice.ensures c.in-Ok.ensures.loaded
    (c.in-Ok.ensures.no_fault (value_is_no_fault _)))
    (c.in_ok-job-in-Ok.ensures.found text tree)

-- a data file that is too long
pub returns-in-Err-TooLong-clause-verdict : goal.returns-in-Err-TooLong-clause-verdict
returns-in-Err-TooLong-clause-verdict g c text tree =
    long_data_ends (g.F.Files.reads c.args.files.now) (g.F.Files.reads c.load.new.files)
    (g.F.Files.faults c.args.files.now) (g.F.Files.faults c.load.new.files) text c.args.data_name.now
    c.args.tree.now c.data_too_long.result tree c.data_too_long.ensures
    (long_as (g.F.Files.reads c.args.files.now) (g.F.Files.reads c.load.new.files) (g.F.Files.faults c.args.files.now)
    (g.F.Files.faults c.load.new.files) c.args.data_name.now c.name_of.result.now c.name_of.ensures
    (c.in-Err-TooLong.ensures.long (ap Err c.in-Err-TooLong.field-0-is)))
    (c.in-Err-TooLong.ensures.no_fault (long_is_no_fault _ c.in-Err-TooLong.field-0-is))
