use Rattle.std.proofs.Common.{Err, ap}
use Rattle.ptg_top.proofs.JdfFiles.{tree_read, text_is_refused, long_is_refused}
use Rattle.ptg_top.proofs.Loading.{loaded_as, long_as, long_is_no_fault, value_is_no_fault}
use Rattle.ptg_top.proofs.jdf_file.tree_of_file.Goals as goal

-- the tree of the text that was read
pub returns-in-Ok-clause-tree : goal.returns-in-Ok-clause-tree
returns-in-Ok-clause-tree g c =
    tree_read (g.F.Files.reads c.args.files.now) (g.F.Files.reads c.load.new.files) (g.F.Files.faults c.args.files.now)
    (g.F.Files.faults c.load.new.files) c.args.jdf.now c.as_slice.result.now
    (loaded_as (g.F.Files.reads c.args.files.now) (g.F.Files.reads c.load.new.files) (g.F.Files.faults c.args.files.now)
    (g.F.Files.faults c.load.new.files) c.args.jdf.now c.name_of.result.now c.name_of.ensures c.in-Ok.text
    c.as_slice.result.now c.as_slice.ensures c.in-Ok.ensures.loaded
    (c.in-Ok.ensures.no_fault (value_is_no_fault _)))
    c.tree_of_text.result c.tree_of_text.ensures.tree

-- a fault of the text that was read
pub returns-in-Ok-clause-refused : goal.returns-in-Ok-clause-refused
returns-in-Ok-clause-refused g c =
    text_is_refused (g.F.Files.reads c.args.files.now) (g.F.Files.reads c.load.new.files)
    (g.F.Files.faults c.args.files.now) (g.F.Files.faults c.load.new.files) c.args.jdf.now c.as_slice.result.now
    (loaded_as (g.F.Files.reads c.args.files.now) (g.F.Files.reads c.load.new.files) (g.F.Files.faults c.args.files.now)
    (g.F.Files.faults c.load.new.files) c.args.jdf.now c.name_of.result.now c.name_of.ensures c.in-Ok.text
    c.as_slice.result.now c.as_slice.ensures c.in-Ok.ensures.loaded
    (c.in-Ok.ensures.no_fault (value_is_no_fault _)))
    c.tree_of_text.result c.tree_of_text.ensures.refused

-- a file that is too long
pub returns-in-Err-TooLong-clause-refused : goal.returns-in-Err-TooLong-clause-refused
returns-in-Err-TooLong-clause-refused g c =
    long_is_refused (g.F.Files.reads c.args.files.now) (g.F.Files.reads c.load.new.files)
    (g.F.Files.faults c.args.files.now) (g.F.Files.faults c.load.new.files) c.args.jdf.now c.jdf_too_long.result
    c.jdf_too_long.ensures
    (long_as (g.F.Files.reads c.args.files.now) (g.F.Files.reads c.load.new.files) (g.F.Files.faults c.args.files.now)
    (g.F.Files.faults c.load.new.files) c.args.jdf.now c.name_of.result.now c.name_of.ensures
    (c.in-Err-TooLong.ensures.long (ap Err c.in-Err-TooLong.field-0-is)))
    (c.in-Err-TooLong.ensures.no_fault (long_is_no_fault _ c.in-Err-TooLong.field-0-is))
