use Rattle.std.proofs.Common.{subst, sym}
use Rattle.ptg_top.specs.Commands.{IsValid}
use Rattle.ptg_top.proofs.Carried.{command_ends, command_receipted}
use Rattle.ptg_top.proofs.Commands.{is_valid}
use Rattle.ptg_top.proofs.judge.judge.Goals as goal

-- the names in the command are UTF-8, and its numbers are in their ranges
pub carry_out-requires-clause-valid : goal.carry_out-requires-clause-valid
carry_out-requires-clause-valid g c κs within =
    subst IsValid (sym c.of.ensures)
    (is_valid c.in-Ok.order (c.files_are_text.ensures c.args.list.now c.in-Ok.order c.in-Ok.ensures.found)
    (c.commands_have_numbers_in_range.ensures c.args.list.now c.in-Ok.order c.in-Ok.ensures.found))

-- the verdict on the command is the one on the arguments
pub returns-in-Ok-clause-judged : goal.returns-in-Ok-clause-judged
returns-in-Ok-clause-judged g c =
    command_ends c.args.list.now (g.F.Files.reads c.args.files.now) (g.F.Files.reads c.carry_out.new.files)
    c.in-Ok.order c.of.result c.in-Ok.ensures.found c.of.ensures
    (g.F.Files.faults c.args.files.now) (g.F.Files.faults c.carry_out.new.files) c.carry_out.result c.carry_out.ensures.judged

-- and so is its receipt
pub returns-in-Ok-clause-receipt : goal.returns-in-Ok-clause-receipt
returns-in-Ok-clause-receipt g c =
    command_receipted c.args.list.now (g.F.Files.reads c.args.files.now) (g.F.Files.reads c.carry_out.new.files)
    c.in-Ok.order c.of.result c.in-Ok.ensures.found c.of.ensures
    c.carry_out.result c.carry_out.ensures.receipt
