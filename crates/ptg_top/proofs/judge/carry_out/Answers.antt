use Rattle.std.proofs.Common.{subst, sym}
use Rattle.std.specs.Prelude.{IfOk, Option}
use Rattle.ptg_io.proofs.CallerLemmas.{more_pieces}
use Rattle.ptg_io.specs.Reads.{AddsPieces}
use Rattle.ptg_top.specs.declared.command.Command.{Command}
use Rattle.ptg_top.specs.Commands.{files_of_steps}
use Rattle.ptg_top.specs.Denotation.{denoted}
use Rattle.ptg_top.specs.Operands.{NamedFiles}
use Rattle.ptg_top.specs.Receipts.{HasItsReceipt}
use Rattle.ptg_top.specs.Steps.{StepsEndWith}
use Rattle.ptg_top.proofs.Actions.{action_ends, action_receipted, refusal_ends, refusal_receipted, show_receipted}
use Rattle.ptg_top.proofs.judge.carry_out.Goals as goal

-- no table runs for `show`
pub returns-in-Show-clause-receipt : goal.returns-in-Show-clause-receipt
returns-in-Show-clause-receipt g c =
    let old = g.F.Files.reads c.args.files.now in
    let new = g.F.Files.reads c.show.new.files in
    let Has : Command → Type 0 = λ q. IfOk c.show.result (λ v. HasItsReceipt old new (files_of_steps q) q v) in
    subst Has (sym c.in-Show.is) (show_receipted old new c.in-Show.jdf c.show.result c.show.ensures.not_run)

-- the action on the consistent job
pub returns-in-Ok-clause-judged : goal.returns-in-Ok-clause-judged
returns-in-Ok-clause-judged g c =
    let old = g.F.Files.reads c.args.files.now in
    let middle = g.F.Files.reads c.check.new.files in
    let new = g.F.Files.reads c.act.new.files in
    let failed = g.F.Files.faults c.args.files.now in
    let failed_between = g.F.Files.faults c.check.new.files in
    let failed_since = g.F.Files.faults c.act.new.files in
    let Ends : Command → Type 0 = λ q. IfOk c.act.result (λ v. StepsEndWith old new failed failed_since q (denoted v)) in
    subst Ends (sym c.in-Job.is)
    (action_ends old middle new failed failed_between failed_since c.in-Job.source c.in-Job.action c.in-Ok.matched c.in-Ok.given
    (denoted c.in_ok-checked-in-Job.checked) c.in-Ok.ensures.found c.in_ok-checked-in-Job.ensures.verdict c.act.result c.act.ensures.ends)

pub returns-in-Ok-clause-receipt : goal.returns-in-Ok-clause-receipt
returns-in-Ok-clause-receipt g c =
    let old = g.F.Files.reads c.args.files.now in
    let middle = g.F.Files.reads c.check.new.files in
    let new = g.F.Files.reads c.act.new.files in
    let failed = g.F.Files.faults c.args.files.now in
    let failed_between = g.F.Files.faults c.check.new.files in
    let failed_since = g.F.Files.faults c.act.new.files in
    let Has : Command → Type 0 = λ q. IfOk c.act.result (λ v. HasItsReceipt old new (files_of_steps q) q v) in
    subst Has (sym c.in-Job.is)
    (action_receipted old middle new failed failed_between failed_since c.in-Job.source c.in-Job.action c.in-Ok.matched c.in-Ok.given
    (denoted c.in_ok-checked-in-Job.checked) c.in-Ok.ensures.found c.in_ok-checked-in-Job.ensures.verdict c.act.result c.act.ensures.ends c.act.ensures.receipt)

-- the pieces of all files
pub returns-in-Ok-clause-pieces : goal.returns-in-Ok-clause-pieces
returns-in-Ok-clause-pieces g c =
    let Pieces : Option NamedFiles → Type 0 = λ t. AddsPieces t (g.F.Files.reads c.check.new.files) (g.F.Files.reads c.act.new.files) in
    more_pieces (g.F.Files.contents c.args.files.now) (g.F.Files.reads c.args.files.now) (g.F.Files.reads c.check.new.files) (g.F.Files.reads c.act.new.files)
    c.check.ensures.pieces (subst Pieces c.check.ensures.stays c.act.ensures.pieces)

-- a refusal of `check`
pub returns-in-Err-clause-judged : goal.returns-in-Err-clause-judged
returns-in-Err-clause-judged g c =
    let old = g.F.Files.reads c.args.files.now in
    let new = g.F.Files.reads c.check.new.files in
    let failed = g.F.Files.faults c.args.files.now in
    let failed_since = g.F.Files.faults c.check.new.files in
    let Ends : Command → Type 0 = λ q. StepsEndWith old new failed failed_since q (denoted c.in-Err.refused) in
    subst Ends (sym c.in-Job.is)
    (refusal_ends old new failed failed_since c.in-Job.source c.in-Job.action c.in_ok-checked-in-Job.checked c.in-Err.refused
    c.in-Err.ensures.refused.0 c.in_ok-checked-in-Job.ensures.verdict c.in-Err.ensures.refused.1)

pub returns-in-Err-clause-receipt : goal.returns-in-Err-clause-receipt
returns-in-Err-clause-receipt g c =
    refusal_receipted (g.F.Files.reads c.args.files.now) (g.F.Files.reads c.check.new.files) (files_of_steps c.args.command.now) c.args.command.now
    c.in-Err.refused c.in-Err.ensures.refused.1
