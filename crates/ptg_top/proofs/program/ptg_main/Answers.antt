use Rattle.std.proofs.Common.{ap, sym, subst, ◌∙◌, ◌++◌, inl}
use Rattle.ptg_top.specs.Denotation.{denoted}
use Rattle.ptg_top.specs.Headline.{IsExact}
use Rattle.ptg_top.proofs.Ending.{exact_prints, complete_prints, none_failed, usage_is_its_line, usage_is_no_command}
use Rattle.ptg_top.proofs.Ending.{no_command_is_usage, read_fault_names, no_write_fault}
use Rattle.ptg_top.proofs.Receipts.{receipt_is_asked, no_receipt_no_answer, receipt_is_of_job, receipt_is_printed}
use Rattle.ptg_top.proofs.program.ptg_main.Goals as goal

-- a verdict that was printed whole is exact if its status is not that of a fault
pub returns-in-Ok-print_verdict-clause-exact : goal.returns-in-Ok-print_verdict-clause-exact
returns-in-Ok-print_verdict-clause-exact g c exact =
    exact_prints c.args.words.now (g.F.Files.reads c.args.files.now) (g.F.Files.reads c.judge.new.files)
    (g.F.Files.faults c.args.files.now) (g.F.Files.faults c.judge.new.files)
    (denoted c.in-Ok.verdict) (g.O.Sink.bytes c.args.out.now) (g.O.Sink.bytes c.print_verdict.new.out) c.status.result
    c.in-Ok.ensures.judged c.in-Ok-print_verdict.ensures.ok c.status.ensures exact

-- and it is exact if no read failed
pub returns-in-Ok-print_verdict-clause-complete : goal.returns-in-Ok-print_verdict-clause-complete
returns-in-Ok-print_verdict-clause-complete g c no_read no_write =
    complete_prints c.args.words.now (g.F.Files.reads c.args.files.now) (g.F.Files.reads c.judge.new.files)
    (g.F.Files.faults c.args.files.now) (g.F.Files.faults c.judge.new.files)
    (denoted c.in-Ok.verdict) no_read (g.O.Sink.bytes c.args.out.now) (g.O.Sink.bytes c.print_verdict.new.out) c.status.result
    c.in-Ok.ensures.judged c.in-Ok-print_verdict.ensures.ok c.status.ensures

-- no read failed if the status is that of a verdict
pub returns-in-Ok-print_verdict-clause-no_read_fault : goal.returns-in-Ok-print_verdict-clause-no_read_fault
returns-in-Ok-print_verdict-clause-no_read_fault g c exact =
    none_failed c.args.words.now (g.F.Files.reads c.args.files.now) (g.F.Files.reads c.judge.new.files)
    (g.F.Files.faults c.args.files.now) (g.F.Files.faults c.judge.new.files)
    (denoted c.in-Ok.verdict) c.in-Ok.ensures.judged (subst IsExact c.status.ensures exact)

-- the status of a read fault comes with the name of a file that could not be read
pub returns-in-Ok-print_verdict-clause-unread : goal.returns-in-Ok-print_verdict-clause-unread
returns-in-Ok-print_verdict-clause-unread g c fault =
    let h =
    read_fault_names c.args.words.now (g.F.Files.reads c.args.files.now) (g.F.Files.reads c.judge.new.files)
    (g.F.Files.faults c.args.files.now) (g.F.Files.faults c.judge.new.files)
    (denoted c.in-Ok.verdict) c.in-Ok.ensures.judged (sym c.status.ensures ∙ fault)
    in
    (h.0, h.1, c.in-Ok-print_verdict.ensures.ok ∙ ap (λ t. g.O.Sink.bytes c.args.out.now ++ t) h.2)

-- no verdict has the status of a write fault
pub returns-in-Ok-print_verdict-clause-cut : goal.returns-in-Ok-print_verdict-clause-cut
returns-in-Ok-print_verdict-clause-cut g c fault =
    absurd (
    no_write_fault c.args.words.now (g.F.Files.reads c.args.files.now) (g.F.Files.reads c.judge.new.files)
    (g.F.Files.faults c.args.files.now) (g.F.Files.faults c.judge.new.files)
    (denoted c.in-Ok.verdict) c.in-Ok.ensures.judged (sym c.status.ensures ∙ fault)
    )

-- the status of usage comes with its line
pub returns-in-Ok-print_verdict-clause-usage_line : goal.returns-in-Ok-print_verdict-clause-usage_line
returns-in-Ok-print_verdict-clause-usage_line g c usage =
    c.in-Ok-print_verdict.ensures.ok ∙ ap (λ t. g.O.Sink.bytes c.args.out.now ++ t) (
    usage_is_its_line c.args.words.now (g.F.Files.reads c.args.files.now) (g.F.Files.reads c.judge.new.files)
    (g.F.Files.faults c.args.files.now) (g.F.Files.faults c.judge.new.files)
    (denoted c.in-Ok.verdict) c.in-Ok.ensures.judged (sym c.status.ensures ∙ usage)
    )

-- and only if the arguments form no command; such arguments have no other status
pub returns-in-Ok-print_verdict-clause-usage_only : goal.returns-in-Ok-print_verdict-clause-usage_only
returns-in-Ok-print_verdict-clause-usage_only g c usage =
    usage_is_no_command c.args.words.now (g.F.Files.reads c.args.files.now) (g.F.Files.reads c.judge.new.files)
    (g.F.Files.faults c.args.files.now) (g.F.Files.faults c.judge.new.files)
    (denoted c.in-Ok.verdict) c.in-Ok.ensures.judged (sym c.status.ensures ∙ usage)

pub returns-in-Ok-print_verdict-clause-usage : goal.returns-in-Ok-print_verdict-clause-usage
returns-in-Ok-print_verdict-clause-usage g c none =
    inl (
    c.status.ensures
    ∙ no_command_is_usage c.args.words.now (g.F.Files.reads c.args.files.now) (g.F.Files.reads c.judge.new.files)
    (g.F.Files.faults c.args.files.now) (g.F.Files.faults c.judge.new.files)
    (denoted c.in-Ok.verdict) c.in-Ok.ensures.judged none
    )

-- the receipt of an answer is the one that was asked for
pub returns-in-Ok-print_verdict-clause-receipt : goal.returns-in-Ok-print_verdict-clause-receipt
returns-in-Ok-print_verdict-clause-receipt g c =
    receipt_is_asked c.args.words.now (g.F.Files.reads c.args.files.now) (g.F.Files.reads c.judge.new.files) c.in-Ok.verdict
    c.receipt.result c.receipt.ensures c.in-Ok.ensures.receipt c.status.result c.status.ensures

-- and a run without one has no answer
pub returns-in-Ok-print_verdict-clause-no_receipt : goal.returns-in-Ok-print_verdict-clause-no_receipt
returns-in-Ok-print_verdict-clause-no_receipt g c =
    no_receipt_no_answer c.args.words.now (g.F.Files.reads c.args.files.now) (g.F.Files.reads c.judge.new.files) c.in-Ok.verdict
    c.receipt.result c.receipt.ensures c.in-Ok.ensures.receipt c.status.result c.status.ensures

-- it is of the job that the loads denote
pub returns-in-Ok-print_verdict-clause-of_job : goal.returns-in-Ok-print_verdict-clause-of_job
returns-in-Ok-print_verdict-clause-of_job g c =
    receipt_is_of_job c.args.words.now (g.F.Files.reads c.args.files.now) (g.F.Files.reads c.judge.new.files) c.in-Ok.verdict
    c.receipt.result c.receipt.ensures c.in-Ok.ensures.receipt

-- and its outcome is the answer that was printed
pub returns-in-Ok-print_verdict-clause-answer : goal.returns-in-Ok-print_verdict-clause-answer
returns-in-Ok-print_verdict-clause-answer g c =
    receipt_is_printed c.args.words.now (g.F.Files.reads c.args.files.now) (g.F.Files.reads c.judge.new.files) c.in-Ok.verdict
    c.receipt.result c.receipt.ensures c.in-Ok.ensures.receipt c.status.result c.status.ensures
    (g.O.Sink.bytes c.args.out.now) (g.O.Sink.bytes c.print_verdict.new.out) c.in-Ok-print_verdict.ensures.ok
