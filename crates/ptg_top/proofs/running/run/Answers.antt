use Rattle.std.proofs.Common.{Err, ap, refl}
use Rattle.ptg_top.specs.declared.verdict.Finding.TheVariants.{Answer}
use Rattle.ptg_top.proofs.Preloads.{fitting_is_answer, refused_is_answer}
use Rattle.ptg_top.proofs.TableRuns.{found_of_run}
use Rattle.ptg_top.proofs.running.run.Goals as goal

-- the answer of the table, whose preload was not refused
pub returns-in_ok-receipt-in-Ok-clause-answer : goal.returns-in_ok-receipt-in-Ok-clause-answer
returns-in_ok-receipt-in-Ok-clause-answer g c =
    let ran = c.in_ok-receipt-in-Ok.ensures.ran c.args.matched c.args.given c.args.settings c.in-Ok.ensures.run in
    fitting_is_answer c.args.matched c.args.settings c.args.given _ (λ bytes large. let e = (c.in-Ok.ensures.too_large bytes).1 large in absurd cc)
    (found_of_run c.args.settings c.args.matched c.args.given c.in_ok-receipt-in-Ok.receipt
    c.in_ok-receipt-in-Ok.outcome ran Answer (Answer c.in_ok-receipt-in-Ok.outcome) refl)

-- its receipt is of the job
pub returns-in_ok-receipt-in-Ok-clause-receipt : goal.returns-in_ok-receipt-in-Ok-clause-receipt
returns-in_ok-receipt-in-Ok-clause-receipt g c =
    let ran = c.in_ok-receipt-in-Ok.ensures.ran c.args.matched c.args.given c.args.settings c.in-Ok.ensures.run in
    (ran.settings, ran.job)

-- a preload that is too large
pub returns-in-Err-PreloadTooLarge-clause-answer : goal.returns-in-Err-PreloadTooLarge-clause-answer
returns-in-Err-PreloadTooLarge-clause-answer g c =
    refused_is_answer c.args.matched c.args.settings c.args.given c.in-Err-PreloadTooLarge._bytes
    ((c.in-Err-PreloadTooLarge.ensures.too_large c.in-Err-PreloadTooLarge._bytes).0 (ap Err c.in-Err-PreloadTooLarge.field-0-is))
