use Rattle.std.proofs.Common.{◌≡◌, ◌⊎◌, inl, inr, refl}
use Rattle.work_board.specs.declared.answers.Sent.{Sent}
use Rattle.work_board.specs.declared.answers.Sent.TheVariants as answer
use Rattle.work_board.specs.declared.record.PassRecord.{PassRecord}
use Rattle.table_rule.specs.Seats.{seated}
use Rattle.dep_table.specs.Sending.{credited}
use Rattle.dep_table.proofs.table.DepTable.raise_for.Goals as goal

-- there is a credit only if the target fires
no_credit : (a : Sent) (v : PassRecord) → (a ≡ answer.Waits) ⊎ ((a ≡ answer.Kept) ⊎ (a ≡ answer.Busy)) → v ≡ credited a v
no_credit answer.Waits v h = refl
no_credit answer.Kept v h = refl
no_credit answer.Busy v h = refl
no_credit answer.Fired v h = elim h [ inl q ↦ cc | inr r ↦ elim r [ inl q ↦ cc | inr q ↦ cc ] ]

pub returns-in-Waits : goal.returns-in-Waits
returns-in-Waits c =
    let m = seated c.args.seat.now in
    record { of = refl; me = λ k. (no_credit c.args.answer m.0 c.in-Waits.is k, m.1) }
