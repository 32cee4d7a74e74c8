-- The run of a job by a table: its answer, and the finding from it.
use Rattle.std.proofs.Common.{◌≡◌, ◌∙◌, ap}
use Rattle.coll_data.specs.Data.{Data}
use Rattle.plan_core.specs.declared.plan.Plan.{Plan}
use Rattle.flow_meaning.specs.Answer.{answer}
use Rattle.flow_meaning.specs.declared.outcome.Outcome.{Outcome}
use Rattle.dep_table.specs.ClosedTables.{ClosedView}
use Rattle.dep_table.specs.Receipts.{ReceiptView, receipt_of}
use Rattle.run_pool.specs.Runs.{Run, run_of}
use Rattle.run_pool.specs.declared.settings.Settings.{Settings}
use Rattle.ptg_top.specs.declared.verdict.Finding.{Finding}
use Rattle.ptg_top.specs.Denotation as verdicts
use Rattle.ptg_top.specs.Tables.{IsTableAnswer}

module _ (s : Settings) (P : Plan) (G : Data) where
  -- a table that was closed when it was quiet ran the job that was made ready
  pub closed_is_run : (p : Run) (t : ClosedView) (r : ReceiptView) (outcome : Outcome) → p ≡ run_of P G s
      → t.job ≡ p.job → t.passes ≡ p.workers → r ≡ receipt_of t outcome
      → outcome ≡ answer t.job.matched t.job.given → IsTableAnswer s P G r outcome
  closed_is_run p t r outcome run job passes receipt ended =
      let same : t.job ≡ (run_of P G s).job = job ∙ ap (λ (q : Run). q.job) run in
      let plan : t.job.matched ≡ P = rw same in
      let given : t.job.given ≡ G = rw same in
      let shards : t.job.shards ≡ s.shards = rw same in
      let preloaded : t.job.preloaded ≡ s.preload = rw same in
      let is_answer : outcome ≡ answer P G = ended ∙ (ap (λ (Q : Plan). answer Q t.job.given) plan ∙ ap (λ (D : Data). answer P D) given) in
      record {
        settings = (
          ap (λ (x : ReceiptView). x.shards) receipt ∙ shards,
          ap (λ (x : ReceiptView). x.passes) receipt ∙ (passes ∙ ap (λ (q : Run). q.workers) run),
          ap (λ (x : ReceiptView). x.preloaded) receipt ∙ preloaded,
        );
        job = (
          ap (λ (x : ReceiptView). x.plan) receipt ∙ plan,
          ap (λ (x : ReceiptView). x.given) receipt ∙ given,
          ap (λ (x : ReceiptView). x.outcome) receipt ∙ is_answer,
        );
        answered = is_answer;
      }

  module _ (r : ReceiptView) (outcome : Outcome) (h : IsTableAnswer s P G r outcome) where
    -- the finding from its answer
    pub found_of_run : (find : Outcome → Finding) (finding : Finding) → finding ≡ find outcome
        → verdicts.Ran r.plan finding ≡ verdicts.Ran P (find (answer P G))
    found_of_run find finding is =
        ap (λ (Q : Plan). verdicts.Ran Q finding) h.job.0 ∙ ap (λ (f : Finding). verdicts.Ran P f) (is ∙ ap find h.answered)
