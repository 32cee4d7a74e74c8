-- The receipt of a run: when the program ends with one, a command's job, the settings of its table, and what it finds
-- of the outcome in the receipt.
-- Carried by: `ptg_main` (`receipt`, `no_receipt`, `of_job`, `answer`).
use Rattle.std.specs.Prelude.{◌≡◌, ℕ, List, ◌++◌, Option, Some, None, IfSome, IsSome, IsSomeAnd, MatchOption}
use Rattle.ptg_base.specs.Task.{Task}
use Rattle.ptg_io.specs.Reads.{Gave}
use Rattle.coll_data.specs.Data.{Data}
use Rattle.plan_core.specs.declared.plan.Plan.{Plan}
use Rattle.flow_meaning.specs.Answer.{answer}
use Rattle.flow_meaning.specs.Order.{IsWholeOrder}
use Rattle.flow_meaning.specs.declared.outcome.Outcome.{Outcome}
use Rattle.chain_cert.specs.Certificates.{IsCertificate}
use Rattle.chain_cert.specs.Weights.{class_weights}
use Rattle.chain_cert.specs.declared.certificate.Certificate.{Certificate}
use Rattle.trace_core.specs.Text.{trace_text}
use Rattle.dep_table.specs.Receipts.{ReceiptView}
use Rattle.ptg_words.specs.declared.order.Order.{Order}
use Rattle.ptg_words.specs.Laws.{files_of}
use Rattle.ptg_words.specs.Words.{Orders}
use Rattle.job_stages.specs.declared.verdict.JobVerdict.TheVariants as jobs
use Rattle.run_pool.specs.declared.settings.Settings.{Settings}
use Rattle.ptg_top.specs.declared.command.Action.{Action}
use Rattle.ptg_top.specs.declared.command.Action.TheVariants as actions
use Rattle.ptg_top.specs.declared.command.Command.{Command}
use Rattle.ptg_top.specs.declared.command.Command.TheVariants as commands
use Rattle.ptg_top.specs.declared.status.Status.{Status}
use Rattle.ptg_top.specs.declared.status.Status.TheVariants as status
use Rattle.ptg_top.specs.declared.verdict.Finding.{Finding}
use Rattle.ptg_top.specs.declared.verdict.Finding.TheVariants.{Answer, Trace}
use Rattle.ptg_top.specs.declared.verdict.RanBy.TheVariants.{Table}
use Rattle.ptg_top.specs.declared.verdict.Verdict.{Verdict}
use Rattle.ptg_top.specs.declared.verdict.Verdict.TheVariants.{Ran}
use Rattle.ptg_top.specs.Commands.{command_of, table_of_steps}
use Rattle.ptg_top.specs.Denotation as verdicts
use Rattle.ptg_top.specs.Denotation.{Denotation, denoted}
use Rattle.ptg_top.specs.Certify.{certified}
use Rattle.ptg_top.specs.Demo.{summed}
use Rattle.ptg_top.specs.Operands.{AreOf, Load, Operands, Read, in_loads}
use Rattle.ptg_top.specs.Meaning.{SourceDenotes}
use Rattle.ptg_top.specs.Headline.{status_of, text_of}
use Rattle.ptg_top.specs.Tables.{IsReceiptOf, ShowsSettings}

-- The settings of the table on which a command runs its job: those that it gives, or the usual ones if it has no
-- options for them. None if it runs no job on a table.
abbrev pub settings_of : Order → Option Settings
settings_of command = table_of_steps (command_of command)

-- the command runs a job on a table
abbrev pub RunsOnTable : Order → Type 0
RunsOnTable command = IsSome (settings_of command)

-- the receipt shows the settings of the table on which the command runs its job
abbrev pub IsReceiptFor : Order → ReceiptView → Type 0
IsReceiptFor command r = IsSomeAnd (settings_of command) (λ (settings : Settings). ShowsSettings settings r)

-- the status may be that of a job's answer: all tasks ran, some task trapped, or some task could not run
abbrev pub IsAnswerStatus : Status → Type 0
IsAnswerStatus status.Complete = Unit {0}
IsAnswerStatus status.Trapped = Unit {0}
IsAnswerStatus status.Stalled = Unit {0}
IsAnswerStatus s = ⊥

-- The operands, or the texts that are made, denote this consistent job, and something is done with it beside the count.
abbrev pub StepsHaveJob : Operands → Command → Plan → Data → Type 0
StepsHaveJob operands (commands.Show jdf) P given = ⊥
StepsHaveJob operands (commands.Job source actions.Count) P given = ⊥
StepsHaveJob operands (commands.Job source action) P given =
    SourceDenotes operands source (verdicts.Job (jobs.Consistent P given))

-- the operands of the command, or the texts that it makes, denote this consistent job
abbrev pub FindsJob : Operands → Order → Plan → Data → Type 0
FindsJob operands command P given = StepsHaveJob operands (command_of command) P given

-- the arguments form a command, and this is its consistent job
abbrev pub HasConsistentJob : List (List ℕ) → Operands → Plan → Data → Type 0
HasConsistentJob words operands P given = (o : Order) × Orders words o × FindsJob operands o P given

-- What an action finds from the outcome of a job that a table ran. `run` finds the outcome itself, `demo` its summary,
-- and `certify` the certificate of the job with the numbers of the outcome. `trace` finds the text of a whole order of
-- the tasks that run, which does not depend on the outcome.
abbrev pub ActionFinds : Action → Plan → Data → Outcome → Finding → Type 0
ActionFinds (actions.Run settings) P given outcome finding = finding ≡ Answer outcome
ActionFinds (actions.Sum rows settings) P given outcome finding = finding ≡ summed rows outcome
ActionFinds (actions.Trace settings) P given outcome finding =
    (tasks : List Task) × IsWholeOrder P given tasks × (finding ≡ Trace (trace_text P tasks))
ActionFinds (actions.Certify settings) P given outcome finding =
    (c : Certificate) × IsCertificate P given (class_weights P given) c
    × (finding ≡ certified (class_weights P given) outcome c)
ActionFinds action P given outcome finding = ⊥

-- the same for what is done for a command
abbrev pub StepsFind : Command → Plan → Data → Outcome → Finding → Type 0
StepsFind (commands.Show jdf) P given outcome finding = ⊥
StepsFind (commands.Job source action) P given outcome finding = ActionFinds action P given outcome finding

-- what a command finds from the outcome of a job that a table ran
abbrev pub IsFoundOf : Order → Plan → Data → Outcome → Finding → Type 0
IsFoundOf command P given outcome finding = StepsFind (command_of command) P given outcome finding

-- The outcome in the receipt is the answer of the receipt's job. The sink grew by exactly the text of what the command
-- finds from that outcome, and this is its status.
pub record PrintsReceipt (words : List (List ℕ)) (r : ReceiptView) (before after : List ℕ) (status : Status)
    : Type 0 where
  pub answered : r.outcome ≡ answer r.plan r.given
  pub command : Order
  pub formed : Orders words command
  pub finding : Finding
  pub found : IsFoundOf command r.plan r.given r.outcome finding
  pub text : after ≡ before ++ text_of (verdicts.Ran r.plan finding)
  pub ends : status ≡ status_of (verdicts.Ran r.plan finding)

-- ---- of verdicts

-- the receipt of the table that ran the job of a verdict; None if no table ran it
abbrev pub receipt_of : Verdict → Option ReceiptView
receipt_of (Ran (Table receipt) finding) = Some receipt
receipt_of v = None

-- The receipt of the verdict of an action on this job. If a table ran the job, it shows the table's settings, the job
-- and its answer. A verdict without a receipt is not an answer of a table.
abbrev pub IsReceipted : Option Settings → Plan → Data → Verdict → Type 0
IsReceipted table P given v =
    MatchOption (receipt_of v) (IfSome table (λ settings. IsAnswerStatus (status_of (denoted v)) → ⊥))
    (λ (r : ReceiptView). IsSomeAnd table (λ settings. ShowsSettings settings r) × IsReceiptOf P given r)

-- The receipt shows the settings of the command's table, and the job that the loads of these names denote, with its
-- answer. The verdict is what the command finds from this answer.
pub record IsByReceipt (old new : List Read) (names : List (List ℕ)) (command : Command) (r : ReceiptView)
    (v : Denotation) : Type 0 where
  pub shows : IsSomeAnd (table_of_steps command) (λ (settings : Settings). ShowsSettings settings r)
  pub loads : List Load
  pub operands : AreOf loads names
  pub gave : Gave old new loads
  pub job : StepsHaveJob (in_loads loads) command r.plan r.given
  pub answered : r.outcome ≡ answer r.plan r.given
  pub finding : Finding
  pub found : StepsFind command r.plan r.given r.outcome finding
  pub is : v ≡ verdicts.Ran r.plan finding

-- The receipt of the verdict on a command whose files have these names. A verdict without a receipt is not an answer of
-- a table.
abbrev pub HasItsReceipt : List Read → List Read → List (List ℕ) → Command → Verdict → Type 0
HasItsReceipt old new names command v =
    MatchOption (receipt_of v)
    (IfSome (table_of_steps command) (λ settings. IsAnswerStatus (status_of (denoted v)) → ⊥))
    (λ (r : ReceiptView). IsByReceipt old new names command r (denoted v))

-- the same for a command that the arguments form
abbrev pub HasReceiptForWords : List (List ℕ) → List Read → List Read → Verdict → Type 0
HasReceiptForWords words old new v =
    MatchOption (receipt_of v)
    ((command : Order) → Orders words command → RunsOnTable command → IsAnswerStatus (status_of (denoted v)) → ⊥)
    (λ (r : ReceiptView). (command : Order) × Orders words command
    × IsByReceipt old new (files_of command) (command_of command) r (denoted v))
