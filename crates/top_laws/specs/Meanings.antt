-- Arguments and what their operands hold denote one verdict, so that one text is printed for them.
-- Carried by: laws `one_meaning`, `some_meaning`, `one_job`.
use Rattle.std.specs.Prelude.{◌≡◌, ◌⊎◌, ℕ, List}
use Rattle.coll_data.specs.Data.{Data}
use Rattle.plan_core.specs.declared.plan.Plan.{Plan}
use Rattle.job_stages.specs.declared.verdict.JobVerdict.TheVariants as jobs
use Rattle.ptg_words.specs.declared.order.Order.{Order}
use Rattle.ptg_words.specs.declared.order.Order.TheVariants.{Trace}
use Rattle.ptg_words.specs.Words.{Orders}
use Rattle.ptg_top.specs.declared.status.Status.{Status}
use Rattle.ptg_top.specs.Denotation as verdicts
use Rattle.ptg_top.specs.Denotation.{Denotation}
use Rattle.ptg_top.specs.Headline.{Prints}
use Rattle.ptg_top.specs.Operands.{Operands}
use Rattle.ptg_top.specs.JobFiles.{FilesDenote}
use Rattle.ptg_top.specs.Meaning.{Denotes}
use Rattle.ptg_top.specs.Trace.{IsTraced}

-- the command is not `trace`
abbrev pub IsNoTrace : Order → Type 0
IsNoTrace (Trace jdf data_name workers shards) = ⊥
IsNoTrace command = Unit {0}

-- the arguments ask for no trace
abbrev pub AskForNoTrace : List (List ℕ) → Type 0
AskForNoTrace words = (command : Order) → Orders words command → IsNoTrace command

-- arguments that ask for no trace, with their operands, denote at most one verdict
abbrev pub OneMeaning : Type 0
OneMeaning =
    (words : List (List ℕ)) (operands : Operands) (v w : Denotation) → AskForNoTrace words → Denotes words operands v
    → Denotes words operands w → v ≡ w

-- two verdicts are texts of whole orders of one consistent job, which the first two operands denote
abbrev pub AreTracesOfOneJob : Operands → Denotation → Denotation → Type 0
AreTracesOfOneJob operands v w =
    (jdf data_name : List ℕ) × (P : Plan) × (given : Data)
    × FilesDenote operands jdf data_name (verdicts.Job (jobs.Consistent P given))
    × IsTraced P given v × IsTraced P given w

-- two verdicts that the same arguments and operands denote are the same, or traces of one job
abbrev pub OneJob : Type 0
OneJob =
    (words : List (List ℕ)) (operands : Operands) (v w : Denotation) → Denotes words operands v → Denotes words operands w
    → (v ≡ w) ⊎ AreTracesOfOneJob operands v w

-- any arguments and operands denote a verdict
abbrev pub SomeMeaning : Type 0
SomeMeaning = (words : List (List ℕ)) (operands : Operands) → (v : Denotation) × Denotes words operands v

-- arguments that ask for no trace, with their operands, determine what is printed, and the status
abbrev pub OneOutput : Type 0
OneOutput =
    (words : List (List ℕ)) (operands : Operands) (before after other : List ℕ) (status another : Status)
    → AskForNoTrace words → Prints words operands before after status → Prints words operands before other another
    → (after ≡ other) × (status ≡ another)

-- for any arguments and operands something is printed, with a status
abbrev pub SomeOutput : Type 0
SomeOutput =
    (words : List (List ℕ)) (operands : Operands) (before : List ℕ)
    → (after : List ℕ) × (status : Status) × Prints words operands before after status
