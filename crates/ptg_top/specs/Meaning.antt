-- The verdict that the arguments and what their file operands hold denote, whatever the machine, over the definitions
-- of the stages.
-- Carried by: `ptg_main`; laws `top_laws::one_meaning`, `top_laws::some_meaning`, `top_laws::over_known_files`.
-- Tested by: all rows, `two_faults.txt`.
use Rattle.std.specs.Prelude.{◌≡◌, ◌⊎◌, ℕ, List, [], Option, Some, None}
use Rattle.jdf_tree.specs.declared.tree.Jdf.{Jdf}
use Rattle.jdf_tree.specs.Jdf.{IsJdf}
use Rattle.jdf_print.specs.Spelling.{spelling}
use Rattle.coll_data.specs.Data.{Data}
use Rattle.plan_core.specs.declared.plan.Plan.{Plan}
use Rattle.job_stages.specs.declared.verdict.JobVerdict.TheVariants as jobs
use Rattle.ptg_words.specs.declared.order.Order.{Order}
use Rattle.ptg_words.specs.Laws.{files_of}
use Rattle.ptg_words.specs.Words.{Orders}
use Rattle.ptg_top.specs.declared.command.Action.{Action}
use Rattle.ptg_top.specs.declared.command.Action.TheVariants as actions
use Rattle.ptg_top.specs.declared.command.Command.{Command}
use Rattle.ptg_top.specs.declared.command.Command.TheVariants as commands
use Rattle.ptg_top.specs.declared.command.Source.{Source}
use Rattle.ptg_top.specs.declared.command.Source.TheVariants.{Files, Made}
use Rattle.ptg_top.specs.Commands.{command_of, file_count}
use Rattle.ptg_top.specs.Denotation as verdicts
use Rattle.ptg_top.specs.Denotation.{Denotation}
use Rattle.ptg_top.specs.Operands.{AreOf, Load, Operands}
use Rattle.ptg_top.specs.JobFiles.{FilesDenote, RefusesText}
use Rattle.ptg_top.specs.Answering.{GoesOnFrom, IsAnswer}
use Rattle.ptg_top.specs.Certify.{IsCertified}
use Rattle.ptg_top.specs.Demo.{IsSummary, MadeTextsDenote}
use Rattle.ptg_top.specs.Replay.{IsReplayed}
use Rattle.ptg_top.specs.Trace.{IsTraced}
use Rattle.ptg_top.specs.Ranks.{IsRanked}

-- the arguments form no command
abbrev pub IsNoCommand : List (List ℕ) → Type 0
IsNoCommand words = (command : Order) → Orders words command → ⊥

-- the verdict of `show` on the text of a JDF: its first fault, or the canonical spelling of its tree
abbrev pub Shows : List ℕ → Denotation → Type 0
Shows text v = RefusesText text v ⊎ ((J : Jdf) × IsJdf text J × (v ≡ verdicts.Spelling (spelling J)))

-- the verdict of `show` on a file with this name and this content: that it is unread if it is missing, or the one on
-- its text
abbrev pub ContentShows : List ℕ → Option (List ℕ) → Denotation → Type 0
ContentShows name None v = v ≡ verdicts.Unread name
ContentShows name (Some text) v = Shows text v

-- the operands, or the texts that are made, denote this verdict of `check` on a job
abbrev pub SourceDenotes : Operands → Source → Denotation → Type 0
SourceDenotes operands (Files jdf data_name) v = FilesDenote operands jdf data_name v
SourceDenotes operands (Made rows) v = MadeTextsDenote rows v

-- The verdict of an action on a consistent job. That of `check` is the job itself, and that of `run` the answer, or
-- that the preload is too large. That of `demo` is the summary, and that of `trace` the text of some whole order.
-- `replay` has the one on the trace file, and `certify` the certificate's finding. `ranks` has the number of messages
-- with the answer, whatever the seed. `held` is what the file that the action reads holds, by its name.
abbrev pub ActionDenotes : (List ℕ → Option (List ℕ)) → Action → Plan → Data → Denotation → Type 0
ActionDenotes held actions.Count P given v = v ≡ verdicts.Job (jobs.Consistent P given)
ActionDenotes held (actions.Run settings) P given v = IsAnswer settings P given v
ActionDenotes held (actions.Sum rows settings) P given v = IsSummary rows P given v
ActionDenotes held (actions.Trace settings) P given v = IsTraced P given v
ActionDenotes held (actions.Replay trace) P given v = IsReplayed trace (held trace) P given v
ActionDenotes held (actions.Certify settings) P given v = IsCertified P given v
ActionDenotes held (actions.Rank settings) P given v = IsRanked settings.ranks P given v

-- the verdict of `check` on a job, or what an action makes of it if it is consistent
abbrev pub JobDenotes : Operands → Source → Action → Denotation → Type 0
JobDenotes operands source actions.Count v = SourceDenotes operands source v
JobDenotes operands source action v =
    GoesOnFrom (SourceDenotes operands source) (ActionDenotes (operands (file_count source)) action) v

-- what the operands denote for what is done for a command
abbrev pub StepsDenote : Operands → Command → Denotation → Type 0
StepsDenote operands (commands.Show jdf) v = ContentShows jdf (operands 0 jdf) v
StepsDenote operands (commands.Job source action) v = JobDenotes operands source action v

-- What the operands denote for a command. Every command on a job refuses what `check` refuses. `demo` reads no file.
abbrev pub CommandDenotes : Operands → Order → Denotation → Type 0
CommandDenotes operands command v = StepsDenote operands (command_of command) v

-- The arguments and the operands denote this verdict: usage, if the arguments form no command; else what the operands
-- denote for the command. For `trace` they may denote several verdicts.
abbrev pub Denotes : List (List ℕ) → Operands → Denotation → Type 0
Denotes words operands v =
    (IsNoCommand words × (v ≡ verdicts.Usage))
    ⊎ ((command : Order) × Orders words command × CommandDenotes operands command v)

-- the loads are of the first file operands of the command that the arguments form, in order; there are none if the
-- arguments form no command
abbrev pub AreFirstOperands : List (List ℕ) → List Load → Type 0
AreFirstOperands words loads =
    (IsNoCommand words × (loads ≡ []))
    ⊎ ((command : Order) × Orders words command × AreOf loads (files_of command))
