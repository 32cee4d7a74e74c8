-- How the steps of a command end, if reads may fail. `old` and `new` are the reads before and after; `failed` and
-- `failed_since` count, before and after, the failed reads of each name.
use Rattle.std.specs.Prelude.{◌≡◌, ◌⊎◌, ℕ, List}
use Rattle.ptg_io.specs.Faults.{Rose}
use Rattle.ptg_io.specs.Reads.{HaveBegun, IsLoaded}
use Rattle.coll_data.specs.Data.{Data}
use Rattle.plan_core.specs.declared.plan.Plan.{Plan}
use Rattle.jdf_tree.specs.declared.tree.Jdf.{Jdf}
use Rattle.jdf_tree.specs.Jdf.{IsJdf}
use Rattle.job_stages.specs.declared.verdict.JobVerdict.{JobVerdict}
use Rattle.job_stages.specs.Verdict.{TextsDenote}
use Rattle.ptg_top.specs.declared.command.Action.{Action}
use Rattle.ptg_top.specs.declared.command.Command.{Command}
use Rattle.ptg_top.specs.declared.command.Source.{Source}
use Rattle.ptg_top.specs.Commands.{files_of_action, files_of_source, files_of_steps}
use Rattle.ptg_top.specs.Denotation as verdicts
use Rattle.ptg_top.specs.Denotation.{Denotation}
use Rattle.ptg_top.specs.Operands.{Read, load_of}
use Rattle.ptg_top.specs.JobFiles.{RefusesText}
use Rattle.ptg_top.specs.Replay.{IsReplayOf}
use Rattle.ptg_top.specs.Meaning.{ActionDenotes, SourceDenotes, StepsDenote}
use Rattle.ptg_top.specs.Reports.{EndsWith, IsOfTexts, NoneFailed}

-- the file of this name was loaded with this text, and no read failed
abbrev pub LoadedAs : List Read → List Read → (List ℕ → ℕ) → (List ℕ → ℕ) → List ℕ → List ℕ → Type 0
LoadedAs old new failed failed_since name text =
    IsLoaded (load_of name text) old new × NoneFailed failed failed_since

-- a read of the file of this name failed, and the verdict says so
abbrev pub IsReadFault : List Read → List Read → (List ℕ → ℕ) → (List ℕ → ℕ) → List ℕ → Denotation → Type 0
IsReadFault old new failed failed_since name v =
    (v ≡ verdicts.Unread name) × HaveBegun name old new × Rose (failed name) (failed_since name)

-- the tree of the JDF file of this name was read
abbrev pub IsTreeRead : List Read → List Read → (List ℕ → ℕ) → (List ℕ → ℕ) → List ℕ → Jdf → Type 0
IsTreeRead old new failed failed_since name J =
    (text : List ℕ) × IsJdf text J × LoadedAs old new failed failed_since name text

-- No tree was read from the JDF file of this name: a read of that file failed, or its text is refused.
abbrev pub TreeIsRefused : List Read → List Read → (List ℕ → ℕ) → (List ℕ → ℕ) → List ℕ → Denotation → Type 0
TreeIsRefused old new failed failed_since name v =
    IsReadFault old new failed failed_since name v
    ⊎ (IsOfTexts v × (text : List ℕ) × RefusesText text v × LoadedAs old new failed failed_since name text)

-- How the check of a JDF of this text with the data file of this name ends: a read of that file failed, or the two
-- texts denote the verdict.
abbrev pub CheckOfDataEndsWith : List Read → List Read → (List ℕ → ℕ) → (List ℕ → ℕ) → List ℕ → List ℕ → Denotation
    → Type 0
CheckOfDataEndsWith old new failed failed_since text data_name v =
    IsReadFault old new failed failed_since data_name v
    ⊎ ((job : JobVerdict) × (v ≡ verdicts.Job job) × (data_text : List ℕ) × TextsDenote text data_text job
    × LoadedAs old new failed failed_since data_name data_text)

-- How the replay of a consistent job with the trace file of this name ends: a read of that file failed, or the verdict
-- is the one on its text.
abbrev pub ReplayEndsWith : List Read → List Read → (List ℕ → ℕ) → (List ℕ → ℕ) → List ℕ → Plan → Data → Denotation
    → Type 0
ReplayEndsWith old new failed failed_since trace P given v =
    IsReadFault old new failed failed_since trace v
    ⊎ (IsOfTexts v × (text : List ℕ) × IsReplayOf text P given v
    × LoadedAs old new failed failed_since trace text)

-- how the check of a job ends
abbrev pub CheckEndsWith : List Read → List Read → (List ℕ → ℕ) → (List ℕ → ℕ) → Source → Denotation → Type 0
CheckEndsWith old new failed failed_since source v =
    EndsWith old new failed failed_since (files_of_source source) (λ operands. SourceDenotes operands source) v

-- how an action on a consistent job ends
abbrev pub ActionEndsWith : List Read → List Read → (List ℕ → ℕ) → (List ℕ → ℕ) → Action → Plan → Data → Denotation
    → Type 0
ActionEndsWith old new failed failed_since action P given v =
    EndsWith old new failed failed_since (files_of_action action)
    (λ operands. ActionDenotes (operands 0) action P given) v

-- how all that is done for a command ends
abbrev pub StepsEndWith : List Read → List Read → (List ℕ → ℕ) → (List ℕ → ℕ) → Command → Denotation → Type 0
StepsEndWith old new failed failed_since command v =
    EndsWith old new failed failed_since (files_of_steps command) (λ operands. StepsDenote operands command) v
