-- A command as what is done with which job: the files that it names, the table that runs its job, and when its names
-- and numbers are valid.
-- Carried by: `ptg_main` (`CommandDenotes`, `receipt`).
-- Tested by: all rows.
use Rattle.std.specs.Prelude.{◌≡◌, ℕ, ◌≤◌, false, List, [], ◌∷◌, ◌++◌, Option, Some, None}
use Rattle.std.specs.Str.{IsUtf8}
use Rattle.ptg_base.specs.Limits.{AreRunCounts, IsRankCount, most_rows}
use Rattle.ptg_words.specs.declared.order.Order.{Order}
use Rattle.ptg_words.specs.declared.order.Order.TheVariants as order
use Rattle.run_pool.specs.declared.settings.Settings.{Settings}
use Rattle.ptg_top.specs.declared.command.Action.{Action}
use Rattle.ptg_top.specs.declared.command.Action.TheVariants as actions
use Rattle.ptg_top.specs.declared.command.Command.{Command}
use Rattle.ptg_top.specs.declared.command.Command.TheVariants as commands
use Rattle.ptg_top.specs.declared.command.Source.{Source}
use Rattle.ptg_top.specs.declared.command.Source.TheVariants.{Files, Made}
use Rattle.ptg_top.specs.Tables.{usual_settings}

-- what is done for each command
abbrev pub command_of : Order → Command
command_of (order.Run jdf data_name workers shards preload) =
    commands.Job (Files jdf data_name)
    (actions.Run (record { workers = workers; shards = shards; preload = preload }))
command_of (order.Show jdf) = commands.Show jdf
command_of (order.Check jdf data_name) = commands.Job (Files jdf data_name) actions.Count
command_of (order.Demo rows) = commands.Job (Made rows) (actions.Sum rows usual_settings)
command_of (order.Trace jdf data_name workers shards) =
    commands.Job (Files jdf data_name)
    (actions.Trace (record { workers = workers; shards = shards; preload = false }))
command_of (order.Replay jdf data_name trace) = commands.Job (Files jdf data_name) (actions.Replay trace)
command_of (order.Certify jdf data_name) = commands.Job (Files jdf data_name) (actions.Certify usual_settings)
command_of (order.Ranks jdf data_name ranks seed) =
    commands.Job (Files jdf data_name) (actions.Rank (record { ranks = ranks; seed = seed }))

-- ---- the files

-- the files of a job
abbrev pub files_of_source : Source → List (List ℕ)
files_of_source (Files jdf data_name) = jdf ∷ data_name ∷ []
files_of_source (Made rows) = []

-- how many files a job has
abbrev pub file_count : Source → ℕ
file_count (Files jdf data_name) = 2
file_count (Made rows) = 0

-- the files that an action reads
abbrev pub files_of_action : Action → List (List ℕ)
files_of_action (actions.Replay trace) = trace ∷ []
files_of_action action = []

-- the files of a command
abbrev pub files_of_steps : Command → List (List ℕ)
files_of_steps (commands.Show jdf) = jdf ∷ []
files_of_steps (commands.Job source action) = files_of_source source ++ files_of_action action

-- ---- the table

-- the settings of the table on which an action runs the job; None if no table runs it
abbrev pub table_of : Action → Option Settings
table_of (actions.Run settings) = Some settings
table_of (actions.Sum rows settings) = Some settings
table_of (actions.Trace settings) = Some settings
table_of (actions.Certify settings) = Some settings
table_of action = None

-- the same for a command
abbrev pub table_of_steps : Command → Option Settings
table_of_steps (commands.Show jdf) = None
table_of_steps (commands.Job source action) = table_of action

-- ---- names and numbers

-- the names of files are text, and a made job has 1 to 96 rows of tiles
abbrev pub IsValidSource : Source → Type 0
IsValidSource (Files jdf data_name) = IsUtf8 jdf × IsUtf8 data_name
IsValidSource (Made rows) = (1 ≤ rows) × (rows ≤ most_rows)

-- the numbers of workers, shards and ranks are in their ranges, and the name of a trace is text
abbrev pub IsValidAction : Action → Type 0
IsValidAction actions.Count = Unit {0}
IsValidAction (actions.Run settings) = AreRunCounts settings.workers settings.shards
IsValidAction (actions.Sum rows settings) = AreRunCounts settings.workers settings.shards
IsValidAction (actions.Trace settings) =
    AreRunCounts settings.workers settings.shards × (settings.preload ≡ false)
IsValidAction (actions.Replay trace) = IsUtf8 trace
IsValidAction (actions.Certify settings) = AreRunCounts settings.workers settings.shards
IsValidAction (actions.Rank settings) = IsRankCount settings.ranks

-- all names and numbers of a command are valid
abbrev pub IsValid : Command → Type 0
IsValid (commands.Show jdf) = IsUtf8 jdf
IsValid (commands.Job source action) = IsValidSource source × IsValidAction action
