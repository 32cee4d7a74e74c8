-- What the clauses of the program say if the contents of the files are known: the files denote what the loads denote.
-- Carried by: law `over_known_files`.
use Rattle.std.specs.Prelude.{◌≡◌, ◌⊎◌, ◌<◌, ℕ, List, length, Option, Some}
use Rattle.std.specs.List.{AllByRecursion}
use Rattle.ptg_base.specs.Limits.{most_bytes}
use Rattle.ptg_io.specs.Faults.{Rose}
use Rattle.ptg_io.specs.Files.{file_of}
use Rattle.ptg_io.specs.Reads.{AddsPieces, Gave}
use Rattle.coll_data.specs.Data.{Data}
use Rattle.plan_core.specs.declared.plan.Plan.{Plan}
use Rattle.jdf_tree.specs.declared.tree.Jdf.{Jdf}
use Rattle.jdf_tree.specs.Jdf.{IsJdf}
use Rattle.job_stages.specs.declared.verdict.JobVerdict.TheVariants as jobs
use Rattle.report_text.specs.Puts.{HasPrefix}
use Rattle.ptg_words.specs.declared.order.Order.{Order}
use Rattle.ptg_words.specs.declared.order.Order.TheVariants.{Run, Show, Check, Demo, Trace, Replay, Certify, Ranks}
use Rattle.ptg_words.specs.Words.{Orders}
use Rattle.ptg_top.specs.declared.status.Status.{Status}
use Rattle.ptg_top.specs.declared.status.Status.TheVariants.{OutOfMemory}
use Rattle.ptg_top.specs.Denotation as verdicts
use Rattle.ptg_top.specs.Denotation.{Denotation}
use Rattle.ptg_top.specs.Operands.{Load, NamedFiles, Read, in_files, in_loads}
use Rattle.ptg_top.specs.JobFiles.{FilesDenote}
use Rattle.ptg_top.specs.Meaning.{CommandDenotes, IsNoCommand}
use Rattle.ptg_top.specs.Reports.{HasLoaded, IsOfTexts, IsUnread}
use Rattle.ptg_top.specs.Headline.{IsCut, IsExact, Prints, PrintsLoaded, text_of}
use Rattle.ptg_top.specs.Receipts.{HasConsistentJob}

-- the text is this one, or both have more than 16 MiB
abbrev pub IsSameOrLong : List ℕ → List ℕ → Type 0
IsSameOrLong text bytes = (text ≡ bytes) ⊎ ((most_bytes < length text) × (most_bytes < length bytes))

-- a file with the load's name exists, and the load is that file, or both have more than 16 MiB
abbrev pub IsFileOf : NamedFiles → Load → Type 0
IsFileOf files load = (bytes : List ℕ) × (file_of files load.name ≡ Some bytes) × IsSameOrLong load.text bytes

-- if reads returned pieces of known files, each load is the file with its name, or both have more than 16 MiB
abbrev pub LoadsAreFiles : Type 0
LoadsAreFiles =
    (files : NamedFiles) (old new : List Read) (loads : List Load)
    → AddsPieces (Some files) old new → Gave old new loads → AllByRecursion (IsFileOf files) loads

-- `exact` over known files: what is printed is exactly a text that the arguments and the files denote, with its status
abbrev pub ExactOverFiles : Type 0
ExactOverFiles =
    (words : List (List ℕ)) (files : NamedFiles) (old new : List Read) (before after : List ℕ) (status : Status)
    → AddsPieces (Some files) old new → IsExact status → PrintsLoaded words old new before after status
    → Prints words (in_files files) before after status

-- `complete` over known files: the same if no read and no write failed, unless memory ran out
abbrev pub CompleteOverFiles : Type 0
CompleteOverFiles =
    (words : List (List ℕ)) (files : NamedFiles) (old new : List Read) (before after : List ℕ) (status : Status)
    → AddsPieces (Some files) old new
    → (IsExact status × PrintsLoaded words old new before after status) ⊎ (status ≡ OutOfMemory)
    → Prints words (in_files files) before after status ⊎ (status ≡ OutOfMemory)

-- the file of this name holds a text of this tree
abbrev pub TreeAt : NamedFiles → List ℕ → Jdf → Type 0
TreeAt files name J = (text : List ℕ) × (file_of files name ≡ Some text) × IsJdf text J

-- This is the name of the JDF file or of the data file. If it is the data file and the contents are known, the JDF file
-- holds the text of a tree.
abbrev pub IsUnreadOf : Option NamedFiles → List ℕ → List ℕ → List ℕ → Type 0
IsUnreadOf contents jdf data_name name =
    (name ≡ jdf)
    ⊎ ((name ≡ data_name) × ((files : NamedFiles) → contents ≡ Some files → (J : Jdf) × TreeAt files jdf J))

-- This is the name of the trace file. If the contents are known, the other two files are those of a consistent job.
abbrev pub IsUnreadTrace : Option NamedFiles → List ℕ → List ℕ → List ℕ → List ℕ → Type 0
IsUnreadTrace contents jdf data_name trace name =
    (name ≡ trace)
    × ((files : NamedFiles) → contents ≡ Some files
    → (P : Plan) × (given : Data)
    × FilesDenote (in_files files) jdf data_name (verdicts.Job (jobs.Consistent P given)))

-- the names that `unread` may have for a command
abbrev pub MayBeUnreadFor : Option NamedFiles → Order → List ℕ → Type 0
MayBeUnreadFor contents (Run jdf data_name workers shards preload) name = IsUnreadOf contents jdf data_name name
MayBeUnreadFor contents (Show jdf) name = name ≡ jdf
MayBeUnreadFor contents (Check jdf data_name) name = IsUnreadOf contents jdf data_name name
MayBeUnreadFor contents (Demo rows) name = ⊥
MayBeUnreadFor contents (Trace jdf data_name workers shards) name = IsUnreadOf contents jdf data_name name
MayBeUnreadFor contents (Replay jdf data_name trace) name =
    IsUnreadOf contents jdf data_name name ⊎ IsUnreadTrace contents jdf data_name trace name
MayBeUnreadFor contents (Certify jdf data_name) name = IsUnreadOf contents jdf data_name name
MayBeUnreadFor contents (Ranks jdf data_name ranks seed) name = IsUnreadOf contents jdf data_name name

-- The names that `unread` may have: that of the JDF file, of the data file or of the trace file. If the contents are
-- known, the data file comes only if the JDF is the text of a tree. The trace file then comes only if the other two
-- files are those of a consistent job.
abbrev pub MayBeUnread : List (List ℕ) → Option NamedFiles → List ℕ → Type 0
MayBeUnread words contents name = (command : Order) × Orders words command × MayBeUnreadFor contents command name

-- `unread` over files, known or not: a read of that name failed, and the name is one of these
abbrev pub UnreadOverFiles : Type 0
UnreadOverFiles =
    (words : List (List ℕ)) (contents : Option NamedFiles) (old new : List Read) (failed failed_since : List ℕ → ℕ)
    (name : List ℕ)
    → AddsPieces contents old new → IsUnread words old new failed failed_since name
    → Rose (failed name) (failed_since name) × MayBeUnread words contents name

-- A verdict that was due when a write failed. It is usage for arguments that form no command, the name of a file that
-- could not be read, or a verdict on texts. If the contents are known, the last is what the files denote.
abbrev pub IsDue : List (List ℕ) → Option NamedFiles → (List ℕ → ℕ) → (List ℕ → ℕ) → Denotation → Type 0
IsDue words contents failed failed_since v =
    (IsNoCommand words × (v ≡ verdicts.Usage))
    ⊎ ((command : Order) × Orders words command
    × (((name : List ℕ) × Rose (failed name) (failed_since name) × MayBeUnreadFor contents command name
    × (v ≡ verdicts.Unread name))
    ⊎ (IsOfTexts v × ((files : NamedFiles) → contents ≡ Some files → CommandDenotes (in_files files) command v))))

-- `cut` over files, known or not: a prefix of the text of a verdict that was due was written
abbrev pub CutOverFiles : Type 0
CutOverFiles =
    (words : List (List ℕ)) (contents : Option NamedFiles) (old new : List Read) (failed failed_since : List ℕ → ℕ)
    (before after : List ℕ)
    → AddsPieces contents old new → IsCut words old new failed failed_since before after
    → (v : Denotation) × IsDue words contents failed failed_since v × HasPrefix before after (text_of v)

-- `of_job` over known files: the files denote this consistent job
abbrev pub JobOverFiles : Type 0
JobOverFiles =
    (words : List (List ℕ)) (files : NamedFiles) (old new : List Read) (loads : List Load) (P : Plan) (given : Data)
    → AddsPieces (Some files) old new → HasLoaded words old new loads
    → HasConsistentJob words (in_loads loads) P given → HasConsistentJob words (in_files files) P given

-- what was read determines the loads
abbrev pub OneLoading : Type 0
OneLoading = (old new : List Read) (loads others : List Load) → Gave old new loads → Gave old new others → loads ≡ others
