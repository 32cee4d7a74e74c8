-- What the two files of a job denote, whatever the machine. The data file is read only once the JDF's text was found to
-- be that of a tree.
-- Carried by: `ptg_main`.
-- Tested by: `check.txt`, `examples.txt`.
use Rattle.std.specs.Prelude.{◌≡◌, ◌⊎◌, ℕ, List, Option, Some, None}
use Rattle.jdf_tree.specs.declared.tree.Jdf.{Jdf}
use Rattle.jdf_tree.specs.Jdf.{IsJdf}
use Rattle.job_stages.specs.declared.verdict.JobVerdict.{JobVerdict}
use Rattle.job_stages.specs.Fitting.{HasFittingData}
use Rattle.job_stages.specs.Verdict.{JdfTextDenotes, TextsDenote}
use Rattle.ptg_top.specs.Denotation as verdicts
use Rattle.ptg_top.specs.Denotation.{Denotation}
use Rattle.ptg_top.specs.Operands.{Operands}

-- the text of a JDF has a fault, and this is its refusal
abbrev pub RefusesText : List ℕ → Denotation → Type 0
RefusesText text v = (job : JobVerdict) × JdfTextDenotes text job × (v ≡ verdicts.Job job)

-- the text of a JDF and the text of its data denote this verdict
abbrev pub JobTextsDenote : List ℕ → List ℕ → Denotation → Type 0
JobTextsDenote text data_text v = (job : JobVerdict) × TextsDenote text data_text job × (v ≡ verdicts.Job job)

-- The contents of a JDF file and of a data file with these names denote this verdict. If the JDF file is missing, the
-- verdict is that it is unread. If only the data file is missing, it is the first fault of the JDF's text, or else that
-- the data file is unread. Otherwise it is what the two texts denote.
abbrev pub ContentsDenote : List ℕ → List ℕ → Option (List ℕ) → Option (List ℕ) → Denotation → Type 0
ContentsDenote jdf data_name None other v = v ≡ verdicts.Unread jdf
ContentsDenote jdf data_name (Some text) None v =
    RefusesText text v ⊎ ((J : Jdf) × IsJdf text J × (v ≡ verdicts.Unread data_name))
ContentsDenote jdf data_name (Some text) (Some data_text) v = JobTextsDenote text data_text v

-- the first two operands, with these names, denote this verdict
abbrev pub FilesDenote : Operands → List ℕ → List ℕ → Denotation → Type 0
FilesDenote operands jdf data_name v = ContentsDenote jdf data_name (operands 0 jdf) (operands 1 data_name) v

-- The verdict is one of `check`: a file could not be read, or it is a verdict on texts, in which the data of a
-- consistent job fit its plan.
abbrev pub IsChecked : Denotation → Type 0
IsChecked (verdicts.Unread name) = Unit {0}
IsChecked (verdicts.Job job) = HasFittingData job
IsChecked v = ⊥
