-- What follows from the definition of the verdict on two texts.
use Rattle.std.specs.Prelude.{◌≡◌, ℕ, List}
use Rattle.type_rules.specs.Names.{Job}
use Rattle.job_stages.specs.declared.verdict.JobVerdict.{JobVerdict}
use Rattle.job_stages.specs.Verdict.{JobDenotes, TextsDenote}

-- A JDF with its data denotes at most one verdict.
abbrev pub OneVerdictOfJob : Type 0
OneVerdictOfJob = (job : Job) (v w : JobVerdict) → JobDenotes job v → JobDenotes job w → v ≡ w

-- Two texts denote at most one verdict.
abbrev pub OneVerdict : Type 0
OneVerdict =
    (jdf_text data_text : List ℕ) (v w : JobVerdict) → TextsDenote jdf_text data_text v
    → TextsDenote jdf_text data_text w → v ≡ w
