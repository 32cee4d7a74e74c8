-- What the text of a JDF and the text of its data denote. Refusals come in this order: the JDF's text, the data's text,
-- a global missing from the data, the names and kinds of the JDF, consistency.
-- Carried by: `judge_texts`, `judge_data`; laws `one_verdict`, `job_laws::every_job_has_a_verdict`.
-- Tested by: `check.txt`, `check_codes.txt`.
use Rattle.std.specs.Prelude.{◌≡◌, ◌⊎◌, ℕ, ◌+◌, List}
use Rattle.jdf_lex.specs.declared.fault.JdfFault.{JdfFault}
use Rattle.jdf_tree.specs.declared.tree.Jdf.{Jdf}
use Rattle.jdf_tree.specs.Jdf.{IsJdf}
use Rattle.jdf_tree.specs.Fault.{IsJdfFault}
use Rattle.coll_data.specs.Data.{Data}
use Rattle.coll_data.specs.declared.fault.DataCode.TheVariants.{MissingName}
use Rattle.coll_data.specs.declared.fault.DataFault.{DataFault}
use Rattle.type_rules.specs.Names.{Job}
use Rattle.type_check.specs.Check as types
use Rattle.dep_iter.specs.Consistent.{IsConsistent}
use Rattle.edge_match.specs.FirstFault as edges
use Rattle.job_stages.specs.declared.verdict.JobVerdict.{JobVerdict}
use Rattle.job_stages.specs.declared.verdict.JobVerdict.TheVariants as verdicts
use Rattle.job_stages.specs.DataText.{IsDataFault}
use Rattle.job_stages.specs.Stages.{HasJob, HasGlobals, HasPlan, HasMissingGlobal}

-- the fault of data from which a global is missing, at the row after their last record
abbrev pub missing_name : Data → DataFault
missing_name given = record { row = given.records_read + 1; code = MissingName }

-- A JDF with its data denotes one of four verdicts, the first that applies. A global is missing from the data. The
-- names and kinds of the JDF have a first fault. The plan has a first fault; the verdict keeps the plan, whose names
-- are printed. The plan is consistent; the verdict keeps it with the data.
abbrev pub JobDenotes : Job → JobVerdict → Type 0
JobDenotes job (verdicts.Data fault) = HasMissingGlobal job × (fault ≡ missing_name job.given)
JobDenotes job (verdicts.Jdf fault) = HasGlobals job × types.IsFirstFault job fault
JobDenotes job (verdicts.Inconsistent P fault) = HasPlan job P × edges.IsFirstFault P fault
JobDenotes job (verdicts.Consistent P given) = HasPlan job P × IsConsistent P × (given ≡ job.given)

-- the JDF's text has this first fault
abbrev pub JdfTextDenotes : List ℕ → JobVerdict → Type 0
JdfTextDenotes jdf_text v = (fault : JdfFault) × IsJdfFault jdf_text fault × (v ≡ verdicts.Jdf fault)

-- the JDF's text is that of a tree, and the data's text has this first fault
abbrev pub DataTextDenotes : List ℕ → List ℕ → JobVerdict → Type 0
DataTextDenotes jdf_text data_text v =
    (J : Jdf) × (fault : DataFault) × IsJdf jdf_text J × IsDataFault data_text fault × (v ≡ verdicts.Data fault)

-- Two texts denote this verdict: the first fault of the JDF's text; else the first fault of the data's text; else what
-- the job of both denotes.
abbrev pub TextsDenote : List ℕ → List ℕ → JobVerdict → Type 0
TextsDenote jdf_text data_text v =
    JdfTextDenotes jdf_text v
    ⊎ (DataTextDenotes jdf_text data_text v ⊎ ((job : Job) × HasJob jdf_text data_text job × JobDenotes job v))
