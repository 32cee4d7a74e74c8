-- Two texts denote the same if they are the same or both too long.
use Rattle.std.proofs.Common.{◌≡◌, ℕ, ◌<◌, List, length, Some, sym, subst, arith, inl, inr}
use Rattle.std.specs.Prelude.{Option, None}
use Rattle.coll_data.specs.Data.{Data}
use Rattle.plan_core.specs.declared.plan.Plan.{Plan}
use Rattle.jdf_lex.specs.declared.fault.JdfFault.{JdfFault}
use Rattle.jdf_tree.specs.Fault.{IsJdfFault}
use Rattle.coll_data.specs.declared.fault.DataFault.{DataFault}
use Rattle.job_stages.specs.DataText.{IsDataFault}
use Rattle.job_stages.specs.Verdict.{TextsDenote}
use Rattle.job_stages.specs.declared.verdict.JobVerdict.{JobVerdict}
use Rattle.trace_core.specs.Faults.{IsTraceFault, of_spelling, of_tasks}
use Rattle.trace_core.specs.Reading.{IsSpellingFault, of_a_row, over_length}
use Rattle.trace_core.specs.declared.fault.TraceFault.{TraceFault}
use Rattle.ptg_top.specs.Denotation as verdicts
use Rattle.ptg_top.specs.Denotation.{Denotation}
use Rattle.ptg_top.specs.JobFiles.{ContentsDenote, JobTextsDenote, RefusesText}
use Rattle.ptg_top.specs.Meaning.{ContentShows, Shows}
use Rattle.ptg_top.specs.Replay.{IsReplayed, IsReplayOf}
use Rattle.top_laws.specs.Known.{IsSameOrLong}

-- the verdict is no read fault
abbrev pub WasRead : Denotation → Type 0
WasRead v = (name : List ℕ) → v ≡ verdicts.Unread name → ⊥

-- if the first content exists, so does the second, and their texts are the same or both too long
abbrev pub Agree : Option (List ℕ) → Option (List ℕ) → Type 0
Agree None content = Unit {0}
Agree (Some text) content = (bytes : List ℕ) × (content ≡ Some bytes) × IsSameOrLong text bytes

module _ (text bytes : List ℕ) where
  -- ---- the text of a JDF

  long_jdf : (fault : JdfFault) → 16777216 < length text → 16777216 < length bytes → IsJdfFault text fault → IsJdfFault bytes fault
  long_jdf fault long longer (inl h) = inl (record { long = longer; fault_is = h.fault_is })
  long_jdf fault long longer (inr (inl h)) = absurd (omega (arith, long, h.bytes_at_most))
  long_jdf fault long longer (inr (inr (inl h))) = absurd (omega (arith, long, h.bytes_at_most))
  long_jdf fault long longer (inr (inr (inr h))) = absurd (omega (arith, long, h.bytes_at_most))

  jdf_fault_same : (fault : JdfFault) → IsSameOrLong text bytes → IsJdfFault text fault → IsJdfFault bytes fault
  jdf_fault_same fault (inl same) h = subst (λ (t : List ℕ). IsJdfFault t fault) same h
  jdf_fault_same fault (inr (long, longer)) h = long_jdf fault long longer h

  pub refuses_same : (v : Denotation) → IsSameOrLong text bytes → RefusesText text v → RefusesText bytes v
  refuses_same v same (job, (fault, h, e), d) = (job, (fault, jdf_fault_same fault same h, e), d)

  long_first : (data_text : List ℕ) (job : JobVerdict) → 16777216 < length text → 16777216 < length bytes
      → TextsDenote text data_text job → TextsDenote bytes data_text job
  long_first data_text job long longer (inl (fault, h, e)) = inl (fault, long_jdf fault long longer h, e)
  long_first data_text job long longer (inr (inl (J, fault, tree, h, e))) = absurd (omega (arith, long, tree.bytes_at_most))
  long_first data_text job long longer (inr (inr (found, has, h))) = absurd (omega (arith, long, has.tree.bytes_at_most))

  first_same : (data_text : List ℕ) (job : JobVerdict) → IsSameOrLong text bytes → TextsDenote text data_text job → TextsDenote bytes data_text job
  first_same data_text job (inl same) h = subst (λ (t : List ℕ). TextsDenote t data_text job) same h
  first_same data_text job (inr (long, longer)) h = long_first data_text job long longer h

  shows_same : (v : Denotation) → IsSameOrLong text bytes → Shows text v → Shows bytes v
  shows_same v (inl same) h = subst (λ (t : List ℕ). Shows t v) same h
  shows_same v (inr (long, longer)) (inl h) = inl (refuses_same v (inr (long, longer)) h)
  shows_same v (inr (long, longer)) (inr (J, tree, e)) = absurd (omega (arith, long, tree.bytes_at_most))

  -- ---- the text of data

  long_data : (fault : DataFault) → 16777216 < length text → 16777216 < length bytes → IsDataFault text fault → IsDataFault bytes fault
  long_data fault long longer (inl h) = inl (record { long = longer; fault_is = h.fault_is })
  long_data fault long longer (inr h) = absurd (omega (arith, long, h.bytes_at_most))

  long_second : (jdf_text : List ℕ) (job : JobVerdict) → 16777216 < length text → 16777216 < length bytes
      → TextsDenote jdf_text text job → TextsDenote jdf_text bytes job
  long_second jdf_text job long longer (inl h) = inl h
  long_second jdf_text job long longer (inr (inl (J, fault, tree, h, e))) = inr (inl (J, fault, tree, long_data fault long longer h, e))
  long_second jdf_text job long longer (inr (inr (found, has, h))) = absurd (omega (arith, long, has.spelled.bytes_at_most))

  second_same : (jdf_text : List ℕ) (job : JobVerdict) → IsSameOrLong text bytes → TextsDenote jdf_text text job → TextsDenote jdf_text bytes job
  second_same jdf_text job (inl same) h = subst (λ (t : List ℕ). TextsDenote jdf_text t job) same h
  second_same jdf_text job (inr (long, longer)) h = long_second jdf_text job long longer h

  -- ---- the text of a trace

  module _ (P : Plan) (given : Data) where
    long_spelling : (fault : TraceFault) → 16777216 < length text → 16777216 < length bytes → IsSpellingFault text fault → IsSpellingFault bytes fault
    long_spelling fault long longer (over_length over is) = over_length longer is
    long_spelling fault long longer (of_a_row within bad code) = absurd (omega (arith, long, within))

    long_trace : (fault : TraceFault) → 16777216 < length text → 16777216 < length bytes → IsTraceFault P given text fault → IsTraceFault P given bytes fault
    long_trace fault long longer (of_spelling h) = of_spelling (long_spelling fault long longer h)
    long_trace fault long longer (of_tasks rows within spelled h) = absurd (omega (arith, long, within))

    replay_same : (v : Denotation) → IsSameOrLong text bytes → IsReplayOf text P given v → IsReplayOf bytes P given v
    replay_same v (inl same) h = subst (λ (t : List ℕ). IsReplayOf t P given v) same h
    replay_same v (inr (long, longer)) (inl (fault, h, e)) = inl (fault, long_trace fault long longer h, e)
    replay_same v (inr (long, longer)) (inr ((tasks, trace), e)) = absurd (omega (arith, long, trace.at_most))

-- ---- contents

-- a fault of the JDF's text is denoted whatever the data file holds, and also if it is missing
refused_whatever : (jdf data_name text : List ℕ) (other : Option (List ℕ)) (v : Denotation) → RefusesText text v
    → ContentsDenote jdf data_name (Some text) other v
refused_whatever jdf data_name text None v h = inl h
refused_whatever jdf data_name text (Some data_text) v h = (h.0, inl h.1, h.2)

module _ (jdf data_name : List ℕ) where
  pub contents_known : (a b one other : Option (List ℕ)) → Agree a one → Agree b other → (v : Denotation) → WasRead v
      → ContentsDenote jdf data_name a b v → ContentsDenote jdf data_name one other v
  contents_known None b one other first second v read h = absurd (read jdf h)
  contents_known (Some text) None one other first second v read (inl h) =
      subst (λ (o : Option (List ℕ)). ContentsDenote jdf data_name o other v) (sym first.1)
      (refused_whatever jdf data_name first.0 other v (refuses_same text first.0 v first.2 h))
  contents_known (Some text) None one other first second v read (inr (J, tree, e)) = absurd (read data_name e)
  contents_known (Some text) (Some data_text) one other first second v read (job, h, e) =
      let both : JobTextsDenote first.0 second.0 v = (
        job,
        second_same data_text second.0 first.0 job second.2
            (first_same text first.0 data_text job first.2 h),
        e,
      ) in
      let half : ContentsDenote jdf data_name (Some first.0) other v = subst
      (λ (o : Option (List ℕ)). ContentsDenote jdf data_name (Some first.0) o v) (sym second.1) both in
      subst (λ (o : Option (List ℕ)). ContentsDenote jdf data_name o other v) (sym first.1) half

pub shows_known : (name : List ℕ) (a one : Option (List ℕ)) → Agree a one → (v : Denotation) → WasRead v → ContentShows name a v → ContentShows name one v
shows_known name None one agree v read h = absurd (read name h)
shows_known name (Some text) one agree v read h = subst (λ (o : Option (List ℕ)). ContentShows name o v) (sym agree.1) (shows_same text agree.0 v agree.2 h)

pub replayed_known : (trace : List ℕ) (a one : Option (List ℕ)) → Agree a one
    → (P : Plan) (given : Data) (v : Denotation) → WasRead v → IsReplayed trace a P given v
    → IsReplayed trace one P given v
replayed_known trace None one agree P given v read h = absurd (read trace h)
replayed_known trace (Some text) one agree P given v read h =
    subst (λ (o : Option (List ℕ)). IsReplayed trace o P given v) (sym agree.1) (replay_same text agree.0 P given v agree.2 h)
