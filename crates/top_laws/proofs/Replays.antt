-- `replay` accepts what `trace` prints: the text of a whole order, whose rows are spelled as those of a trace.
use Rattle.std.proofs.Common.{◌≡◌, ◌↔◌, ◌≤◌, ℕ, Bool, true, false, List, [], ◌∷◌, map, length, Option, Some, None, refl, ap, sym, ◌∙◌, subst, inl, inr}
use Rattle.std.specs.Prelude.{IsTrue}
use Rattle.std.specs.List.{AllByRecursion, list_all}
use Rattle.ptg_base.specs.Limits.{most_bytes}
use Rattle.ptg_base.specs.Lists.{IsIn}
use Rattle.ptg_base.specs.Task.{Task}
use Rattle.plan_core.specs.declared.plan.Plan.{Plan}
use Rattle.coll_data.specs.Data.{Data}
use Rattle.dep_iter.specs.Consistent.{IsConsistent}
use Rattle.dep_iter.specs.Tasks.{IsTask}
use Rattle.flow_meaning.specs.Answer.{answer}
use Rattle.flow_meaning.specs.Order.{IsWholeOrder}
use Rattle.chain_cert.proofs.CallerLemmas.{legal_tasks}
use Rattle.trace_core.specs.Spelling.{IsSpelled, IsWellSpelled}
use Rattle.trace_core.specs.Text.{row_of, trace_text}
use Rattle.trace_core.specs.Traces.{IsSomeTrace}
use Rattle.run_laws.proofs.CallerLemmas.{spelled_text, trace_or_fault, whole_length}
use Rattle.job_laws.proofs.CallerLemmas.{names_spelled, params_numbers}
use Rattle.job_stages.specs.Verdict.{TextsDenote}
use Rattle.job_stages.specs.declared.verdict.JobVerdict.{JobVerdict}
use Rattle.job_stages.specs.declared.verdict.JobVerdict.TheVariants as jobs
use Rattle.run_pool.specs.declared.settings.Settings.{Settings}
use Rattle.ptg_words.specs.Words.{Orders}
use Rattle.ptg_words.specs.declared.order.Order.{Order}
use Rattle.ptg_words.specs.declared.order.Order.TheVariants.{Replay, Run, Trace}
use Rattle.ptg_words.proofs.CallerLemmas.{one_command}
use Rattle.ptg_top.specs.declared.verdict.Finding.{Finding}
use Rattle.ptg_top.specs.declared.verdict.Finding.TheVariants as found
use Rattle.ptg_top.specs.Answering.{IsAnswer, OnConsistent}
use Rattle.ptg_top.specs.Denotation as verdicts
use Rattle.ptg_top.specs.Denotation.{Denotation}
use Rattle.ptg_top.specs.JobFiles.{ContentsDenote, FilesDenote}
use Rattle.ptg_top.specs.Meaning.{CommandDenotes, Denotes}
use Rattle.ptg_top.specs.Operands.{Operands}
use Rattle.ptg_top.specs.Replay.{IsReplayOf, IsReplayed}
use Rattle.ptg_top.specs.Trace.{IsTraced}
use Rattle.top_laws.proofs.Checked.{contents_consistent, contents_once}
use Rattle.top_laws.specs.Replays.{HasTrace, TracesReplay}

-- ---- what two files denote

-- two files never denote a run of a job
no_run : (jdf data_name : List ℕ) (a b : Option (List ℕ)) (P : Plan) (f : Finding) → ContentsDenote jdf data_name a b (verdicts.Ran P f) → ⊥
no_run jdf data_name None b P f h = cc
no_run jdf data_name (Some text) None P f (inl h) = let e = h.2 in cc
no_run jdf data_name (Some text) None P f (inr h) = let e = h.2 in cc
no_run jdf data_name (Some text) (Some data_text) P f h = let e = h.2 in cc

-- a consistent job has two texts
texts_of : (jdf data_name : List ℕ) (a b : Option (List ℕ)) (P : Plan) (given : Data)
    → ContentsDenote jdf data_name a b (verdicts.Job (jobs.Consistent P given))
    → (text : List ℕ) × (data_text : List ℕ) × TextsDenote text data_text (jobs.Consistent P given)
texts_of jdf data_name None b P given h = absurd cc
texts_of jdf data_name (Some text) None P given (inl h) = let e = h.2 in let d = h.1.2 in absurd cc
texts_of jdf data_name (Some text) None P given (inr h) = let e = h.2 in absurd cc
texts_of jdf data_name (Some text) (Some data_text) P given h =
    let same : h.0 ≡ jobs.Consistent P given = same_job h.0 (jobs.Consistent P given) (sym h.2) in
    (text, data_text, subst (TextsDenote text data_text) same h.1)
  where
    same_job : (v w : JobVerdict) → verdicts.Job v ≡ verdicts.Job w → v ≡ w
    same_job v w e = cc

-- a verdict that is the text of a trace comes from a consistent job
traced_on : (jdf data_name : List ℕ) (a b : Option (List ℕ)) (P : Plan) (text : List ℕ) (checked : Denotation) → ContentsDenote jdf data_name a b checked
    → OnConsistent IsTraced checked (verdicts.Ran P (found.Trace text))
    → (Q : Plan) × (given : Data) × (checked ≡ verdicts.Job (jobs.Consistent Q given)) × IsTraced Q given (verdicts.Ran P (found.Trace text))
traced_on jdf data_name a b P text (verdicts.Job (jobs.Consistent Q given)) h k = (Q, given, refl, k)
traced_on jdf data_name a b P text (verdicts.Job (jobs.Jdf fault)) h k = absurd cc
traced_on jdf data_name a b P text (verdicts.Job (jobs.Data fault)) h k = absurd cc
traced_on jdf data_name a b P text (verdicts.Job (jobs.Inconsistent Q fault)) h k = absurd cc
traced_on jdf data_name a b P text (verdicts.Ran Q f) h k = absurd (no_run jdf data_name a b Q f h)
traced_on jdf data_name a b P text verdicts.Usage h k = absurd cc
traced_on jdf data_name a b P text (verdicts.Unread name) h k = absurd cc
traced_on jdf data_name a b P text (verdicts.Spelling other) h k = absurd cc
traced_on jdf data_name a b P text verdicts.PreloadTooLarge h k = absurd cc
traced_on jdf data_name a b P text (verdicts.TraceRefused fault) h k = absurd cc

-- ---- its text

rows_spelled : (P : Plan) → ((t : Task) → IsTask P t → IsSpelled (row_of P t)) → (ts : List Task) → ((t : Task) → IsIn t ts → IsTask P t)
    → AllByRecursion IsSpelled (map (row_of P) ts)
rows_spelled P spelled [] tasks = tt
rows_spelled P spelled (t ∷ ts) tasks = (spelled t (tasks t (inl refl)), rows_spelled P spelled ts (λ u i. tasks u (inr i)))

same_text : (P Q : Plan) (a b : List ℕ) → verdicts.Ran P (found.Trace a) ≡ verdicts.Ran Q (found.Trace b) → a ≡ b
same_text P Q a b e = cc

-- the text of a trace within 16 MiB is that of a whole order
some_trace : (jdf data_name : List ℕ) (a b : Option (List ℕ)) (P Q : Plan) (given : Data) (text : List ℕ)
    → ContentsDenote jdf data_name a b (verdicts.Job (jobs.Consistent Q given)) → IsTraced Q given (verdicts.Ran P (found.Trace text))
    → length text ≤ most_bytes → IsSomeTrace Q given text
some_trace jdf data_name a b P Q given text h (tasks, whole, e) short =
    let con = contents_consistent jdf data_name a b Q given h in
    let texts = texts_of jdf data_name a b Q given h in
    let rows = rows_spelled Q
    (λ t job. record { name = names_spelled texts.0 texts.1 Q given texts.2 t job; params = params_numbers texts.0 texts.1 Q given texts.2 t job })
    tasks (legal_tasks Q [] tasks whole.legal) in
    let same = same_text P Q text (trace_text Q tasks) e in (
      tasks,
      record {
        at_most = short;
        spelled = subst (λ x. IsWellSpelled x (map (row_of Q) tasks)) (sym same) (spelled_text Q tasks rows (whole_length Q given con tasks whole));
        whole = whole;
      },
    )

-- ---- what is replayed

module _ (jdf data_name trace text : List ℕ) (others more : ℕ) (operands later : Operands) (P : Plan)
    (beside : HasTrace operands later jdf data_name trace text) where
  abbrev settings : Settings
  settings = record { workers = others; shards = more; preload = false }

  same_files : (v : Denotation) → FilesDenote later jdf data_name v → FilesDenote operands jdf data_name v
  same_files v h = subst (λ b. ContentsDenote jdf data_name (operands 0 jdf) b v) beside.same_data
      (subst (λ a. ContentsDenote jdf data_name a (later 1 data_name) v) beside.same_jdf h)

  files_same : (v : Denotation) → FilesDenote operands jdf data_name v → FilesDenote later jdf data_name v
  files_same v h = subst (λ b. ContentsDenote jdf data_name (later 0 jdf) b v) (sym beside.same_data)
      (subst (λ a. ContentsDenote jdf data_name a (operands 1 data_name) v) (sym beside.same_jdf) h)

  module _ (Q : Plan) (given : Data) (found_job : FilesDenote operands jdf data_name
      (verdicts.Job (jobs.Consistent Q given))) (is : IsSomeTrace Q given text) where
    abbrev IsRun : Denotation → Type 0
    IsRun v = v ≡ verdicts.Ran Q (found.Answer (answer Q given))

    replay_is_run : (v : Denotation) → IsReplayed trace (later 2 trace) Q given v → IsRun v
    replay_is_run v h = go (subst (λ c. IsReplayed trace c Q given v) beside.has_text h)
      where
        go : IsReplayOf text Q given v → IsRun v
        go (inl k) =
            absurd (trace_or_fault Q given (contents_consistent jdf data_name (operands 0 jdf) (operands 1 data_name) Q given found_job) text is k.0 k.1)
        go (inr k) = k.1

    run_is_replay : (v : Denotation) → IsRun v → IsReplayed trace (later 2 trace) Q given v
    run_is_replay v e = subst (λ c. IsReplayed trace c Q given v) (sym beside.has_text) (inr (is, e))

    -- the consistent job after which a command continues is this one
    this_job : (checked : Denotation) → FilesDenote operands jdf data_name checked → checked ≡ verdicts.Job (jobs.Consistent Q given)
    this_job checked h = contents_once jdf data_name (operands 0 jdf) (operands 1 data_name) checked (verdicts.Job (jobs.Consistent Q given)) h found_job

    to_run : (v : Denotation) → CommandDenotes later (Replay jdf data_name trace) v → CommandDenotes operands (Run jdf data_name others more false) v
    to_run v (checked, h, k) =
        let on = subst (λ c. OnConsistent (IsReplayed trace (later 2 trace)) c v) (this_job checked (same_files checked h)) k in
        (verdicts.Job (jobs.Consistent Q given), found_job, replay_is_run v on)

    to_replay : (v : Denotation) → CommandDenotes operands (Run jdf data_name others more false) v → CommandDenotes later (Replay jdf data_name trace) v
    to_replay v (checked, h, k) =
        let on = subst (λ c. OnConsistent (IsAnswer settings) c v) (this_job checked h) k in
        (verdicts.Job (jobs.Consistent Q given), files_same (verdicts.Job (jobs.Consistent Q given)) found_job, run_is_replay v on)

-- if the arguments form this command, they denote what the command denotes
command_of : (words : List (List ℕ)) (command : Order) (operands : Operands) (v : Denotation) → Orders words command
    → Denotes words operands v → CommandDenotes operands command v
command_of words command operands v formed (inl h) = absurd (h.0 command formed)
command_of words command operands v formed (inr (other, orders, h)) = subst (λ (c : Order). CommandDenotes operands c v)
    (one_command words other command orders formed) h

pub traces_replay : TracesReplay
traces_replay tracing replaying running jdf data_name trace workers shards others more operands later P text first second third h short beside v =
    let traced = command_of tracing (Trace jdf data_name workers shards) operands (verdicts.Ran P (found.Trace text)) first h in
    let job = traced_on jdf data_name (operands 0 jdf) (operands 1 data_name) P text traced.0 traced.1 traced.2 in
    let at = subst (FilesDenote operands jdf data_name) job.2 traced.1 in
    let is = some_trace jdf data_name (operands 0 jdf) (operands 1 data_name) P job.0 job.1 text at job.3 short in (
      λ k. inr (
        Run jdf data_name others more false,
        third,
        to_run jdf data_name trace text others more operands later P
            beside job.0 job.1 at is v (command_of replaying (Replay jdf data_name trace) later v second k),
      ),
      λ k. inr (
        Replay jdf data_name trace,
        second,
        to_replay jdf data_name trace text others more operands later P
            beside job.0 job.1 at is v (command_of running (Run jdf data_name others more false) operands v third k),
      ),
    )
