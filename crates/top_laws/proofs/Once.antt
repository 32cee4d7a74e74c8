-- Arguments and operands denote at most one verdict.
use Rattle.std.proofs.Common.{◌≡◌, ℕ, List, ◌++◌, Some, sym, ◌∙◌, ap, subst, ◌⊎◌, inl, inr}
use Rattle.std.specs.Prelude.{Option, None}
use Rattle.jdf_tree.specs.declared.tree.Jdf.{Jdf}
use Rattle.jdf_print.specs.Spelling.{spelling}
use Rattle.jdf_read.proofs.CallerLemmas.{one_tree}
use Rattle.ptg_words.specs.declared.order.Order.{Order}
use Rattle.ptg_words.specs.declared.order.Order.TheVariants.{Run, Show, Check, Demo, Trace, Replay, Certify, Ranks}
use Rattle.ptg_top.specs.Denotation as verdicts
use Rattle.ptg_top.specs.Denotation.{Denotation}
use Rattle.ptg_top.specs.JobFiles.{ContentsDenote, FilesDenote}
use Rattle.job_gen.specs.Job.{data_text, jdf_text}
use Rattle.ptg_top.specs.Operands.{Operands}
use Rattle.ptg_top.specs.Meaning.{CommandDenotes, Shows, ContentShows}
use Rattle.ptg_top.specs.Headline.{text_of, status_of}
use Rattle.top_laws.specs.Meanings.{AreTracesOfOneJob, IsNoTrace, OneJob, OneMeaning, OneOutput}
use Rattle.ptg_top.specs.Answering.{GoesOnFrom, IsAnswer, OnConsistent}
use Rattle.coll_data.specs.Data.{Data}
use Rattle.plan_core.specs.declared.plan.Plan.{Plan}
use Rattle.dep_iter.specs.Consistent.{IsConsistent}
use Rattle.flow_meaning.specs.Answer.{answer}
use Rattle.chain_cert.specs.Weights.{class_weights}
use Rattle.chain_cert.specs.declared.certificate.Certificate.{Certificate}
use Rattle.chain_exists.proofs.CallerLemmas.{one}
use Rattle.ptg_top.specs.Certify.{IsCertified, certified}
use Rattle.ptg_top.specs.Demo.{IsSummary, MadeTextsDenote}
use Rattle.trace_core.proofs.CallerLemmas.{one_fault}
use Rattle.run_laws.proofs.CallerLemmas.{trace_or_fault}
use Rattle.ptg_top.specs.Replay.{IsReplayed, IsReplayOf}
use Rattle.ptg_top.specs.Trace.{IsTraced}
use Rattle.job_stages.specs.declared.verdict.JobVerdict.TheVariants as jobs
use Rattle.run_pool.specs.declared.settings.Settings.{Settings}
use Rattle.ptg_top.specs.Ranks.{IsRanked}
use Rattle.ptg_words.proofs.CallerLemmas.{one_command}
use Rattle.top_laws.proofs.Checked.{once_on, refused_once, refused_or_read, contents_consistent, contents_once, job_texts_once}

shows_once : (text : List ℕ) (v w : Denotation) → Shows text v → Shows text w → v ≡ w
shows_once text v w (inl h) (inl k) = refused_once text v w h k
shows_once text v w (inl h) (inr (J, tree, d)) = absurd (refused_or_read text v J h tree)
shows_once text v w (inr (J, tree, e)) (inl k) = absurd (refused_or_read text w J k tree)
shows_once text v w (inr (J, tree, e)) (inr (K, other, d)) =
    e ∙ (ap (λ (T : Jdf). verdicts.Spelling (spelling T)) (one_tree text J K tree other) ∙ sym d)

content_shows_once : (name : List ℕ) (content : Option (List ℕ)) (v w : Denotation) → ContentShows name content v → ContentShows name content w → v ≡ w
content_shows_once name None v w h k = h ∙ sym k
content_shows_once name (Some text) v w h k = shows_once text v w h k

demo_once : (n : ℕ) (v w : Denotation) → GoesOnFrom (MadeTextsDenote n) (IsSummary n) v → GoesOnFrom (MadeTextsDenote n) (IsSummary n) w → v ≡ w
demo_once n v w (a, h, e) (b, k, d) =
    once_on (IsSummary n) b v w (λ P given is p q. p ∙ sym q)
    (subst (λ (c : Denotation). OnConsistent (IsSummary n) c v) (job_texts_once jdf_text (data_text n) a b h k) e) d

-- a consistent job has at most one certified verdict
certified_once : (P : Plan) (given : Data) (v w : Denotation) → IsConsistent P → IsCertified P given v → IsCertified P given w → v ≡ w
certified_once P given v w con (c, h, e) (d, k, q) =
    let ws = class_weights P given in
    e ∙ (ap (λ (x : Certificate). verdicts.Ran P (certified ws (answer P given) x)) (one P given ws c d con h k) ∙ sym q)

certify_once : (operands : Operands) (jdf data_name : List ℕ) (v w : Denotation)
    → CommandDenotes operands (Certify jdf data_name) v → CommandDenotes operands (Certify jdf data_name) w → v ≡ w
certify_once operands jdf data_name v w (a, h, e) (b, k, d) =
    let a_file = operands 0 jdf in
    let b_file = operands 1 data_name in
    once_on IsCertified b v w
    (λ P given is. certified_once P given v w (contents_consistent jdf data_name a_file b_file P given
    (subst (ContentsDenote jdf data_name a_file b_file) is k)))
    (subst (λ (c : Denotation). OnConsistent IsCertified c v) (contents_once jdf data_name a_file b_file a b h k) e) d

-- a text has at most one first fault, or is a trace
replay_of_once : (P : Plan) (given : Data) (text : List ℕ) (v w : Denotation) → IsConsistent P → IsReplayOf text P given v → IsReplayOf text P given w → v ≡ w
replay_of_once P given text v w con (inl (f, h, e)) (inl (g, k, d)) = e ∙ (ap verdicts.TraceRefused (one_fault P given text f g h k) ∙ sym d)
replay_of_once P given text v w con (inl (f, h, e)) (inr (trace, d)) = absurd (trace_or_fault P given con text trace f h)
replay_of_once P given text v w con (inr (trace, e)) (inl (g, k, d)) = absurd (trace_or_fault P given con text trace g k)
replay_of_once P given text v w con (inr (trace, e)) (inr (other, d)) = e ∙ sym d

replayed_once : (trace : List ℕ) (content : Option (List ℕ)) (P : Plan) (given : Data) (v w : Denotation)
    → IsConsistent P → IsReplayed trace content P given v → IsReplayed trace content P given w → v ≡ w
replayed_once trace None P given v w con h k = h ∙ sym k
replayed_once trace (Some text) P given v w con h k = replay_of_once P given text v w con h k

replay_once : (operands : Operands) (jdf data_name trace : List ℕ) (v w : Denotation)
    → CommandDenotes operands (Replay jdf data_name trace) v → CommandDenotes operands (Replay jdf data_name trace) w
    → v ≡ w
replay_once operands jdf data_name trace v w (a, h, e) (b, k, d) =
    let a_file = operands 0 jdf in
    let b_file = operands 1 data_name in
    let Verb = IsReplayed trace (operands 2 trace) in
    once_on Verb b v w
    (λ P given is. replayed_once trace (operands 2 trace) P given v w
    (contents_consistent jdf data_name a_file b_file P given
    (subst (ContentsDenote jdf data_name a_file b_file) is k)))
    (subst (λ (c : Denotation). OnConsistent Verb c v) (contents_once jdf data_name a_file b_file a b h k) e) d

-- two verdicts of `trace` are the same refusal, or traces of one job
traces_on : (operands : Operands) (jdf data_name : List ℕ) (checked v w : Denotation)
    → FilesDenote operands jdf data_name checked → OnConsistent IsTraced checked v → OnConsistent IsTraced checked w
    → (v ≡ w) ⊎ AreTracesOfOneJob operands v w
traces_on operands jdf data_name (verdicts.Job (jobs.Consistent P given)) v w found h k = inr (jdf, data_name, P, given, found, h, k)
traces_on operands jdf data_name checked v w found h k = inl (h ∙ sym k)

traces_of_one_job : (operands : Operands) (jdf data_name : List ℕ) (workers shards : ℕ) (v w : Denotation)
    → CommandDenotes operands (Trace jdf data_name workers shards) v
    → CommandDenotes operands (Trace jdf data_name workers shards) w
    → (v ≡ w) ⊎ AreTracesOfOneJob operands v w
traces_of_one_job operands jdf data_name workers shards v w (a, h, e) (b, k, d) =
    traces_on operands jdf data_name b v w k (subst (λ (c : Denotation). OnConsistent IsTraced c v)
    (contents_once jdf data_name (operands 0 jdf) (operands 1 data_name) a b h k) e) d

-- a command other than `trace` denotes at most one verdict with the operands
command_once : (operands : Operands) (command : Order) (v w : Denotation) → IsNoTrace command
    → CommandDenotes operands command v → CommandDenotes operands command w → v ≡ w
command_once operands (Trace jdf data_name workers shards) v w free h k = absurd free
command_once operands (Run jdf data_name workers shards preload) v w free (a, h, e) (b, k, d) =
    let settings : Settings = record { workers = workers; shards = shards; preload = preload } in
    once_on (IsAnswer settings) b v w (λ P given is p q. p ∙ sym q)
    (subst (λ (c : Denotation). OnConsistent (IsAnswer settings) c v) (contents_once jdf data_name (operands 0 jdf) (operands 1 data_name) a b h k) e) d
command_once operands (Show jdf) v w free h k = content_shows_once jdf (operands 0 jdf) v w h k
command_once operands (Check jdf data_name) v w free h k = contents_once jdf data_name (operands 0 jdf) (operands 1 data_name) v w h k
command_once operands (Demo rows) v w free h k = demo_once rows v w h k
command_once operands (Replay jdf data_name trace) v w free h k = replay_once operands jdf data_name trace v w h k
command_once operands (Certify jdf data_name) v w free h k = certify_once operands jdf data_name v w h k
command_once operands (Ranks jdf data_name ranks seed) v w free (a, h, e) (b, k, d) =
    let Verb = IsRanked ranks in
    once_on Verb b v w (λ P given is p q. p ∙ sym q)
    (subst (λ (c : Denotation). OnConsistent Verb c v) (contents_once jdf data_name (operands 0 jdf) (operands 1 data_name) a b h k) e) d

pub one_meaning : OneMeaning
one_meaning words operands v w free (inl h) (inl k) = h.1 ∙ sym k.1
one_meaning words operands v w free (inl h) (inr (command, formed, k)) = absurd (h.0 command formed)
one_meaning words operands v w free (inr (command, formed, h)) (inl k) = absurd (k.0 command formed)
one_meaning words operands v w free (inr (a, formed, h)) (inr (b, other, k)) =
    command_once operands b v w (free b other) (subst (λ (r : Order). CommandDenotes operands r v) (one_command words a b formed other) h) k

-- and two verdicts of `trace` are of one job
one_or_traces : (operands : Operands) (command : Order) (v w : Denotation) → CommandDenotes operands command v
    → CommandDenotes operands command w → (v ≡ w) ⊎ AreTracesOfOneJob operands v w
one_or_traces operands (Trace jdf data_name workers shards) v w h k = traces_of_one_job operands jdf data_name workers shards v w h k
one_or_traces operands (Run jdf data_name workers shards preload) v w h k = inl (command_once operands (Run jdf data_name workers shards preload) v w tt h k)
one_or_traces operands (Show jdf) v w h k = inl (command_once operands (Show jdf) v w tt h k)
one_or_traces operands (Check jdf data_name) v w h k = inl (command_once operands (Check jdf data_name) v w tt h k)
one_or_traces operands (Demo rows) v w h k = inl (command_once operands (Demo rows) v w tt h k)
one_or_traces operands (Replay jdf data_name trace) v w h k = inl (command_once operands (Replay jdf data_name trace) v w tt h k)
one_or_traces operands (Certify jdf data_name) v w h k = inl (command_once operands (Certify jdf data_name) v w tt h k)
one_or_traces operands (Ranks jdf data_name ranks seed) v w h k = inl (command_once operands (Ranks jdf data_name ranks seed) v w tt h k)

pub one_job : OneJob
one_job words operands v w (inl h) (inl k) = inl (h.1 ∙ sym k.1)
one_job words operands v w (inl h) (inr (command, formed, k)) = absurd (h.0 command formed)
one_job words operands v w (inr (command, formed, h)) (inl k) = absurd (k.0 command formed)
one_job words operands v w (inr (a, formed, h)) (inr (b, other, k)) =
    one_or_traces operands b v w (subst (λ (r : Order). CommandDenotes operands r v) (one_command words a b formed other) h) k

pub one_output : OneOutput
one_output words operands before after other status another free first second =
    let same = one_meaning words operands first.verdict second.verdict free first.denoted second.denoted in
    (first.text ∙ (ap (λ v. before ++ text_of v) same ∙ sym second.text), first.ends ∙ (ap status_of same ∙ sym second.ends))
