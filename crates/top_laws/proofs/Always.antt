-- Arguments and operands denote a verdict.
use Rattle.std.proofs.Common.{ℕ, List, ◌++◌, Some, refl, subst, ◌⊎◌, inl, inr}
use Rattle.std.specs.Prelude.{Option, None, if◌then◌else◌}
use Rattle.word_laws.specs.Commands.{CommandOrUsage}
use Rattle.jdf_print.specs.Spelling.{spelling}
use Rattle.flow_meaning.specs.Answer.{answer}
use Rattle.text_laws.proofs.CallerLemmas.{tree_or_fault}
use Rattle.job_stages.specs.declared.verdict.JobVerdict.TheVariants as jobs
use Rattle.job_laws.proofs.CallerLemmas.{texts_some}
use Rattle.ptg_words.specs.declared.order.Order.{Order}
use Rattle.ptg_words.specs.declared.order.Order.TheVariants.{Run, Show, Check, Demo, Trace, Replay, Certify, Ranks}
use Rattle.ptg_words.specs.Words.{Orders}
use Rattle.ptg_top.specs.Denotation as verdicts
use Rattle.ptg_top.specs.Denotation.{Denotation}
use Rattle.job_gen.specs.Job.{data_text, jdf_text}
use Rattle.ptg_top.specs.JobFiles.{ContentsDenote, JobTextsDenote}
use Rattle.ptg_top.specs.Operands.{Operands}
use Rattle.ptg_top.specs.Meaning.{CommandDenotes, ContentShows, IsNoCommand, Shows}
use Rattle.ptg_top.specs.Headline.{text_of, status_of}
use Rattle.top_laws.specs.Meanings.{SomeMeaning, SomeOutput}
use Rattle.ptg_top.specs.Answering.{GoesOnFrom, IsAnswer}
use Rattle.coll_data.specs.Data.{Data}
use Rattle.plan_core.specs.declared.plan.Plan.{Plan}
use Rattle.dep_iter.specs.Consistent.{IsConsistent}
use Rattle.chain_cert.specs.Weights.{class_weights}
use Rattle.chain_exists.proofs.CallerLemmas.{some_certificate}
use Rattle.ptg_top.specs.Certify.{IsCertified, certified}
use Rattle.trace_core.specs.Text.{trace_text}
use Rattle.trace_core.proofs.CallerLemmas.{fault_or_trace}
use Rattle.run_laws.proofs.CallerLemmas.{some_whole_order}
use Rattle.ptg_top.specs.Trace.{IsTraced}
use Rattle.ptg_top.specs.Replay.{IsReplayed}
use Rattle.rank_core.specs.Sound.{message_count}
use Rattle.ptg_top.specs.Ranks.{IsRanked}
use Rattle.ptg_top.specs.Demo.{IsSummary, MadeTextsDenote, summed}
use Rattle.ptg_top.specs.declared.verdict.Finding.TheVariants.{Answer, Trace as TraceText, Ranked}
use Rattle.run_pool.specs.declared.settings.Settings.{Settings}
use Rattle.run_pool.specs.Runs.{is_too_large}
use Rattle.top_laws.proofs.Checked.{contents_consistent, some_on}
use Rattle.ptg_top.proofs.CallerLemmas.{fault_refuses}

-- ---- the command

formed_or_none : CommandOrUsage → (words : List (List ℕ)) → ((command : Order) × Orders words command) ⊎ IsNoCommand words
formed_or_none either words = elim (either words) [
  | inl formed ↦ inl formed
  | inr usage ↦ inr (λ command formed. formed.breaks_no_rule usage)
]

-- ---- what the operands denote

shows_some : (text : List ℕ) → (v : Denotation) × Shows text v
shows_some text = elim (tree_or_fault text) [
  | inl tree ↦ (verdicts.Spelling (spelling tree.0), inr (tree.0, tree.1, refl))
  | inr w ↦ (verdicts.Job (jobs.Jdf w.0), inl (fault_refuses text w.0 w.1))
]

content_shows_some : (name : List ℕ) (content : Option (List ℕ)) → (v : Denotation) × ContentShows name content v
content_shows_some name None = (verdicts.Unread name, refl)
content_shows_some name (Some text) = shows_some text

job_texts_some : (text data_text : List ℕ) → (v : Denotation) × JobTextsDenote text data_text v
job_texts_some text data_text = let job = texts_some text data_text in (verdicts.Job job.0, (job.0, job.1, refl))

contents_some : (jdf data_name : List ℕ) (a b : Option (List ℕ)) → (v : Denotation) × ContentsDenote jdf data_name a b v
contents_some jdf data_name None b = (verdicts.Unread jdf, refl)
contents_some jdf data_name (Some text) None = elim (tree_or_fault text) [
  | inl tree ↦ (verdicts.Unread data_name, inr (tree.0, tree.1, refl))
  | inr w ↦ (verdicts.Job (jobs.Jdf w.0), inl (fault_refuses text w.0 w.1))
]
contents_some jdf data_name (Some text) (Some data_text) = job_texts_some text data_text

demo_some : (n : ℕ) → (v : Denotation) × GoesOnFrom (MadeTextsDenote n) (IsSummary n) v
demo_some n =
    let checked = job_texts_some jdf_text (data_text n) in
    let found = some_on (IsSummary n) checked.0 (λ P given is. (verdicts.Ran P (summed n (answer P given)), refl)) in
    (found.0, (checked.0, checked.1, found.1))

certified_some : (P : Plan) (given : Data) → IsConsistent P → (v : Denotation) × IsCertified P given v
certified_some P given con =
    let ws = class_weights P given in
    let c = some_certificate P given ws con in
    (verdicts.Ran P (certified ws (answer P given) c.0), (c.0, c.1, refl))

certify_some : (operands : Operands) (jdf data_name : List ℕ) → (v : Denotation) × CommandDenotes operands (Certify jdf data_name) v
certify_some operands jdf data_name =
    let a = operands 0 jdf in
    let b = operands 1 data_name in
    let checked = contents_some jdf data_name a b in
    let found = some_on IsCertified checked.0 (λ P given is. certified_some P given
    (contents_consistent jdf data_name a b P given (subst (ContentsDenote jdf data_name a b) is checked.1))) in
    (found.0, (checked.0, checked.1, found.1))

traced_some : (P : Plan) (given : Data) → IsConsistent P → (v : Denotation) × IsTraced P given v
traced_some P given con =
    let order = some_whole_order P given con in
    (verdicts.Ran P (TraceText (trace_text P order.0)), (order.0, order.1, refl))

trace_some : (operands : Operands) (jdf data_name : List ℕ) (workers shards : ℕ)
    → (v : Denotation) × CommandDenotes operands (Trace jdf data_name workers shards) v
trace_some operands jdf data_name workers shards =
    let a = operands 0 jdf in
    let b = operands 1 data_name in
    let checked = contents_some jdf data_name a b in
    let found = some_on IsTraced checked.0 (λ P given is. traced_some P given
    (contents_consistent jdf data_name a b P given (subst (ContentsDenote jdf data_name a b) is checked.1))) in
    (found.0, (checked.0, checked.1, found.1))

replayed_some : (trace : List ℕ) (content : Option (List ℕ)) (P : Plan) (given : Data) → IsConsistent P → (v : Denotation) × IsReplayed trace content P given v
replayed_some trace None P given con = (verdicts.Unread trace, refl)
replayed_some trace (Some text) P given con = elim (fault_or_trace P given con text) [
  | inl p ↦ (verdicts.TraceRefused p.0, inl (p.0, p.1, refl))
  | inr found ↦ (verdicts.Ran P (Answer (answer P given)), inr (found, refl))
]

replay_some : (operands : Operands) (jdf data_name trace : List ℕ) → (v : Denotation) × CommandDenotes operands (Replay jdf data_name trace) v
replay_some operands jdf data_name trace =
    let a = operands 0 jdf in
    let b = operands 1 data_name in
    let content = operands 2 trace in
    let checked = contents_some jdf data_name a b in
    let found = some_on (IsReplayed trace content) checked.0
    (λ P given is. replayed_some trace content P given (contents_consistent jdf data_name a b P given
    (subst (ContentsDenote jdf data_name a b) is checked.1))) in
    (found.0, (checked.0, checked.1, found.1))

abbrev ranked : ℕ → Plan → Data → Denotation
ranked r P given = verdicts.Ran P (Ranked (record { ranks = r; messages = message_count P given r; outcome = answer P given }))

ranks_some : (operands : Operands) (jdf data_name : List ℕ) (r seed : ℕ) → (v : Denotation) × CommandDenotes operands (Ranks jdf data_name r seed) v
ranks_some operands jdf data_name r seed =
    let checked = contents_some jdf data_name (operands 0 jdf) (operands 1 data_name) in
    let found = some_on (IsRanked r) checked.0 (λ P given is. (ranked r P given, refl)) in
    (found.0, (checked.0, checked.1, found.1))

command_some : (operands : Operands) (command : Order) → (v : Denotation) × CommandDenotes operands command v
command_some operands (Run jdf data_name workers shards preload) =
    let settings : Settings = record { workers = workers; shards = shards; preload = preload } in
    let checked = contents_some jdf data_name (operands 0 jdf) (operands 1 data_name) in
    let found = some_on (IsAnswer settings) checked.0 (λ P given is.
    (if is_too_large settings P then verdicts.PreloadTooLarge else verdicts.Ran P (Answer (answer P given)), refl))
    in
    (found.0, (checked.0, checked.1, found.1))
command_some operands (Show jdf) = content_shows_some jdf (operands 0 jdf)
command_some operands (Check jdf data_name) = contents_some jdf data_name (operands 0 jdf) (operands 1 data_name)
command_some operands (Demo rows) = demo_some rows
command_some operands (Trace jdf data_name workers shards) = trace_some operands jdf data_name workers shards
command_some operands (Replay jdf data_name trace) = replay_some operands jdf data_name trace
command_some operands (Certify jdf data_name) = certify_some operands jdf data_name
command_some operands (Ranks jdf data_name ranks seed) = ranks_some operands jdf data_name ranks seed

-- ---- arguments and operands

pub some_meaning : CommandOrUsage → SomeMeaning
some_meaning either words operands = elim (formed_or_none either words) [
  | inl formed ↦ let found = command_some operands formed.0 in (found.0, inr (formed.0, formed.1, found.1))
  | inr none ↦ (verdicts.Usage, inl (none, refl))
]

pub some_output : CommandOrUsage → SomeOutput
some_output either words operands before =
    let found = some_meaning either words operands in
    (before ++ text_of found.0, status_of found.0, record { verdict = found.0; denoted = found.1; text = refl; ends = refl })
