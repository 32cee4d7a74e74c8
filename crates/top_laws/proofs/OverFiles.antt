-- The program's clauses over files whose contents are known.
use Rattle.std.proofs.Common.{◌≡◌, ℕ, List, [], ◌∷◌, Some, sym, ◌∙◌, ap, subst, arith, inl, inr}
use Rattle.std.specs.Prelude.{Option, None, Bool, true, false, if◌then◌else◌}
use Rattle.std.specs.List.{AllByRecursion}
use Rattle.ptg_io.specs.Files.{file_of}
use Rattle.ptg_io.specs.Reads.{AddsPieces}
use Rattle.coll_data.specs.Data.{Data}
use Rattle.plan_core.specs.declared.plan.Plan.{Plan}
use Rattle.jdf_tree.specs.declared.tree.Jdf.{Jdf}
use Rattle.jdf_tree.specs.Jdf.{IsJdf}
use Rattle.job_stages.specs.declared.verdict.JobVerdict.TheVariants as jobs
use Rattle.flow_meaning.specs.Answer.{answer}
use Rattle.run_pool.specs.declared.settings.Settings.{Settings}
use Rattle.run_pool.specs.Runs.{is_too_large}
use Rattle.ptg_words.specs.declared.order.Order.{Order}
use Rattle.ptg_words.specs.declared.order.Order.TheVariants.{Run, Show, Check, Demo, Trace, Replay, Certify, Ranks}
use Rattle.ptg_words.specs.Laws.{files_of}
use Rattle.ptg_words.specs.Words.{Orders}
use Rattle.ptg_words.proofs.CallerLemmas.{one_command}
use Rattle.ptg_top.specs.declared.status.Status.{Status}
use Rattle.ptg_top.specs.declared.verdict.Finding.TheVariants.{Answer}
use Rattle.ptg_top.specs.Denotation as verdicts
use Rattle.ptg_top.specs.Denotation.{Denotation}
use Rattle.ptg_top.specs.Answering.{GoesOnFrom, IsAnswer, OnConsistent}
use Rattle.ptg_top.specs.Certify.{IsCertified}
use Rattle.ptg_top.specs.Ranks.{IsRanked}
use Rattle.ptg_top.specs.Replay.{IsReplayed}
use Rattle.ptg_top.specs.Trace.{IsTraced}
use Rattle.ptg_top.specs.Operands.{AreOf, Load, NamedFiles, Read, in_files, in_loads, text_at}
use Rattle.ptg_top.specs.JobFiles.{ContentsDenote, FilesDenote}
use Rattle.ptg_top.specs.Meaning.{AreFirstOperands, CommandDenotes, Denotes}
use Rattle.ptg_top.specs.Demo.{IsSummary, MadeTextsDenote}
use Rattle.ptg_top.specs.Reports.{EndsAfter, FailedAfter, IsOfTexts, IsVerdictOnWords}
use Rattle.ptg_top.specs.Headline.{IsExact, status_of}
use Rattle.ptg_top.specs.Receipts.{FindsJob}
use Rattle.top_laws.specs.Known.{CompleteOverFiles, CutOverFiles, ExactOverFiles, IsDue, IsFileOf, IsUnreadOf}
use Rattle.top_laws.specs.Known.{JobOverFiles, MayBeUnread, MayBeUnreadFor, TreeAt, UnreadOverFiles}
use Rattle.top_laws.proofs.Loaded.{loads_are_files, loads_before}
use Rattle.top_laws.proofs.Texts.{Agree, WasRead, contents_known, replayed_known, shows_known}

module _ (files : NamedFiles) where
  -- ---- each operand that holds a load holds the file of its name

  agrees_0 : (loads : List Load) (a : List ℕ) (rest : List (List ℕ)) → AreOf loads (a ∷ rest)
      → AllByRecursion (IsFileOf files) loads → Agree (text_at loads 0) (file_of files a)
  agrees_0 [] a rest names all = tt
  agrees_0 (load ∷ loads) a rest names all = (all.0.0, subst (λ (n : List ℕ). file_of files n ≡ Some all.0.0) names.0 all.0.1, all.0.2)

  agrees_1 : (loads : List Load) (a b : List ℕ) (rest : List (List ℕ)) → AreOf loads (a ∷ b ∷ rest)
      → AllByRecursion (IsFileOf files) loads → Agree (text_at loads 1) (file_of files b)
  agrees_1 [] a b rest names all = tt
  agrees_1 (load ∷ loads) a b rest names all = agrees_0 loads b rest names.1 all.1

  agrees_2 : (loads : List Load) (a b c : List ℕ) (rest : List (List ℕ)) → AreOf loads (a ∷ b ∷ c ∷ rest)
      → AllByRecursion (IsFileOf files) loads → Agree (text_at loads 2) (file_of files c)
  agrees_2 [] a b c rest names all = tt
  agrees_2 (load ∷ loads) a b c rest names all = agrees_1 loads b c rest names.1 all.1

  -- ---- the files denote what the loads denote

  module _ (Verb : Plan → Data → Denotation → Type 0) where
    -- if the verdict of a verb is no read fault, neither is that of `check` before it
    checked_was_read : (checked v : Denotation) → OnConsistent Verb checked v → WasRead v → WasRead checked
    checked_was_read checked v h read name e = read name (subst (λ (c : Denotation). OnConsistent Verb c v) e h)

  verb_known : (One Other : Plan → Data → Denotation → Type 0)
      → ((P : Plan) (given : Data) (v : Denotation) → WasRead v → One P given v → Other P given v)
      → (checked v : Denotation) → WasRead v → OnConsistent One checked v → OnConsistent Other checked v
  verb_known One Other more (verdicts.Job (jobs.Consistent P given)) v read h = more P given v read h
  verb_known One Other more checked v read h = h

  module _ (loads : List Load) (all : AllByRecursion (IsFileOf files) loads) where
    files_known : (jdf data_name : List ℕ) (rest : List (List ℕ)) → AreOf loads (jdf ∷ data_name ∷ rest)
        → (v : Denotation) → WasRead v → FilesDenote (in_loads loads) jdf data_name v
        → FilesDenote (in_files files) jdf data_name v
    files_known jdf data_name rest names v read h =
        contents_known jdf data_name (text_at loads 0) (text_at loads 1) (file_of files jdf) (file_of files data_name)
        (agrees_0 loads jdf (data_name ∷ rest) names all) (agrees_1 loads jdf data_name rest names all) v read h

    goes_known : (Verb : Plan → Data → Denotation → Type 0) (jdf data_name : List ℕ) → AreOf loads (jdf ∷ data_name ∷ []) → (v : Denotation) → WasRead v
        → (checked : Denotation) × FilesDenote (in_loads loads) jdf data_name checked × OnConsistent Verb checked v
        → (checked : Denotation) × FilesDenote (in_files files) jdf data_name checked × OnConsistent Verb checked v
    goes_known Verb jdf data_name names v read (checked, h, k) =
        (checked, files_known jdf data_name [] names checked (checked_was_read Verb checked v k read) h, k)

    pub command_known : (command : Order) → AreOf loads (files_of command) → (v : Denotation) → WasRead v
        → CommandDenotes (in_loads loads) command v → CommandDenotes (in_files files) command v
    command_known (Run jdf data_name workers shards preload) names v read h =
        goes_known (IsAnswer (record { workers = workers; shards = shards; preload = preload })) jdf data_name names v read h
    command_known (Show jdf) names v read h = shows_known jdf (text_at loads 0) (file_of files jdf) (agrees_0 loads jdf [] names all) v read h
    command_known (Check jdf data_name) names v read h = files_known jdf data_name [] names v read h
    command_known (Demo rows) names v read h = h
    command_known (Trace jdf data_name workers shards) names v read h = goes_known IsTraced jdf data_name names v read h
    command_known (Replay jdf data_name trace) names v read (checked, h, k) =
        let One = IsReplayed trace (text_at loads 2) in
        let Other = IsReplayed trace (file_of files trace) in (
          checked,
          files_known jdf data_name (trace ∷ []) names checked (checked_was_read One checked v k read) h,
          verb_known One Other (λ P given w was. replayed_known trace (text_at loads 2) (file_of files trace)
              (agrees_2 loads jdf data_name trace [] names all) P given w was) checked v read k,
        )
    command_known (Certify jdf data_name) names v read h = goes_known IsCertified jdf data_name names v read h
    command_known (Ranks jdf data_name ranks seed) names v read h = goes_known (IsRanked ranks) jdf data_name names v read h

    denotes_known : (words : List (List ℕ)) → AreFirstOperands words loads → (v : Denotation) → WasRead v
        → Denotes words (in_loads loads) v → Denotes words (in_files files) v
    denotes_known words names v read (inl h) = inl h
    denotes_known words (inl (none, e)) v read (inr (command, formed, h)) = absurd (none command formed)
    denotes_known words (inr (other, also, names)) v read (inr (command, formed, h)) =
        let here : AreOf loads (files_of command) = subst (λ (c : Order). AreOf loads (files_of c)) (one_command words other command also formed) names in
        inr (command, formed, command_known command here v read h)

exact_was_read : (v : Denotation) (s : Status) → s ≡ status_of v → IsExact s → WasRead v
exact_was_read v s is exact name e = subst IsExact (is ∙ ap status_of e) exact

pub exact_over_files : ExactOverFiles
exact_over_files words files old new before after status pieces exact (loads, (names, gave), h) =
    let all = loads_are_files files old new loads pieces gave in
    record {
      verdict = h.verdict;
      denoted = denotes_known files loads all words names h.verdict (exact_was_read h.verdict status h.ends exact) h.denoted;
      text = h.text;
      ends = h.ends;
    }

pub complete_over_files : CompleteOverFiles
complete_over_files words files old new before after status pieces (inl (exact, h)) = inl
    (exact_over_files words files old new before after status pieces exact h)
complete_over_files words files old new before after status pieces (inr none) = inr none

-- ---- the job of a receipt

job_is_read : (P : Plan) (given : Data) → WasRead (verdicts.Job (jobs.Consistent P given))
job_is_read P given name e = absurd cc

module _ (files : NamedFiles) (loads : List Load) (all : AllByRecursion (IsFileOf files) loads) (P : Plan) (given : Data) where
  files_have_job : (jdf data_name : List ℕ) (rest : List (List ℕ)) → AreOf loads (jdf ∷ data_name ∷ rest)
      → FilesDenote (in_loads loads) jdf data_name (verdicts.Job (jobs.Consistent P given))
      → FilesDenote (in_files files) jdf data_name (verdicts.Job (jobs.Consistent P given))
  files_have_job jdf data_name rest names h =
      files_known files loads all jdf data_name rest names (verdicts.Job (jobs.Consistent P given)) (job_is_read P given) h

  job_known : (command : Order) → AreOf loads (files_of command) → FindsJob (in_loads loads) command P given
      → FindsJob (in_files files) command P given
  job_known (Run jdf data_name workers shards preload) names h = files_have_job jdf data_name [] names h
  job_known (Show jdf) names h = absurd h
  job_known (Check jdf data_name) names h = absurd h
  job_known (Demo rows) names h = h
  job_known (Trace jdf data_name workers shards) names h = files_have_job jdf data_name [] names h
  job_known (Replay jdf data_name trace) names h = files_have_job jdf data_name (trace ∷ []) names h
  job_known (Certify jdf data_name) names h = files_have_job jdf data_name [] names h
  job_known (Ranks jdf data_name ranks seed) names h = files_have_job jdf data_name [] names h

pub job_over_files : JobOverFiles
job_over_files words files old new loads P given pieces (inl (none, e), gave) (command, formed, h) =
    absurd (none command formed)
job_over_files words files old new loads P given pieces (inr (other, also, names), gave) (command, formed, h) =
    let here : AreOf loads (files_of command) =
    subst (λ (c : Order). AreOf loads (files_of c)) (one_command words other command also formed) names in
    (command, formed, job_known files loads (loads_are_files files old new loads pieces gave) P given command here h)

-- ---- the name of a file that could not be read

module _ (name : List ℕ) where
  unread_is_checked : (Verb : Plan → Data → Denotation → Type 0)
      → ((P : Plan) (given : Data) → Verb P given (verdicts.Unread name) → ⊥) → (checked : Denotation)
      → OnConsistent Verb checked (verdicts.Unread name)
      → ◌≡◌ {A = Denotation} (verdicts.Unread name) checked
  unread_is_checked Verb none (verdicts.Job (jobs.Consistent P given)) k = absurd (none P given k)
  unread_is_checked Verb none checked k = k

  no_answer : (large : Bool) (P : Plan) (given : Data) → verdicts.Unread name
      ≡ (if large then verdicts.PreloadTooLarge else verdicts.Ran P (Answer (answer P given))) → ⊥
  no_answer true P given e = absurd cc
  no_answer false P given e = absurd cc

  no_trace : (P : Plan) (given : Data) → IsTraced P given (verdicts.Unread name) → ⊥
  no_trace P given (tasks, h, e) = absurd cc

  no_certificate : (P : Plan) (given : Data) → IsCertified P given (verdicts.Unread name) → ⊥
  no_certificate P given (c, h, e) = absurd cc

  no_ranks : (ranks : ℕ) (P : Plan) (given : Data) → IsRanked ranks P given (verdicts.Unread name) → ⊥
  no_ranks ranks P given e = absurd cc

  no_summary : (rows : ℕ) (P : Plan) (given : Data) → IsSummary rows P given (verdicts.Unread name) → ⊥
  no_summary rows P given e = absurd cc

  no_demo : (rows : ℕ) → GoesOnFrom (MadeTextsDenote rows) (IsSummary rows) (verdicts.Unread name) → ⊥
  no_demo rows (checked, (job, h, e), k) =
      let same : verdicts.Unread name ≡ verdicts.Job job = unread_is_checked (IsSummary rows) (no_summary rows) checked k ∙ e in
      absurd cc

  trace_is_unread : (trace : List ℕ) (content : Option (List ℕ)) (P : Plan) (given : Data)
      → IsReplayed trace content P given (verdicts.Unread name) → name ≡ trace
  trace_is_unread trace None P given e = cc
  trace_is_unread trace (Some text) P given (inl (fault, h, e)) = absurd cc
  trace_is_unread trace (Some text) P given (inr (found, e)) = absurd cc

  same_name : (other : List ℕ) → ◌≡◌ {A = Denotation} (verdicts.Unread name) (verdicts.Unread other) → name ≡ other
  same_name other e = cc

  module _ (contents : Option NamedFiles) where
    -- if the contents are known, each load is the file with its name
    abbrev AreKnown : List Load → Type 0
    AreKnown loads = (files : NamedFiles) → contents ≡ Some files → AllByRecursion (IsFileOf files) loads

    tree_at : (files : NamedFiles) (jdf text : List ℕ) (J : Jdf) → Agree (Some text) (file_of files jdf) → IsJdf text J → TreeAt files jdf J
    tree_at files jdf text J (bytes, there, inl same) tree = (bytes, there, subst (λ (t : List ℕ). IsJdf t J) same tree)
    tree_at files jdf text J (bytes, there, inr (long, longer)) tree = absurd (omega (arith, long, tree.bytes_at_most))

    files_unread : (loads : List Load) (jdf data_name : List ℕ) (rest : List (List ℕ))
        → AreOf loads (jdf ∷ data_name ∷ rest) → AreKnown loads
        → ContentsDenote jdf data_name (text_at loads 0) (text_at loads 1) (verdicts.Unread name)
        → IsUnreadOf contents jdf data_name name
    files_unread [] jdf data_name rest names known h = inl (same_name jdf h)
    files_unread (a ∷ []) jdf data_name rest names known (inl (job, h, e)) = absurd cc
    files_unread (a ∷ []) jdf data_name rest names known (inr (J, tree, e)) =
        inr (same_name data_name e, λ files t. (J, tree_at files jdf a.text J (agrees_0 files (a ∷ []) jdf (data_name ∷ rest) names (known files t)) tree))
    files_unread (a ∷ b ∷ more) jdf data_name rest names known (job, h, e) = absurd cc

    goes_unread : (Verb : Plan → Data → Denotation → Type 0)
        → ((P : Plan) (given : Data) → Verb P given (verdicts.Unread name) → ⊥)
        → (loads : List Load) (jdf data_name : List ℕ) → AreOf loads (jdf ∷ data_name ∷ []) → AreKnown loads
        → (checked : Denotation) × FilesDenote (in_loads loads) jdf data_name checked
        × OnConsistent Verb checked (verdicts.Unread name) → IsUnreadOf contents jdf data_name name
    goes_unread Verb none loads jdf data_name names known (checked, h, k) =
        files_unread loads jdf data_name [] names known (subst
        (λ (c : Denotation). FilesDenote (in_loads loads) jdf data_name c)
        (sym (unread_is_checked Verb none checked k)) h)

    replay_unread : (loads : List Load) (jdf data_name trace : List ℕ) → AreOf loads (jdf ∷ data_name ∷ trace ∷ [])
        → AreKnown loads → (checked : Denotation) → FilesDenote (in_loads loads) jdf data_name checked
        → OnConsistent (IsReplayed trace (text_at loads 2)) checked (verdicts.Unread name) → MayBeUnreadFor contents (Replay jdf data_name trace) name
    replay_unread loads jdf data_name trace names known (verdicts.Job (jobs.Consistent P given)) h k =
        inr (
          trace_is_unread trace (text_at loads 2) P given k,
          λ files t. (
            P,
            given,
            files_known files loads (known files t) jdf data_name (trace ∷ []) names
                (verdicts.Job (jobs.Consistent P given)) (job_is_read P given) h,
          ),
        )
    replay_unread loads jdf data_name trace names known checked h k =
        inl (files_unread loads jdf data_name (trace ∷ []) names known (subst (λ (c : Denotation). FilesDenote (in_loads loads) jdf data_name c) (sym k) h))

    show_unread : (loads : List Load) (jdf : List ℕ) → CommandDenotes (in_loads loads) (Show jdf) (verdicts.Unread name) → name ≡ jdf
    show_unread [] jdf e = same_name jdf e
    show_unread (a ∷ more) jdf (inl (job, h, e)) = absurd cc
    show_unread (a ∷ more) jdf (inr (J, tree, e)) = absurd cc

    command_unread : (command : Order) (loads : List Load) → AreOf loads (files_of command) → AreKnown loads
        → CommandDenotes (in_loads loads) command (verdicts.Unread name) → MayBeUnreadFor contents command name
    command_unread (Run jdf data_name workers shards preload) loads names known h =
        let settings : Settings = record { workers = workers; shards = shards; preload = preload } in
        goes_unread (IsAnswer settings) (λ P given e. no_answer (is_too_large settings P) P given e) loads jdf data_name names known h
    command_unread (Show jdf) loads names known h = show_unread loads jdf h
    command_unread (Check jdf data_name) loads names known h = files_unread loads jdf data_name [] names known h
    command_unread (Demo rows) loads names known h = no_demo rows h
    command_unread (Trace jdf data_name workers shards) loads names known h = goes_unread IsTraced no_trace loads jdf data_name names known h
    command_unread (Replay jdf data_name trace) loads names known (checked, h, k) = replay_unread loads jdf data_name trace names known checked h k
    command_unread (Certify jdf data_name) loads names known h = goes_unread IsCertified no_certificate loads jdf data_name names known h
    command_unread (Ranks jdf data_name ranks seed) loads names known h = goes_unread (IsRanked ranks) (no_ranks ranks) loads jdf data_name names known h

-- loads that were made before a failed read are files
known_before : (contents : Option NamedFiles) (old new : List Read) (loads : List Load) (name : List ℕ)
    (failed failed_since : List ℕ → ℕ) → AddsPieces contents old new
    → FailedAfter old new loads name failed failed_since
    → (files : NamedFiles) → contents ≡ Some files → AllByRecursion (IsFileOf files) loads
known_before contents old new loads name failed failed_since pieces (middle, gave, begun, rose) files is =
    loads_before files old middle new loads _ (subst (λ (t : Option NamedFiles). AddsPieces t old new) is pieces) gave begun.reads.reads

pub unread_over_files : UnreadOverFiles
unread_over_files words contents old new failed failed_since name pieces h =
    (h.reads.3, may h.operands h.denoted)
  where
    may : AreFirstOperands words h.loads → Denotes words (in_loads h.loads) (verdicts.Unread name) → MayBeUnread words contents name
    may names (inl (none, e)) = absurd cc
    may (inl (none, e)) (inr (command, formed, d)) = absurd (none command formed)
    may (inr (other, also, names)) (inr (command, formed, d)) =
        let here : AreOf h.loads (files_of command) = subst (λ (c : Order). AreOf h.loads (files_of c)) (one_command words other command also formed) names in
        (command, formed, command_unread name contents command h.loads here (known_before contents old new h.loads name failed failed_since pieces h.reads) d)

-- ---- the verdict that is due

texts_were_read : (v : Denotation) → IsOfTexts v → WasRead v
texts_were_read v of name e = subst IsOfTexts e of

module _ (words : List (List ℕ)) (contents : Option NamedFiles) (old new : List Read) (failed failed_since : List ℕ → ℕ)
    (pieces : AddsPieces contents old new) (v : Denotation) where
  due_after : (command : Order) (loads : List Load) → Orders words command → AreOf loads (files_of command)
      → CommandDenotes (in_loads loads) command v → EndsAfter old new loads failed failed_since v
      → IsDue words contents failed failed_since v
  due_after command loads formed names h (inl (name, e, after)) =
      let known = known_before contents old new loads name failed failed_since pieces after in
      inr (
        command,
        formed,
        inl (
          name,
          after.3,
          command_unread name contents command loads names known
              (subst (λ (w : Denotation). CommandDenotes (in_loads loads) command w) e h),
          e,
        ),
      )
  due_after command loads formed names h (inr (of, gave, none)) =
      inr (
        command,
        formed,
        inr (
          of,
          λ files is.
              command_known files loads (loads_are_files files old new loads
              (subst (λ (t : Option NamedFiles). AddsPieces t old new) is pieces) gave) command names v
              (texts_were_read v of) h,
        ),
      )

  is_due : IsVerdictOnWords words old new failed failed_since v → IsDue words contents failed failed_since v
  is_due (inl (none, e, same, faults)) = inl (none, e)
  is_due (inr (command, formed, h)) = due_after command h.loads formed h.operands h.denoted h.reads

pub cut_over_files : CutOverFiles
cut_over_files words contents old new failed failed_since before after pieces h =
    (h.verdict, is_due words contents old new failed failed_since pieces h.verdict h.due, h.prefix)
