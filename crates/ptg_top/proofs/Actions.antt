-- The check of a job and then an action on it: they make the verdict on the command, with its receipt.
use Rattle.std.proofs.Common.{◌≡◌, ℕ, List, [], ◌∷◌, ◌++◌, Option, Some, None, Result, Ok, Err, refl, sym, ◌∙◌, subst, inl, inr}
use Rattle.std.specs.Prelude.{IfOk, IfSome, IsSomeAnd, MatchOption, ⊤, Bool, true, false, if◌then◌else◌}
use Rattle.ptg_base.specs.declared.memory.OutOfMemory.{OutOfMemory}
use Rattle.ptg_io.specs.Faults.{Rose}
use Rattle.ptg_io.specs.Reads.{Gave}
use Rattle.coll_data.specs.Data.{Data}
use Rattle.plan_core.specs.declared.plan.Plan.{Plan}
use Rattle.flow_meaning.specs.Answer.{answer}
use Rattle.flow_meaning.specs.declared.outcome.Outcome.{Outcome}
use Rattle.job_stages.specs.declared.verdict.JobVerdict.TheVariants as jobs
use Rattle.dep_table.specs.Receipts.{ReceiptView}
use Rattle.run_pool.specs.declared.settings.Settings.{Settings}
use Rattle.run_pool.specs.Runs.{is_too_large}
use Rattle.ptg_top.specs.declared.command.Action.{Action}
use Rattle.ptg_top.specs.declared.command.Action.TheVariants as actions
use Rattle.ptg_top.specs.declared.command.Command.{Command}
use Rattle.ptg_top.specs.declared.command.Command.TheVariants as commands
use Rattle.ptg_top.specs.declared.command.Source.{Source}
use Rattle.ptg_top.specs.declared.command.Source.TheVariants.{Files, Made}
use Rattle.ptg_top.specs.declared.verdict.Finding.{Finding}
use Rattle.ptg_top.specs.declared.verdict.Finding.TheVariants.{Answer}
use Rattle.ptg_top.specs.declared.verdict.RanBy.TheVariants.{Table}
use Rattle.ptg_top.specs.declared.verdict.Verdict.{Verdict}
use Rattle.ptg_top.specs.declared.verdict.Verdict.TheVariants as verdict
use Rattle.ptg_top.specs.Commands.{file_count, files_of_action, files_of_source, files_of_steps, table_of, table_of_steps}
use Rattle.ptg_top.specs.Denotation as verdicts
use Rattle.ptg_top.specs.Denotation.{Denotation, denoted}
use Rattle.ptg_top.specs.Operands.{AreOf, Load, Operands, Read, in_loads, load_of}
use Rattle.ptg_top.specs.JobFiles.{ContentsDenote}
use Rattle.ptg_top.specs.Answering.{IsAnswer, IsRefusedByCheck, OnConsistent}
use Rattle.ptg_top.specs.Meaning.{ActionDenotes, JobDenotes, SourceDenotes}
use Rattle.ptg_top.specs.Reports.{EndsAfter, IsOfTexts, NoneFailed}
use Rattle.ptg_top.specs.Steps.{ActionEndsWith, CheckEndsWith, ReplayEndsWith, StepsEndWith}
use Rattle.ptg_top.specs.Tables.{IsReceiptOf, ShowsSettings}
use Rattle.ptg_top.specs.Receipts.{ActionFinds, HasItsReceipt, IsByReceipt, IsReceipted, StepsHaveJob, receipt_of}

-- ---- the verdict of an action

-- the answer is on what was read, or that the preload is too large
answer_of_texts : (settings : Settings) (P : Plan) (given : Data) (v : Denotation) → IsAnswer settings P given v → IsOfTexts v
answer_of_texts settings P given v h = subst IsOfTexts (sym h) (either (is_too_large settings P))
  where
    either : (large : Bool) → IsOfTexts (if large then verdicts.PreloadTooLarge else verdicts.Ran P (Answer (answer P given)))
    either true = tt
    either false = tt

module _ (held : List ℕ → Option (List ℕ)) where
  -- an action that reads no file: its verdict is on what was read
  of_texts : (action : Action) (P : Plan) (given : Data) (v : Denotation) → files_of_action action ≡ [] → ActionDenotes held action P given v → IsOfTexts v
  of_texts actions.Count P given v none h = subst IsOfTexts (sym h) tt
  of_texts (actions.Run settings) P given v none h = answer_of_texts settings P given v h
  of_texts (actions.Sum rows settings) P given v none h = subst IsOfTexts (sym h) tt
  of_texts (actions.Trace settings) P given v none h = subst IsOfTexts (sym h.2) tt
  of_texts (actions.Replay trace) P given v none h = absurd cc
  of_texts (actions.Certify settings) P given v none h = subst IsOfTexts (sym h.2) tt
  of_texts (actions.Rank settings) P given v none h = subst IsOfTexts (sym h) tt

module _ (reads : List Read) (failed : List ℕ → ℕ) (P : Plan) (given : Data) where
  pub acts_alone : (action this : Action) (r : Result Verdict OutOfMemory) → action ≡ this → files_of_action this ≡ []
      → IfOk r (λ v. ActionDenotes (λ name. None) this P given (denoted v))
      → IfOk r (λ v. ActionEndsWith reads reads failed failed action P given (denoted v))
  acts_alone action this (Ok v) is none h =
      subst (λ (a : Action). ActionEndsWith reads reads failed failed a P given (denoted v)) (sym is)
      (record {
        loads = [];
        operands = tt;
        denoted = h;
        reads = inr (of_texts (λ name. None) this P given (denoted v) none h, refl, λ name. refl);
      })
  acts_alone action this (Err x) is none h = tt

module _ (old new : List Read) (failed failed_since : List ℕ → ℕ) (P : Plan) (given : Data) (trace : List ℕ) where
  -- a replay reads its trace file
  replay_ends : (v : Denotation) → ReplayEndsWith old new failed failed_since trace P given v
      → ActionEndsWith old new failed failed_since (actions.Replay trace) P given v
  replay_ends v (inl (e, begun, rose)) =
      record { loads = []; operands = tt; denoted = e; reads = inl (trace, e, (old, refl, begun, rose)) }
  replay_ends v (inr (of, text, h, loaded)) =
      record {
        loads = load_of trace text ∷ [];
        operands = (refl, tt);
        denoted = h;
        reads = inr (of, (new, loaded.0, refl), loaded.1);
      }

  pub replay_acts : (action : Action) (r : Result Verdict OutOfMemory) → action ≡ actions.Replay trace
      → IfOk r (λ v. ReplayEndsWith old new failed failed_since trace P given (denoted v))
      → IfOk r (λ v. ActionEndsWith old new failed failed_since action P given (denoted v))
  replay_acts action (Ok v) is h =
      subst (λ (a : Action). ActionEndsWith old new failed failed_since a P given (denoted v)) (sym is)
      (replay_ends (denoted v) h)
  replay_acts action (Err x) is h = tt

-- ---- what was read for the check, and then for the action

gave_both : (first more : List Load) (old middle new : List Read) → Gave old middle first → Gave middle new more → Gave old new (first ++ more)
gave_both [] more old middle new e h = subst (λ (rs : List Read). Gave rs new more) e h
gave_both (load ∷ first) more old middle new (next, loaded, gave) h =
    (next, loaded, gave_both first more next middle new gave h)

-- loads of the first names are loads of the first of more names
more_names : (loads : List Load) (names more : List (List ℕ)) → AreOf loads names → AreOf loads (names ++ more)
more_names [] names more h = tt
more_names (load ∷ loads) [] more h = absurd h
more_names (load ∷ loads) (name ∷ names) more h = (h.0, more_names loads names more h.1)

-- a JDF file alone has no consistent job
two_are_needed : (jdf data_name text : List ℕ) (P : Plan) (given : Data)
    → ContentsDenote jdf data_name (Some text) None (verdicts.Job (jobs.Consistent P given)) → ⊥
two_are_needed jdf data_name text P given (inl (job, (fault, h, is), e)) = absurd cc
two_are_needed jdf data_name text P given (inr (J, tree, e)) = absurd cc

-- loads with which the operands denote a consistent job, and what an action makes of it
record IsActed (old new : List Read) (failed failed_since : List ℕ → ℕ) (source : Source) (action : Action) (P : Plan)
    (given : Data) (v : Denotation) : Type 0 where
  loads : List Load
  operands : AreOf loads (files_of_source source ++ files_of_action action)
  job : SourceDenotes (in_loads loads) source (verdicts.Job (jobs.Consistent P given))
  acted : ActionDenotes (in_loads loads (file_count source)) action P given v
  reads : EndsAfter old new loads failed failed_since v

module _ (old middle new : List Read) (failed failed_between failed_since : List ℕ → ℕ) where
  reads_on : (first more : List Load) (v : Denotation) → Gave old middle first → NoneFailed failed failed_between
      → EndsAfter middle new more failed_between failed_since v → EndsAfter old new (first ++ more) failed failed_since v
  reads_on first more v gave none (inl (name, e, (last, after, begun, rose))) =
      inl (name, e, (last, gave_both first more old middle last gave after, begun, subst (λ (k : ℕ). Rose k (failed_since name)) (none name) rose))
  reads_on first more v gave none (inr (of, after, same)) =
      inr (of, gave_both first more old middle new gave after, λ name. same name ∙ none name)

  module _ (action : Action) (P : Plan) (given : Data) (v : Denotation) (ends : ActionEndsWith middle new failed_between failed_since action P given v) where
    acted_on : (source : Source) (first : List Load) → AreOf first (files_of_source source)
        → SourceDenotes (in_loads first) source (verdicts.Job (jobs.Consistent P given)) → Gave old middle first
        → NoneFailed failed failed_between → IsActed old new failed failed_since source action P given v
    acted_on (Files jdf data_name) [] names job gave none = absurd cc
    acted_on (Files jdf data_name) (a ∷ []) names job gave none = absurd (two_are_needed jdf data_name a.text P given job)
    acted_on (Files jdf data_name) (a ∷ b ∷ c ∷ rest) names job gave none = absurd names.1.1
    acted_on (Files jdf data_name) (a ∷ b ∷ []) names job gave none =
        record {
          loads = a ∷ b ∷ ends.loads;
          operands = (names.0, (names.1.0, ends.operands));
          job = job;
          acted = ends.denoted;
          reads = reads_on (a ∷ b ∷ []) ends.loads v gave none ends.reads;
        }
    acted_on (Made rows) [] names job gave none =
        record {
          loads = ends.loads;
          operands = ends.operands;
          job = job;
          acted = ends.denoted;
          reads = reads_on [] ends.loads v gave none ends.reads;
        }
    acted_on (Made rows) (a ∷ first) names job gave none = absurd names

    acted_after : (source : Source) → CheckEndsWith old middle failed failed_between source (verdicts.Job (jobs.Consistent P given))
        → IsActed old new failed failed_since source action P given v
    acted_after source check = after check.reads
      where
        after : EndsAfter old middle check.loads failed failed_between (verdicts.Job (jobs.Consistent P given))
            → IsActed old new failed failed_since source action P given v
        after (inl (name, e, failing)) = absurd cc
        after (inr (of, gave, none)) = acted_on source check.loads check.operands check.denoted gave none

-- ---- the verdict on the command

count_is_checked : (held : List ℕ → Option (List ℕ)) (checked v : Denotation) → OnConsistent (ActionDenotes held actions.Count) checked v → v ≡ checked
count_is_checked held (verdicts.Job (jobs.Consistent P given)) v k = k
count_is_checked held checked v k = k

-- a refusal of `check` stays
kept : (Verb : Plan → Data → Denotation → Type 0) (checked : Denotation) → IsRefusedByCheck checked → OnConsistent Verb checked checked
kept Verb (verdicts.Job (jobs.Consistent P given)) h = absurd h
kept Verb checked h = refl

denotes : (operands : Operands) (source : Source) (action : Action) (checked v : Denotation) → SourceDenotes operands source checked
    → OnConsistent (ActionDenotes (operands (file_count source)) action) checked v → JobDenotes operands source action v
denotes operands source actions.Count checked v h k =
    subst (SourceDenotes operands source) (sym (count_is_checked (operands (file_count source)) checked v k)) h
denotes operands source action checked v h k = (checked, h, k)

module _ (old new : List Read) (failed failed_since : List ℕ → ℕ) (source : Source) (action : Action) where
  job_ends : (P : Plan) (given : Data) (v : Denotation) → IsActed old new failed failed_since source action P given v
      → StepsEndWith old new failed failed_since (commands.Job source action) v
  job_ends P given v h =
      record {
        loads = h.loads;
        operands = h.operands;
        denoted = denotes (in_loads h.loads) source action (verdicts.Job (jobs.Consistent P given)) v h.job h.acted;
        reads = h.reads;
      }

  refused_ends : (v : Denotation) → CheckEndsWith old new failed failed_since source v → IsRefusedByCheck v
      → StepsEndWith old new failed failed_since (commands.Job source action) v
  refused_ends v h r =
      let held = in_loads h.loads (file_count source) in
      record {
        loads = h.loads;
        operands = more_names h.loads (files_of_source source) (files_of_action action) h.operands;
        denoted = denotes (in_loads h.loads) source action v v h.denoted (kept (ActionDenotes held action) v r);
        reads = h.reads;
      }

  pub refusal_ends : (checked refused : Verdict) → refused ≡ checked → CheckEndsWith old new failed failed_since source (denoted checked)
      → IsRefusedByCheck (denoted refused) → StepsEndWith old new failed failed_since (commands.Job source action) (denoted refused)
  refusal_ends checked refused e h r =
      refused_ends (denoted refused)
      (subst (λ (v : Verdict). CheckEndsWith old new failed failed_since source (denoted v)) (sym e) h) r

-- ---- what is found from the answer of a job that a table ran

same_finding : (P Q : Plan) (f g : Finding) → verdicts.Ran Q f ≡ verdicts.Ran P g → f ≡ g
same_finding P Q f g e = cc

-- the answer, if the preload is not too large
answer_found : (large : Bool) (P Q : Plan) (f g : Finding)
    → verdicts.Ran Q f ≡ (if large then verdicts.PreloadTooLarge else verdicts.Ran P g) → f ≡ g
answer_found true P Q f g e = absurd cc
answer_found false P Q f g e = same_finding P Q f g e

module _ (Shows : Settings → Type 0) (P : Plan) (given : Data) where
  finds : (held : List ℕ → Option (List ℕ)) (action : Action) (Q : Plan) (finding : Finding) → IsSomeAnd (table_of action) Shows
      → ActionDenotes held action P given (verdicts.Ran Q finding) → ActionFinds action P given (answer P given) finding
  finds held actions.Count Q finding shows h = absurd shows
  finds held (actions.Run settings) Q finding shows h =
      answer_found (is_too_large settings P) P Q finding (Answer (answer P given)) h
  finds held (actions.Sum rows settings) Q finding shows h = same_finding P Q finding _ h
  finds held (actions.Trace settings) Q finding shows h = (h.0, h.1, same_finding P Q finding _ h.2)
  finds held (actions.Replay trace) Q finding shows h = absurd shows
  finds held (actions.Certify settings) Q finding shows h = (h.0, h.1, same_finding P Q finding _ h.2)
  finds held (actions.Rank settings) Q finding shows h = absurd shows

  has_job : (operands : Operands) (source : Source) (action : Action) → IsSomeAnd (table_of action) Shows
      → SourceDenotes operands source (verdicts.Job (jobs.Consistent P given)) → StepsHaveJob operands (commands.Job source action) P given
  has_job operands source actions.Count shows h = absurd shows
  has_job operands source action shows h = h

-- ---- the receipt

module _ (old new : List Read) (failed failed_since : List ℕ → ℕ) (source : Source) (action : Action) (P : Plan) (given : Data) where
  was_read : (loads : List Load) (Q : Plan) (finding : Finding) → EndsAfter old new loads failed failed_since (verdicts.Ran Q finding) → Gave old new loads
  was_read loads Q finding (inl (name, e, after)) = absurd cc
  was_read loads Q finding (inr (of, gave, none)) = gave

  module _ (r : ReceiptView) (finding : Finding) (h : IsActed old new failed failed_since source action P given (verdicts.Ran r.plan finding)) where
    -- a job that the loads denote, with its answer and the finding from it
    abbrev IsFrom : Plan → Data → Outcome → Type 0
    IsFrom Q D outcome =
        StepsHaveJob (in_loads h.loads) (commands.Job source action) Q D × (outcome ≡ answer Q D)
        × ActionFinds action Q D outcome finding

    by_receipt : IsSomeAnd (table_of action) (λ settings. ShowsSettings settings r) → IsReceiptOf P given r
        → IsByReceipt old new (files_of_source source ++ files_of_action action) (commands.Job source action) r (verdicts.Ran r.plan finding)
    by_receipt shows is =
        let Shows : Settings → Type 0 = λ settings. ShowsSettings settings r in
        let held = in_loads h.loads (file_count source) in
        let of_answer : IsFrom P given (answer P given) = (
          has_job Shows P given (in_loads h.loads) source action shows h.job,
          refl,
          finds Shows P given held action r.plan finding shows h.acted,
        ) in
        let of_outcome : IsFrom P given r.outcome = subst (λ (x : Outcome). IsFrom P given x) (sym is.2) of_answer in
        let of_data : IsFrom P r.given r.outcome = subst (λ (D : Data). IsFrom P D r.outcome) (sym is.1) of_outcome in
        let of_plan : IsFrom r.plan r.given r.outcome = subst (λ (Q : Plan). IsFrom Q r.given r.outcome) (sym is.0) of_data in
        record {
          shows = shows;
          loads = h.loads;
          operands = h.operands;
          gave = was_read h.loads r.plan finding h.reads;
          job = of_plan.0;
          answered = of_plan.1;
          finding = finding;
          found = of_plan.2;
          is = refl;
        }

  receipted : (v : Verdict) → IsActed old new failed failed_since source action P given (denoted v) → IsReceipted (table_of action) P given v
      → HasItsReceipt old new (files_of_steps (commands.Job source action)) (commands.Job source action) v
  receipted (verdict.Ran (Table r) finding) h k = by_receipt r finding h k.0 k.1
  receipted v h k = k

module _ (old new : List Read) where
  always : (table : Option Settings) (A : Type 0) → A → IfSome table (λ settings. A)
  always None A a = tt
  always (Some settings) A a = a

  -- a refusal of `check` has none
  pub refusal_receipted : (names : List (List ℕ)) (command : Command) (v : Verdict) → IsRefusedByCheck (denoted v) → HasItsReceipt old new names command v
  refusal_receipted names command (verdict.Unread name) r = always (table_of_steps command) (⊥ → ⊥) (λ h. h)
  refusal_receipted names command (verdict.Job (jobs.Jdf fault)) r = always (table_of_steps command) (⊥ → ⊥) (λ h. h)
  refusal_receipted names command (verdict.Job (jobs.Data fault)) r = always (table_of_steps command) (⊥ → ⊥) (λ h. h)
  refusal_receipted names command (verdict.Job (jobs.Inconsistent P fault)) r = always (table_of_steps command) (⊥ → ⊥) (λ h. h)
  refusal_receipted names command v r = absurd r

  -- nor has the verdict of `show`
  pub show_receipted : (jdf : List ℕ) (r : Result Verdict OutOfMemory) → IfOk r (λ v. receipt_of v ≡ None)
      → IfOk r (λ v. HasItsReceipt old new (files_of_steps (commands.Show jdf)) (commands.Show jdf) v)
  show_receipted jdf (Ok v) e =
      let Has : Option ReceiptView → Type 0 = λ o. MatchOption o ⊤ (λ (r : ReceiptView). IsByReceipt old new (jdf ∷ []) (commands.Show jdf) r (denoted v)) in
      subst Has (sym e) tt
  show_receipted jdf (Err x) e = tt

-- ---- the action on the consistent job that `check` found

module _ (old middle new : List Read) (failed failed_between failed_since : List ℕ → ℕ) (source : Source)
    (action : Action) (P : Plan) (given : Data) (checked : Denotation)
    (e : checked ≡ verdicts.Job (jobs.Consistent P given))
    (h : CheckEndsWith old middle failed failed_between source checked) where
  acted : (v : Denotation) → ActionEndsWith middle new failed_between failed_since action P given v
      → IsActed old new failed failed_since source action P given v
  acted v ends =
      acted_after old middle new failed failed_between failed_since action P given v ends source
      (subst (λ (c : Denotation). CheckEndsWith old middle failed failed_between source c) e h)

  pub action_ends : (r : Result Verdict OutOfMemory) → IfOk r (λ v. ActionEndsWith middle new failed_between failed_since action P given (denoted v))
      → IfOk r (λ v. StepsEndWith old new failed failed_since (commands.Job source action) (denoted v))
  action_ends (Ok v) ends = job_ends old new failed failed_since source action P given (denoted v) (acted (denoted v) ends)
  action_ends (Err x) ends = tt

  pub action_receipted : (r : Result Verdict OutOfMemory) → IfOk r (λ v. ActionEndsWith middle new failed_between failed_since action P given (denoted v))
      → IfOk r (λ v. IsReceipted (table_of action) P given v)
      → IfOk r (λ v. HasItsReceipt old new (files_of_steps (commands.Job source action)) (commands.Job source action) v)
  action_receipted (Ok v) ends k = receipted old new failed failed_since source action P given v (acted (denoted v) ends) k
  action_receipted (Err x) ends k = tt
