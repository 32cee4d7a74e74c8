-- A verdict that was printed whole.
use Rattle.std.proofs.Common.{◌≡◌, ℕ, List, [], ◌++◌, subst, sym, ap, ◌∙◌, refl, inl, inr}
use Rattle.std.specs.Prelude.{◌⊎◌}
use Rattle.ptg_io.specs.Faults.{Rose}
use Rattle.flow_meaning.specs.declared.outcome.Outcome.{Outcome}
use Rattle.flow_meaning.specs.declared.outcome.Outcome.TheVariants as outcome
use Rattle.job_stages.specs.declared.verdict.JobVerdict.TheVariants as jobs
use Rattle.report_text.specs.Refusal.{unread_line, usage_line}
use Rattle.ptg_top.specs.declared.status.Status.{Status}
use Rattle.ptg_top.specs.declared.status.Status.TheVariants as status
use Rattle.ptg_top.specs.declared.verdict.Finding.TheVariants as findings
use Rattle.ptg_top.specs.Findings.{status_of_outcome}
use Rattle.ptg_top.specs.Denotation as verdicts
use Rattle.ptg_top.specs.Denotation.{Denotation}
use Rattle.ptg_words.specs.declared.order.Order.{Order}
use Rattle.ptg_words.specs.Laws.{files_of}
use Rattle.ptg_words.specs.Words.{Orders}
use Rattle.ptg_top.specs.Operands.{AreOf, Load, Read, in_loads}
use Rattle.ptg_top.specs.Meaning.{CommandDenotes, Denotes, IsNoCommand}
use Rattle.ptg_top.specs.Reports.{EndsAfter, HasLoaded, IsOfTexts, IsUnread, IsVerdictOnWords, NoneFailed}
use Rattle.ptg_top.specs.Headline.{text_of, status_of, IsExact, PrintsLoaded}

module _ (words : List (List ℕ)) (old new : List Read) (failed failed_since : List ℕ → ℕ) (v : Denotation) where
  -- the verdict is no read fault
  abbrev pub WasRead : Type 0
  WasRead = (name : List ℕ) → v ≡ verdicts.Unread name → Rose (failed name) (failed_since name) → ⊥

  -- loads with which the arguments denote the verdict
  abbrev pub IsOnLoads : Type 0
  IsOnLoads = (loads : List Load) × HasLoaded words old new loads × Denotes words (in_loads loads) v

  on_loads : (command : Order) (loads : List Load) → Orders words command → AreOf loads (files_of command)
      → CommandDenotes (in_loads loads) command v → EndsAfter old new loads failed failed_since v → WasRead → IsOnLoads
  on_loads command loads formed names h (inl (name, e, after)) read = absurd (read name e after.3)
  on_loads command loads formed names h (inr (of, gave, none)) read = (loads, (inr (command, formed, names), gave), inr (command, formed, h))

  -- arguments and loads denote the verdict, unless it is a read fault
  pub is_denoted : IsVerdictOnWords words old new failed failed_since v → WasRead → IsOnLoads
  is_denoted (inl (none, e, same, faults)) read = ([], (inl (none, refl), same), inl (none, e))
  is_denoted (inr (command, formed, h)) read = on_loads command h.loads formed h.operands h.denoted h.reads read

  prints : (before after : List ℕ) (s : Status) → IsOnLoads → after ≡ before ++ text_of v → s ≡ status_of v → PrintsLoaded words old new before after s
  prints before after s on text ends = (on.0, on.1, record { verdict = v; denoted = on.2; text = text; ends = ends })

  pub exact_prints : (before after : List ℕ) (s : Status) → IsVerdictOnWords words old new failed failed_since v
      → after ≡ before ++ text_of v → s ≡ status_of v → IsExact s → PrintsLoaded words old new before after s
  exact_prints before after s h text ends exact = prints before after s (is_denoted h (λ name e rose. subst IsExact (ends ∙ ap status_of e) exact)) text ends

  none_failed_after : (loads : List Load) → EndsAfter old new loads failed failed_since v → IsExact (status_of v) → NoneFailed failed failed_since
  none_failed_after loads (inl (name, e, after)) exact = absurd (subst IsExact (ap status_of e) exact)
  none_failed_after loads (inr (of, gave, none)) exact = none

  -- if the status is that of a verdict, no read failed
  pub none_failed : IsVerdictOnWords words old new failed failed_since v → IsExact (status_of v) → NoneFailed failed failed_since
  none_failed (inl (none, e, same, faults)) exact = faults
  none_failed (inr (command, formed, h)) exact = none_failed_after h.loads h.reads exact

-- ---- the status of a verdict on texts is neither that of usage nor that of a failed read or write

abbrev IsOfText : Status → Type 0
IsOfText s = (s ≡ status.Usage → ⊥) × (s ≡ status.ReadFault → ⊥) × (s ≡ status.WriteFault → ⊥)

of_outcome : (o : Outcome) → IsOfText (status_of_outcome o)
of_outcome (outcome.Complete count given) = (λ e. absurd cc, λ e. absurd cc, λ e. absurd cc)
of_outcome (outcome.Trapped rows) = (λ e. absurd cc, λ e. absurd cc, λ e. absurd cc)
of_outcome (outcome.Stalled ran total rows) = (λ e. absurd cc, λ e. absurd cc, λ e. absurd cc)

of_texts : (v : Denotation) → IsOfTexts v → IsOfText (status_of v)
of_texts verdicts.Usage h = absurd h
of_texts (verdicts.Unread name) h = absurd h
of_texts (verdicts.Job (jobs.Jdf fault)) h = (λ e. absurd cc, λ e. absurd cc, λ e. absurd cc)
of_texts (verdicts.Job (jobs.Data fault)) h = (λ e. absurd cc, λ e. absurd cc, λ e. absurd cc)
of_texts (verdicts.Job (jobs.Inconsistent P fault)) h = (λ e. absurd cc, λ e. absurd cc, λ e. absurd cc)
of_texts (verdicts.Job (jobs.Consistent P given)) h = (λ e. absurd cc, λ e. absurd cc, λ e. absurd cc)
of_texts (verdicts.Ran P (findings.Answer o)) h = of_outcome o
of_texts (verdicts.Ran P (findings.Summary found)) h = (λ e. absurd cc, λ e. absurd cc, λ e. absurd cc)
of_texts (verdicts.Ran P (findings.Chain found)) h = (λ e. absurd cc, λ e. absurd cc, λ e. absurd cc)
of_texts (verdicts.Ran P (findings.Cycle found)) h = (λ e. absurd cc, λ e. absurd cc, λ e. absurd cc)
of_texts (verdicts.Ran P (findings.Trace text)) h = (λ e. absurd cc, λ e. absurd cc, λ e. absurd cc)
of_texts (verdicts.Ran P (findings.Ranked found)) h = of_outcome found.outcome
of_texts (verdicts.Spelling text) h = (λ e. absurd cc, λ e. absurd cc, λ e. absurd cc)
of_texts verdicts.PreloadTooLarge h = (λ e. absurd cc, λ e. absurd cc, λ e. absurd cc)
of_texts (verdicts.TraceRefused fault) h = (λ e. absurd cc, λ e. absurd cc, λ e. absurd cc)

-- ---- a verdict on texts has the status of a verdict

exact_outcome : (o : Outcome) → IsExact (status_of_outcome o)
exact_outcome (outcome.Complete count given) = tt
exact_outcome (outcome.Trapped rows) = tt
exact_outcome (outcome.Stalled ran total rows) = tt

exact_texts : (v : Denotation) → IsOfTexts v → IsExact (status_of v)
exact_texts verdicts.Usage h = absurd h
exact_texts (verdicts.Unread name) h = absurd h
exact_texts (verdicts.Job (jobs.Jdf fault)) h = tt
exact_texts (verdicts.Job (jobs.Data fault)) h = tt
exact_texts (verdicts.Job (jobs.Inconsistent P fault)) h = tt
exact_texts (verdicts.Job (jobs.Consistent P given)) h = tt
exact_texts (verdicts.Ran P (findings.Answer o)) h = exact_outcome o
exact_texts (verdicts.Ran P (findings.Summary found)) h = tt
exact_texts (verdicts.Ran P (findings.Chain found)) h = tt
exact_texts (verdicts.Ran P (findings.Cycle found)) h = tt
exact_texts (verdicts.Ran P (findings.Trace text)) h = tt
exact_texts (verdicts.Ran P (findings.Ranked found)) h = exact_outcome found.outcome
exact_texts (verdicts.Spelling text) h = tt
exact_texts verdicts.PreloadTooLarge h = tt
exact_texts (verdicts.TraceRefused fault) h = tt

module _ (words : List (List ℕ)) (old new : List Read) (failed failed_since : List ℕ → ℕ) (v : Denotation)
    (none : (name : List ℕ) → Rose (failed name) (failed_since name) → ⊥) where
  exact_after : (loads : List Load) → EndsAfter old new loads failed failed_since v → IsExact (status_of v)
  exact_after loads (inl (name, e, after)) = absurd (none name after.3)
  exact_after loads (inr (of, gave, same)) = exact_texts v of

  exact_without_faults : IsVerdictOnWords words old new failed failed_since v → IsExact (status_of v)
  exact_without_faults (inl h) = subst IsExact (sym (ap status_of h.1)) tt
  exact_without_faults (inr (command, formed, h)) = exact_after h.loads h.reads

  pub complete_prints : (before after : List ℕ) (s : Status) → IsVerdictOnWords words old new failed failed_since v
      → after ≡ before ++ text_of v → s ≡ status_of v
      → (IsExact s × PrintsLoaded words old new before after s) ⊎ (s ≡ status.OutOfMemory)
  complete_prints before after s h text ends =
      let exact : IsExact s = subst IsExact (sym ends) (exact_without_faults h) in
      inl (exact, exact_prints words old new failed failed_since v before after s h text ends exact)

not_usage : ◌≡◌ {A = Status} status.ReadFault status.Usage → ⊥
not_usage e = absurd cc

not_read_fault : ◌≡◌ {A = Status} status.Usage status.ReadFault → ⊥
not_read_fault e = absurd cc

not_write_fault : ◌≡◌ {A = Status} status.Usage status.WriteFault → ⊥
not_write_fault e = absurd cc

not_write_but_read_fault : ◌≡◌ {A = Status} status.ReadFault status.WriteFault → ⊥
not_write_but_read_fault e = absurd cc

module _ (words : List (List ℕ)) (old new : List Read) (failed failed_since : List ℕ → ℕ) (v : Denotation) where
  -- a verdict on a command has neither the status of usage nor that of a write fault
  no_usage_after : (loads : List Load) → EndsAfter old new loads failed failed_since v → status_of v ≡ status.Usage → ⊥
  no_usage_after loads (inl (name, d, after)) e = not_usage (sym (ap status_of d) ∙ e)
  no_usage_after loads (inr (of, gave, none)) e = (of_texts v of).0 e

  no_write_fault_after : (loads : List Load) → EndsAfter old new loads failed failed_since v → status_of v ≡ status.WriteFault → ⊥
  no_write_fault_after loads (inl (name, d, after)) e = not_write_but_read_fault (sym (ap status_of d) ∙ e)
  no_write_fault_after loads (inr (of, gave, none)) e = (of_texts v of).2 e

  unread_after : (command : Order) (loads : List Load) → Orders words command → AreOf loads (files_of command)
      → CommandDenotes (in_loads loads) command v → EndsAfter old new loads failed failed_since v
      → status_of v ≡ status.ReadFault
      → (name : List ℕ) × IsUnread words old new failed failed_since name × (text_of v ≡ unread_line name)
  unread_after command loads formed names h (inl (name, d, after)) e = (
    name,
    record {
      loads = loads;
      operands = inr (command, formed, names);
      denoted = inr (command, formed, subst (λ (w : Denotation). CommandDenotes (in_loads loads) command w) d h);
      reads = after;
    },
    ap text_of d,
  )
  unread_after command loads formed names h (inr (of, gave, none)) e = absurd ((of_texts v of).1 e)

  -- the status of usage comes with its line alone, and only if the arguments form no command
  pub usage_is_its_line : IsVerdictOnWords words old new failed failed_since v → status_of v ≡ status.Usage → text_of v ≡ usage_line
  usage_is_its_line (inl h) e = ap text_of h.1
  usage_is_its_line (inr (command, formed, h)) e = absurd (no_usage_after h.loads h.reads e)

  pub usage_is_no_command : IsVerdictOnWords words old new failed failed_since v → status_of v ≡ status.Usage → IsNoCommand words
  usage_is_no_command (inl h) e = h.0
  usage_is_no_command (inr (command, formed, h)) e = absurd (no_usage_after h.loads h.reads e)

  -- arguments that form no command have no other verdict
  pub no_command_is_usage : IsVerdictOnWords words old new failed failed_since v → IsNoCommand words → status_of v ≡ status.Usage
  no_command_is_usage (inl h) none = ap status_of h.1
  no_command_is_usage (inr (command, formed, h)) none = absurd (none command formed)

  -- the status of a read fault comes with the name of a file that had a failed read
  pub read_fault_names : IsVerdictOnWords words old new failed failed_since v → status_of v ≡ status.ReadFault
      → (name : List ℕ) × IsUnread words old new failed failed_since name × (text_of v ≡ unread_line name)
  read_fault_names (inl h) e = absurd (not_read_fault (sym (ap status_of h.1) ∙ e))
  read_fault_names (inr (command, formed, h)) e = unread_after command h.loads formed h.operands h.denoted h.reads e

  -- no verdict has the status of a write fault
  pub no_write_fault : IsVerdictOnWords words old new failed failed_since v → status_of v ≡ status.WriteFault → ⊥
  no_write_fault (inl h) e = not_write_fault (sym (ap status_of h.1) ∙ e)
  no_write_fault (inr (command, formed, h)) e = no_write_fault_after h.loads h.reads e
