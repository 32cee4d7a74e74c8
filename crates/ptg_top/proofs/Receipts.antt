-- The receipt of a verdict on arguments: it is that of the command, its job is the one that the loads denote, and its
-- outcome is the answer that is printed.
use Rattle.std.proofs.Common.{◌≡◌, ℕ, List, ◌++◌, Option, Some, None, sym, ◌∙◌, ap, subst, inr}
use Rattle.std.specs.Prelude.{IfSome, IfNone, MatchOption}
use Rattle.flow_meaning.specs.declared.outcome.Outcome.{Outcome}
use Rattle.flow_meaning.specs.declared.outcome.Outcome.TheVariants as outcomes
use Rattle.dep_table.specs.Receipts.{ReceiptView}
use Rattle.ptg_words.specs.declared.order.Order.{Order}
use Rattle.ptg_words.specs.Laws.{files_of}
use Rattle.ptg_words.specs.Words.{Orders}
use Rattle.ptg_top.specs.declared.status.Status.{Status}
use Rattle.ptg_top.specs.declared.verdict.Finding.{Finding}
use Rattle.ptg_top.specs.declared.verdict.Finding.TheVariants as findings
use Rattle.ptg_top.specs.declared.verdict.Verdict.{Verdict}
use Rattle.ptg_top.specs.Commands.{command_of}
use Rattle.ptg_top.specs.Denotation.{Denotation, denoted}
use Rattle.ptg_top.specs.Operands.{Load, Read, in_loads}
use Rattle.ptg_top.specs.Reports.{HasLoaded}
use Rattle.ptg_top.specs.Findings.{status_of_finding, status_of_outcome}
use Rattle.ptg_top.specs.Headline.{status_of, text_of}
use Rattle.ptg_top.specs.Receipts.{HasConsistentJob, HasReceiptForWords, IsAnswerStatus, IsByReceipt, IsReceiptFor, PrintsReceipt, RunsOnTable, receipt_of}

an_answer_has_its_status : (outcome : Outcome) → IsAnswerStatus (status_of_outcome outcome)
an_answer_has_its_status (outcomes.Complete count given) = tt
an_answer_has_its_status (outcomes.Trapped rows) = tt
an_answer_has_its_status (outcomes.Stalled ran total rows) = tt

a_finding_has_its_status : (finding : Finding) → IsAnswerStatus (status_of_finding finding)
a_finding_has_its_status (findings.Answer outcome) = an_answer_has_its_status outcome
a_finding_has_its_status (findings.Summary found) = tt
a_finding_has_its_status (findings.Chain found) = tt
a_finding_has_its_status (findings.Cycle found) = tt
a_finding_has_its_status (findings.Trace text) = tt
a_finding_has_its_status (findings.Ranked found) = an_answer_has_its_status found.outcome

module _ (words : List (List ℕ)) (old new : List Read) (v : Verdict) (found : Option ReceiptView)
    (is : found ≡ receipt_of v) (has : HasReceiptForWords words old new v) where
  abbrev HasReceipt : Option ReceiptView → Type 0
  HasReceipt o =
      MatchOption o
      ((command : Order) → Orders words command → RunsOnTable command → IsAnswerStatus (status_of (denoted v)) → ⊥)
      (λ (r : ReceiptView). (command : Order) × Orders words command
      × IsByReceipt old new (files_of command) (command_of command) r (denoted v))

  here : HasReceipt found
  here = subst HasReceipt (sym is) has

  pub receipt_is_of_job : IfSome found (λ r. (loads : List Load) × HasLoaded words old new loads × HasConsistentJob words (in_loads loads) r.plan r.given)
  receipt_is_of_job = shown found here
    where
      shown : (o : Option ReceiptView) → HasReceipt o
          → IfSome o (λ r. (loads : List Load) × HasLoaded words old new loads × HasConsistentJob words (in_loads loads) r.plan r.given)
      shown None h = tt
      shown (Some r) (command, formed, by) =
          (by.loads, (inr (command, formed, by.operands), by.gave), (command, formed, by.job))

  module _ (s : Status) (ends : s ≡ status_of (denoted v)) where
    pub receipt_is_asked : IfSome found (λ r. (o : Order) × Orders words o × IsReceiptFor o r × IsAnswerStatus s)
    receipt_is_asked = asked found here
      where
        asked : (o : Option ReceiptView) → HasReceipt o → IfSome o (λ r. (o : Order) × Orders words o × IsReceiptFor o r × IsAnswerStatus s)
        asked None h = tt
        asked (Some r) (command, formed, by) =
            (command, formed, by.shows, subst IsAnswerStatus (sym (ends ∙ ap status_of by.is)) (a_finding_has_its_status by.finding))

    pub no_receipt_no_answer : IfNone found ((o : Order) → Orders words o → RunsOnTable o → IsAnswerStatus s → ⊥)
    no_receipt_no_answer = unasked found here
      where
        unasked : (o : Option ReceiptView) → HasReceipt o → IfNone o ((o : Order) → Orders words o → RunsOnTable o → IsAnswerStatus s → ⊥)
        unasked None h = λ command formed runs status. h command formed runs (subst IsAnswerStatus ends status)
        unasked (Some r) h = tt

    pub receipt_is_printed : (before after : List ℕ) → after ≡ before ++ text_of (denoted v) → IfSome found (λ r. PrintsReceipt words r before after s)
    receipt_is_printed before after text = printed found here
      where
        printed : (o : Option ReceiptView) → HasReceipt o → IfSome o (λ r. PrintsReceipt words r before after s)
        printed None h = tt
        printed (Some r) (command, formed, by) =
            record {
              answered = by.answered;
              command = command;
              formed = formed;
              finding = by.finding;
              found = by.found;
              text = text ∙ ap (λ (d : Denotation). before ++ text_of d) by.is;
              ends = ends ∙ ap status_of by.is;
            }
