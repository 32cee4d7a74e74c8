-- The verdict on a command as one on the arguments that form it.
use Rattle.std.proofs.Common.{◌≡◌, ℕ, List, Option, Some, None, Result, Ok, Err, sym, subst, inr}
use Rattle.std.specs.Prelude.{IfOk, IfSome, IsSome, MatchOption}
use Rattle.std.proofs.lemmas.Bool.{false≢true}
use Rattle.ptg_base.specs.declared.memory.OutOfMemory.{OutOfMemory}
use Rattle.dep_table.specs.Receipts.{ReceiptView}
use Rattle.run_pool.specs.declared.settings.Settings.{Settings}
use Rattle.ptg_words.specs.declared.order.Order.{Order}
use Rattle.ptg_words.specs.Laws.{files_of}
use Rattle.ptg_words.specs.Words.{Orders}
use Rattle.ptg_words.proofs.CallerLemmas.{one_command}
use Rattle.ptg_top.specs.declared.command.Command.{Command}
use Rattle.ptg_top.specs.declared.verdict.Verdict.{Verdict}
use Rattle.ptg_top.specs.Commands.{command_of, files_of_steps}
use Rattle.ptg_top.specs.Denotation.{denoted}
use Rattle.ptg_top.specs.Operands.{Read}
use Rattle.ptg_top.specs.Meaning.{StepsDenote}
use Rattle.ptg_top.specs.Headline.{status_of}
use Rattle.ptg_top.specs.Reports.{EndsWith, IsVerdictOnWords}
use Rattle.ptg_top.specs.Receipts.{HasItsReceipt, HasReceiptForWords, IsAnswerStatus, IsByReceipt, RunsOnTable, receipt_of, settings_of}
use Rattle.ptg_top.specs.Steps.{StepsEndWith}
use Rattle.ptg_top.proofs.Commands.{same_files}

if_some : (table : Option Settings) (A : Type 0) → IsSome table → IfSome table (λ settings. A) → A
if_some None A some h = absurd (false≢true some)
if_some (Some settings) A some h = h

module _ (words : List (List ℕ)) (old new : List Read) (command : Order) (steps : Command)
    (formed : Orders words command) (is : steps ≡ command_of command) where
  pub command_ends : (failed failed_since : List ℕ → ℕ) (r : Result Verdict OutOfMemory)
      → IfOk r (λ v. StepsEndWith old new failed failed_since steps (denoted v))
      → IfOk r (λ v. IsVerdictOnWords words old new failed failed_since (denoted v))
  command_ends failed failed_since (Ok v) h =
      let Ends : List (List ℕ) → Command → Type 0 =
      λ names q. EndsWith old new failed failed_since names (λ operands. StepsDenote operands q) (denoted v) in
      let of_command : Ends (files_of_steps (command_of command)) (command_of command) =
      subst (λ (q : Command). Ends (files_of_steps q) q) is h in
      inr (command, formed, subst (λ (names : List (List ℕ)). Ends names (command_of command)) (sym (same_files command)) of_command)
  command_ends failed failed_since (Err x) h = tt

  -- the arguments form this command alone
  for_words : (A : Type 0) (Shown : Order → ReceiptView → Type 0) (o : Option ReceiptView)
      → MatchOption o (IfSome (settings_of command) (λ settings. A)) (λ r. Shown command r)
      → MatchOption o ((other : Order) → Orders words other → RunsOnTable other → A) (λ r. (other : Order) × Orders words other × Shown other r)
  for_words A Shown None h =
      λ other also runs.
      if_some (settings_of other) A runs (subst (λ (c : Order). IfSome (settings_of c) (λ settings. A)) (one_command words command other formed also) h)
  for_words A Shown (Some r) h = (command, formed, h)

  pub command_receipted : (r : Result Verdict OutOfMemory) → IfOk r (λ v. HasItsReceipt old new (files_of_steps steps) steps v)
      → IfOk r (λ v. HasReceiptForWords words old new v)
  command_receipted (Ok v) h =
      let of_command : HasItsReceipt old new (files_of_steps (command_of command)) (command_of command) v =
      subst (λ (q : Command). HasItsReceipt old new (files_of_steps q) q v) is h in
      for_words (IsAnswerStatus (status_of (denoted v)) → ⊥) (λ other r. IsByReceipt old new (files_of other) (command_of other) r (denoted v)) (receipt_of v)
      (subst (λ (names : List (List ℕ)). HasItsReceipt old new names (command_of command) v) (sym (same_files command)) of_command)
  command_receipted (Err x) h = tt
