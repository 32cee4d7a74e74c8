-- `replay` accepts what `trace` prints.
-- Carried by: law `traces_replay`.
-- Tested by: `gate_runs`.
use Rattle.std.specs.Prelude.{◌≡◌, ◌↔◌, ◌≤◌, ℕ, false, List, Some, length}
use Rattle.ptg_base.specs.Limits.{most_bytes}
use Rattle.plan_core.specs.declared.plan.Plan.{Plan}
use Rattle.ptg_words.specs.declared.order.Order.TheVariants.{Replay, Run, Trace}
use Rattle.ptg_words.specs.Words.{Orders}
use Rattle.ptg_top.specs.declared.verdict.Finding.TheVariants as found
use Rattle.ptg_top.specs.Denotation as verdicts
use Rattle.ptg_top.specs.Denotation.{Denotation}
use Rattle.ptg_top.specs.Meaning.{Denotes}
use Rattle.ptg_top.specs.Operands.{Operands}

-- the later operands hold the same JDF and the same data, and this text as the trace file of this name
pub record HasTrace (operands later : Operands) (jdf data_name trace text : List ℕ) : Type 0 where
  pub same_jdf : later 0 jdf ≡ operands 0 jdf
  pub same_data : later 1 data_name ≡ operands 1 data_name
  pub has_text : later 2 trace ≡ Some text

-- for a text of at most 16 MiB that `trace` prints, `replay` denotes what `run` denotes without a preload
abbrev pub TracesReplay : Type 0
TracesReplay =
    (tracing replaying running : List (List ℕ)) (jdf data_name trace : List ℕ) (workers shards others more : ℕ)
    (operands later : Operands) (P : Plan) (text : List ℕ)
    → Orders tracing (Trace jdf data_name workers shards) → Orders replaying (Replay jdf data_name trace)
    → Orders running (Run jdf data_name others more false)
    → Denotes tracing operands (verdicts.Ran P (found.Trace text)) → length text ≤ most_bytes
    → HasTrace operands later jdf data_name trace text
    → (v : Denotation) → Denotes replaying later v ↔ Denotes running operands v
