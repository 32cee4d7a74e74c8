-- Quiet and halt.
-- Carried by: laws of `table_rule`.
use Rattle.std.specs.Prelude.{◌≡◌, ℕ, ◌<◌, true, List}
use Rattle.plan_core.specs.declared.plan.Plan.{Plan}
use Rattle.list_lemmas.specs.Counting.{as_number, weigh}
use Rattle.shard_meaning.specs.Calm.{IsCalm}
use Rattle.shard_meaning.specs.Moment.{Moment}
use Rattle.work_board.specs.declared.record.PassRecord.{PassRecord}
use Rattle.table_rule.specs.Records.{Each}

-- 1 for a pass that raised the halt word, else 0
abbrev pub raised : PassRecord → ℕ
raised v = as_number v.halts

-- the marks of the passes (quiet and halt) agree with the moment and with the halt word
pub record IsQuieted (P : Plan) (R : Moment) (halt : ℕ) (vs : List PassRecord) : Type 0 where
  -- if a pass has seen quiet, no task is ready or runs
  pub calm : Each (λ v. v.quiet ≡ true → IsCalm P R) vs
  -- the halt word is 0 if and only if no pass has raised it
  pub low : weigh raised vs ≡ 0 → halt ≡ 0
  pub high : 0 < weigh raised vs → 0 < halt
