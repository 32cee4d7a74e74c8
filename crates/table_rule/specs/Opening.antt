-- A table before its first step.
-- Carried by: law `the_rule_holds_before_the_first_step`.
use Rattle.std.specs.Prelude.{◌≡◌, ◌≢◌, ℕ, ◌<◌, ◌≤◌, true, List, length, slice_index}
use Rattle.ptg_base.specs.Limits.{most_shards}
use mathlib.Core.Option.{some}
use lib.ListN.{get_elem?}
use Rattle.dep_iter.specs.Consistent.{IsConsistent}
use Rattle.dep_shard.specs.Content.{Content}
use Rattle.flow_meaning.specs.Machine.{opening_state}
use Rattle.flow_meaning.specs.Table.{ready_tasks}
use Rattle.shard_meaning.specs.Opening.{HasOpeningReserve, IsOpeningShard}
use Rattle.table_rule.specs.declared.table_job.TableJob.{TableJob}
use Rattle.table_rule.specs.Rule.{placement_of}
use Rattle.table_rule.specs.Words.{live_word, word_count}

-- the words of a new table with n shards: the live word is this number, and each other word is 0
pub record AreOpeningWords (n ready : ℕ) (words : List ℕ) : Type 0 where
  pub long : length words ≡ word_count n
  pub live : slice_index words (live_word n) ≡ ready
  pub zero : (i : ℕ) → i ≢ live_word n → slice_index words i ≡ 0

-- the words and the shards of a new table, for a consistent job. The tasks that no edge goes into are entries of their
-- shards, the live word counts them, and each other word is 0. If it is preloaded, each shard has its spares
pub record IsOpening (j : TableJob) (words : List ℕ) (shards : List Content) : Type 0 where
  pub consistent : IsConsistent j.matched
  pub some_shards : 0 < j.shards
  pub shards_at_most : j.shards ≤ most_shards
  pub shard_count : length shards ≡ j.shards
  pub opening_words : AreOpeningWords j.shards (length (ready_tasks j.matched opening_state)) words
  pub each : (k : ℕ) (y : Content) → get_elem? shards k ≡ some y
      → IsOpeningShard j.matched (placement_of j) k y
  pub spares : j.preloaded ≡ true → (k : ℕ) (y : Content) → get_elem? shards k ≡ some y
      → HasOpeningReserve j.matched (placement_of j) k y
