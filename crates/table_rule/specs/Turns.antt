-- Turns: who may read and write a shard.
-- Carried by: laws of `table_rule`.
use Rattle.std.specs.Prelude.{◌≡◌, ℕ, ◌<◌, ◌≤◌, ◌==◌, List, length, slice_index}
use mathlib.Core.Option.{Option, none, some}
use lib.ListN.{get_elem?}
use Rattle.ptg_base.specs.Lists.{IsIn}
use Rattle.dep_shard.specs.Content.{Content}
use Rattle.list_lemmas.specs.Counting.{count, weigh}
use Rattle.work_board.specs.declared.record.PassRecord.{PassRecord}
use Rattle.table_rule.specs.Records.{Each}
use Rattle.table_rule.specs.Words.{turn_word}

-- a shard whose turn is free is in its slot, and Q holds for its number and its content
abbrev pub AreInSlots : (ℕ → Content → Type 0) → List ℕ → List (Option Content) → Type 0
AreInSlots Q words slots =
    (k : ℕ) → k < length slots → slice_index words (turn_word k) ≡ 0
    → (y : Content) × (get_elem? slots k ≡ some (some y)) × Q k y

-- Q holds for each turn that a pass holds: for the number of its shard, and what the shard had when the turn was taken
abbrev pub AreHeld : (ℕ → Content → Type 0) → List PassRecord → Type 0
AreHeld Q vs = Each (λ v. (k : ℕ) (y : Content) → IsIn (k, y) v.turns → Q k y) vs

-- how many turns of the shard k a pass holds
abbrev pub holds : ℕ → PassRecord → ℕ
holds k v = count (λ ((shard, y) : ℕ × Content). shard == k) v.turns

-- the turn words and the slots of a table agree with the turns that its passes hold
pub record AreTurns (words : List ℕ) (slots : List (Option Content)) (vs : List PassRecord) : Type 0 where
  -- a turn word is 1 if one pass holds the turn, and 0 if none does
  pub counted : (k : ℕ) → k < length slots → weigh (holds k) vs ≡ slice_index words (turn_word k)
  pub single : (k : ℕ) → k < length slots → slice_index words (turn_word k) ≤ 1
  -- a shard whose turn is held is not in its slot: it is with that pass alone
  pub out : (k : ℕ) → k < length slots → slice_index words (turn_word k) ≡ 1 → get_elem? slots k ≡ some none
  -- each turn that is held is the turn of a shard of the table
  pub of_shards : AreHeld (λ k y. k < length slots) vs
