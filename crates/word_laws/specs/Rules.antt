-- The rules of the command line, stated for the words themselves, and the words that break one.
-- Carried by: law `the_rules_are_over_the_words`.
-- Tested by: `usage.txt`, `options.txt`.
use Rattle.std.specs.Prelude.{◌≡◌, ◌≢◌, ℕ, true, false, List, ◌∷◌, length, map}
use Rattle.std.specs.List.{Any, filter}
use Rattle.ptg_base.specs.Limits.{most_shards, most_workers}
use Rattle.ptg_base.specs.Lists.{IsIn}
use Rattle.ptg_words.specs.declared.verbs.Verb.{Verb}
use Rattle.ptg_words.specs.Words.{IsProper, has_bad_operand, is_number, operand_count, operands_of}
use Rattle.word_laws.specs.Forms.{HasForm, IsPreload, IsShards, IsTextOfShards, IsTextOfWorkers, IsWorkers, LacksValue, OccursTwice, is_other, with_previous}

-- the words that are neither options nor values, in their order
abbrev pub other_words : Verb → List (List ℕ) → List (List ℕ)
other_words verb words = map (λ ((before, word) : List ℕ × List ℕ). word) (filter (is_other verb) (with_previous words))

-- The verb or the words after it break a rule. A word is not UTF-8, is empty, or is `-` or `--`. A word has a form that
-- the verb does not have. An option lacks its value. An option occurs twice. The words that are neither options nor
-- values are more or fewer than the verb's operands. A text that must be a number is none, or is out of its range.
pub data BreaksRule (verb : Verb) (first : List ℕ) (words : List (List ℕ)) : Type 0 where
  improper : Any (λ word. IsProper word → ⊥) (first ∷ words) → BreaksRule verb first words
  no_form : (word : List ℕ) → IsIn word words → (HasForm verb word → ⊥) → BreaksRule verb first words
  no_value : LacksValue verb words → BreaksRule verb first words
  workers_twice : OccursTwice (IsWorkers verb) words → BreaksRule verb first words
  shards_twice : OccursTwice (IsShards verb) words → BreaksRule verb first words
  preload_twice : OccursTwice (IsPreload verb) words → BreaksRule verb first words
  wrong_count : length (other_words verb words) ≢ operand_count verb → BreaksRule verb first words
  bad_workers : (text : List ℕ) → IsTextOfWorkers verb words text → is_number 1 most_workers text ≡ false
      → BreaksRule verb first words
  bad_shards : (text : List ℕ) → IsTextOfShards verb words text → is_number 1 most_shards text ≡ false
      → BreaksRule verb first words
  bad_operand : has_bad_operand (operands_of verb) (other_words verb words) ≡ true → BreaksRule verb first words
