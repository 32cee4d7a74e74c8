-- What each step of parsing the command line returns.
use Rattle.std.specs.Prelude.{◌≡◌, ◌==◌, ◌&&◌, not, drop, ℕ, Bool, true, false, List, [], ◌∷◌, length, map, Option, Some, option_copied, option_to_list, codes}
use Rattle.std.specs.Str.{bytes_eq}
use Rattle.std.specs.List.{All, list_any}
use Rattle.std.specs.Borrow.{Bor}
use Rattle.clap.specs.Matches.{first_value}
use Rattle.clap.specs.declared.parser.matches.Found.{Found}
use Rattle.ptg_words.specs.declared.clap_words.VerbWords.{VerbWords}
use Rattle.ptg_words.specs.declared.verb.ReadVerb.{ReadVerb}
use Rattle.ptg_words.specs.declared.verbs.Verb.{Verb}
use Rattle.ptg_words.specs.declared.order.Order.{Order}
use Rattle.ptg_words.specs.Parts.{Part, parts, workers, shards, operands, texts_of, is_preload, is_lacking, is_stray, has_twice}
use Rattle.ptg_words.specs.Words.{IsProper, read, formed, operands_of, options_of, workers_of, shards_of, has_bad_count, has_bad_operand}

-- the texts that references point to
abbrev pub texts : List (Bor (List ℕ)) → List (List ℕ)
texts = map (λ s. s.now)

-- whether no part is stray or lacks its number, no option occurs twice, and there are n operands
abbrev pub is_read : ℕ → List Part → Bool
is_read n ps =
    not (list_any is_stray ps) && (not (list_any is_lacking ps) && (not (has_twice ps) && (length (operands ps) == n)))

-- the text as a list, which is empty if there is none
abbrev pub texts_in : Option (Bor (List ℕ)) → List (List ℕ)
texts_in text = option_to_list (option_copied text)

-- these are the first values that clap found for these ids, in order, and each id has one
abbrev pub HasFirstValues : Found → List (List ℕ) → List (List ℕ) → Type 0
HasFirstValues found ids values = map (first_value found) ids ≡ map Some values

-- what was read has the operands of the parts, the texts of their options, and whether `--preload` is given
pub record HasWords (ps : List Part) (r : VerbWords) : Type 0 where
  pub operand_texts : texts r.operands.items ≡ operands ps
  pub workers_text : texts_of workers ps ≡ texts_in r.workers
  pub shards_text : texts_of shards ps ≡ texts_in r.shards
  pub preloads : list_any is_preload ps ≡ r.preload

-- what was read has the numbers of workers and shards, given or default, and whether `--preload` is given
pub record HasCounts (ps : List Part) (r : ReadVerb) : Type 0 where
  pub workers : r.workers ≡ workers_of ps
  pub shards : r.shards ≡ shards_of ps
  pub preloads : r.preload ≡ list_any is_preload ps

-- the parts have n operands and break no rule of options, and what was read has the operands and the options' values
pub record IsReadOf (n : ℕ) (ps : List Part) (r : ReadVerb) : Type 0 where
  pub good : is_read n ps ≡ true
  pub counts : has_bad_count ps ≡ false
  pub operand_texts : texts r.operands.items ≡ operands ps
  pub options : HasCounts ps r

-- some operand that must be a number is none, or is out of its range
abbrev pub HasBadOperand : Verb → ReadVerb → Type 0
HasBadOperand verb r = has_bad_operand (operands_of verb) (texts r.operands.items) ≡ true

-- what was read forms this command: no operand is a bad number, and with any parts that have the options' values as
-- read, the operands form the command
pub record Forms (verb : Verb) (r : ReadVerb) (order : Order) : Type 0 where
  pub good : has_bad_operand (operands_of verb) (texts r.operands.items) ≡ false
  pub asks : (ps : List Part) → HasCounts ps r → formed verb (texts r.operands.items) ps ≡ Some order

-- whether an id is the name of no option
abbrev pub is_free_id : List ℕ → Bool
is_free_id id =
    not (bytes_eq (codes "workers") id) && (not (bytes_eq (codes "shards") id) && not (bytes_eq (codes "preload") id))

-- whether these can be the ids of operands: they differ from each other and from the names of the options
abbrev pub are_ids : List (List ℕ) → Bool
are_ids [] = true
are_ids (id ∷ ids) = is_free_id id && (not (list_any (bytes_eq id) ids) && are_ids ids)

-- proper words whose first one names this verb
pub record IsOf (verb : Verb) (words : List (List ℕ)) : Type 0 where
  pub reads : read words ≡ Some (verb, parts (options_of verb) (drop 1 words))
  pub proper : All IsProper words
