-- Which arguments form which command, and the seven rules of the command line. Arguments that break a rule form no
-- command.
-- Carried by: `words`; law `word_laws::words_form_one_command`.
-- Tested by: `usage.txt`, `options.txt`, `commands.txt`.
use Rattle.std.specs.Prelude.{◌≡◌, ◌≢◌, ◌==◌, ◌&&◌, ◌||◌, not, ℕ, Bool, true, false, nat_le, List, [], ◌∷◌, length, Option, Some, None, option_map}
use Rattle.std.specs.Prelude.{if◌then◌else◌, codes}
use Rattle.std.specs.List.{Any, list_any}
use Rattle.std.specs.Option.{option_map_or}
use Rattle.std.specs.Str.{IsUtf8, bytes_eq}
use Rattle.ptg_base.specs.Limits.{most_ranks, most_rows, most_shards, most_workers, usual_shards, usual_workers}
use Rattle.ptg_base.specs.Decimal.{decimal, is_decimal}
use Rattle.ptg_words.specs.declared.options.Options.{Options}
use Rattle.ptg_words.specs.declared.options.Options.TheVariants.{NoOptions, Counts, CountsAndPreload}
use Rattle.ptg_words.specs.declared.order.Order.{Order}
use Rattle.ptg_words.specs.declared.order.Order.TheVariants.{Run, Show, Check, Demo, Trace, Replay, Certify, Ranks}
use Rattle.ptg_words.specs.declared.verbs.Verb.{Verb}
use Rattle.ptg_words.specs.declared.verbs.Verb.TheVariants as verbs
use Rattle.ptg_words.specs.Parts.{Part, workers, shards, parts, operands, texts_of, is_preload, is_lacking, is_stray, has_twice}

-- the verb that the first word names
abbrev pub verb_of : List ℕ → Option Verb
verb_of word =
    if bytes_eq word (codes "run") then Some verbs.Run
    else if bytes_eq word (codes "show") then Some verbs.Show
    else if bytes_eq word (codes "check") then Some verbs.Check
    else if bytes_eq word (codes "demo") then Some verbs.Demo
    else if bytes_eq word (codes "trace") then Some verbs.Trace
    else if bytes_eq word (codes "replay") then Some verbs.Replay
    else if bytes_eq word (codes "certify") then Some verbs.Certify
    else if bytes_eq word (codes "ranks") then Some verbs.Ranks
    else None

-- the options of a verb: only `run` and `trace` have any
abbrev pub options_of : Verb → Options
options_of verbs.Run = CountsAndPreload
options_of verbs.Trace = Counts
options_of verbs.Show = NoOptions
options_of verbs.Check = NoOptions
options_of verbs.Demo = NoOptions
options_of verbs.Replay = NoOptions
options_of verbs.Certify = NoOptions
options_of verbs.Ranks = NoOptions

-- an operand: the name of a file, or a number from a least to a greatest one
pub data Operand : Type 0 where
  file : Operand
  number : ℕ → ℕ → Operand

-- The operands of a verb: `run JDF DATA`, `show JDF`, `check JDF DATA`, `demo N`, `trace JDF DATA`, `replay JDF DATA
-- TRACE`, `certify JDF DATA`, `ranks JDF DATA R SEED`. N is 1 to 96 rows of tiles, R is 1 to 64 ranks, and SEED is
-- below 2^64.
abbrev pub operands_of : Verb → List Operand
operands_of verbs.Run = file ∷ file ∷ []
operands_of verbs.Show = file ∷ []
operands_of verbs.Check = file ∷ file ∷ []
operands_of verbs.Demo = number 1 most_rows ∷ []
operands_of verbs.Trace = file ∷ file ∷ []
operands_of verbs.Replay = file ∷ file ∷ file ∷ []
operands_of verbs.Certify = file ∷ file ∷ []
operands_of verbs.Ranks = file ∷ file ∷ number 1 most_ranks ∷ number 0 18446744073709551615 ∷ []

-- the verb, and the parts of the words after it
abbrev pub read : List (List ℕ) → Option (Verb × List Part)
read [] = None
read (word ∷ words) = option_map (λ verb. (verb, parts (options_of verb) words)) (verb_of word)

-- the word is UTF-8, and is not empty, `-` or `--`
abbrev pub IsProper : List ℕ → Type 0
IsProper word = IsUtf8 word × (word ≢ []) × (word ≢ codes "-") × (word ≢ codes "--")

-- how many digits a number may have, including leading zeros
abbrev pub most_digits : ℕ
most_digits = 20

-- whether the text is 1 to 20 decimal digits that spell a number from `least` to `most`; leading zeros are allowed
abbrev pub is_number : ℕ → ℕ → List ℕ → Bool
is_number least most text = nat_le (length text) most_digits && (is_decimal most text && nat_le least (decimal text))

-- whether some text is no number from `least` to `most`
abbrev pub has_no_number : ℕ → ℕ → List (List ℕ) → Bool
has_no_number least most texts = list_any (λ text. not (is_number least most text)) texts

-- whether an operand that must be a number is none, or is out of its range
abbrev pub has_bad_operand : List Operand → List (List ℕ) → Bool
has_bad_operand (file ∷ rest) (text ∷ texts) = has_bad_operand rest texts
has_bad_operand (number least most ∷ rest) (text ∷ texts) =
    not (is_number least most text) || has_bad_operand rest texts
has_bad_operand _ _ = false

-- whether the text of an option is no number in its range: 1 to 64 workers, 1 to 256 shards
abbrev pub has_bad_count : List Part → Bool
has_bad_count ps =
    has_no_number 1 most_workers (texts_of workers ps) || has_no_number 1 most_shards (texts_of shards ps)

-- whether the text of an option, or an operand that must be a number, is no number in its range
abbrev pub has_bad_number : Verb → List Part → Bool
has_bad_number verb ps = has_bad_count ps || has_bad_operand (operands_of verb) (operands ps)

-- how many operands a verb has
abbrev pub operand_count : Verb → ℕ
operand_count verb = length (operands_of verb)

-- Whether there are more or fewer operands than the verb takes. A stray word is no operand: it breaks a rule of its
-- own.
abbrev pub has_wrong_count : Verb → List Part → Bool
has_wrong_count verb ps = not (length (operands ps) == operand_count verb)

-- the words begin with a verb, and the words after it break this rule
abbrev pub Breaks : (Verb → List Part → Bool) → List (List ℕ) → Type 0
Breaks rule words = option_map_or (λ (verb, parts). rule verb parts) (read words) false ≡ true

-- The seven usage errors, one for each rule. There is no word, or the first is no verb. A word is not UTF-8, is empty,
-- or is `-` or `--`. A word begins with `-` and is no option of the verb. An option lacks its number. An option occurs
-- twice. There are more or fewer operands than the verb takes. A text that must be a number is none, or is out of its
-- range.
pub data IsUsage (words : List (List ℕ)) : Type 0 where
  no_verb : read words ≡ None → IsUsage words
  improper_word : Any (λ word. IsProper word → ⊥) words → IsUsage words
  stray_word : Breaks (λ verb ps. list_any is_stray ps) words → IsUsage words
  lacking_number : Breaks (λ verb ps. list_any is_lacking ps) words → IsUsage words
  option_twice : Breaks (λ verb ps. has_twice ps) words → IsUsage words
  operands_differ : Breaks has_wrong_count words → IsUsage words
  bad_number : Breaks has_bad_number words → IsUsage words

-- the number that the first text spells, or the default if there is none
abbrev pub number_or : ℕ → List (List ℕ) → ℕ
number_or default [] = default
number_or default (text ∷ texts) = decimal text

-- how many workers: 4 by default
abbrev pub workers_of : List Part → ℕ
workers_of ps = number_or usual_workers (texts_of workers ps)

-- how many shards: 16 by default
abbrev pub shards_of : List Part → ℕ
shards_of ps = number_or usual_shards (texts_of shards ps)

-- the command that a verb, its operands and its options form, if their number is right
abbrev pub formed : Verb → List (List ℕ) → List Part → Option Order
formed verbs.Run (jdf ∷ data_name ∷ []) ps =
    Some (Run jdf data_name (workers_of ps) (shards_of ps) (list_any is_preload ps))
formed verbs.Show (jdf ∷ []) ps = Some (Show jdf)
formed verbs.Check (jdf ∷ data_name ∷ []) ps = Some (Check jdf data_name)
formed verbs.Demo (rows ∷ []) ps = Some (Demo (decimal rows))
formed verbs.Trace (jdf ∷ data_name ∷ []) ps = Some (Trace jdf data_name (workers_of ps) (shards_of ps))
formed verbs.Replay (jdf ∷ data_name ∷ list ∷ []) ps = Some (Replay jdf data_name list)
formed verbs.Certify (jdf ∷ data_name ∷ []) ps = Some (Certify jdf data_name)
formed verbs.Ranks (jdf ∷ data_name ∷ count ∷ seed ∷ []) ps = Some (Ranks jdf data_name (decimal count) (decimal seed))
formed _ _ ps = None

-- the arguments break no rule, and form this command
pub record Orders (words : List (List ℕ)) (order : Order) : Type 0 where
  pub verb : Verb
  pub rest : List Part
  pub reads : read words ≡ Some (verb, rest)
  pub asks : formed verb (operands rest) rest ≡ Some order
  pub breaks_no_rule : IsUsage words → ⊥
