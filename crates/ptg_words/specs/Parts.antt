-- The words after the verb, read as the operands and options of each verb. Source of the options' forms: GNU's long
-- options.
-- Carried by: `words`; law `word_laws::words_form_one_command`.
-- Tested by: `usage.txt`, `options.txt`, `commands.txt`.
use Rattle.std.specs.Prelude.{◌==◌, ◌&&◌, ◌||◌, not, ℕ, Bool, true, false, List, [], ◌∷◌, Option, Some, None, is_some, if◌then◌else◌, codes, drop}
use Rattle.std.specs.List.{list_any, before_first, after_first}
use Rattle.std.specs.Option.{option_map_or}
use Rattle.std.specs.Str.{bytes_eq}
use Rattle.ptg_words.specs.declared.options.Options.{Options}
use Rattle.ptg_words.specs.declared.options.Options.TheVariants.{NoOptions, Counts, CountsAndPreload}

-- whether these options include those with a number
abbrev pub has_counts : Options → Bool
has_counts NoOptions = false
has_counts Counts = true
has_counts CountsAndPreload = true

-- whether these options include `--preload`
abbrev pub has_preload : Options → Bool
has_preload NoOptions = false
has_preload Counts = false
has_preload CountsAndPreload = true

-- an option that has a number as its value
pub data NumberOption : Type 0 where
  workers : NumberOption
  shards : NumberOption

-- the name of an option with a number
abbrev pub name_of : NumberOption → List ℕ
name_of workers = codes "workers"
name_of shards = codes "shards"

-- What a word is by itself. It is plain if it does not begin with `-`. Else it is an option with a number, `--NAME` or
-- `--NAME=TEXT`, or the flag `--preload`; or it is unknown, if it is no option of the verb.
pub data Form : Type 0 where
  plain : Form
  named : NumberOption → Option (List ℕ) → Form
  flag : Form
  unknown : Form

-- whether the word begins with `-`, which is 45
abbrev pub is_dashed : List ℕ → Bool
is_dashed [] = false
is_dashed (b ∷ bs) = b == 45

-- the form of `--NAME` or `--NAME=TEXT`, given the name and the text if there is one
abbrev pub option_named : Options → List ℕ → Option (List ℕ) → Form
option_named options name text =
    if has_counts options && bytes_eq (codes "workers") name then named workers text
    else if has_counts options && bytes_eq (codes "shards") name then named shards text
    else if has_preload options && (bytes_eq (codes "preload") name && not (is_some text)) then flag
    else unknown

-- the text after the first `=`, which is 61, if there is one
abbrev pub text_after : List ℕ → Option (List ℕ)
text_after word = if list_any (λ b. b == 61) word then Some (after_first (λ b. b == 61) word) else None

-- the form of a word that begins with `-`, given what follows that `-`
abbrev pub dashed_form : Options → List ℕ → Form
dashed_form options word =
    if is_dashed word then option_named options (before_first (λ b. b == 61) (drop 1 word)) (text_after (drop 1 word))
    else unknown

-- the form of a word
abbrev pub form_of : Options → List ℕ → Form
form_of options word = if is_dashed word then dashed_form options (drop 1 word) else plain

-- A part of the words: an operand, an option with its number (one word or two), an option that lacks its number,
-- `--preload`, or a stray word. A stray word begins with `-` and is no option of the verb.
pub data Part : Type 0 where
  operand : List ℕ → Part
  given : NumberOption → List ℕ → Part
  lacking : NumberOption → Part
  preload : Part
  stray : Part

-- the parts from a word of this form on; `rest` gives those of the later words, which depend on an option that still
-- needs its number
abbrev pub after_word : Form → List ℕ → (Option NumberOption → List Part) → List Part
after_word plain word rest = operand word ∷ rest None
after_word (named s None) word rest = rest (Some s)
after_word (named s (Some text)) word rest = given s text ∷ rest None
after_word flag word rest = preload ∷ rest None
after_word unknown word rest = stray ∷ rest None

-- the same if the word follows `--NAME`: a word that does not begin with `-` is the option's number
abbrev pub after_name : NumberOption → Form → List ℕ → (Option NumberOption → List Part) → List Part
after_name s plain word rest = given s word ∷ rest None
after_name s form word rest = lacking s ∷ after_word form word rest

-- the same in both cases; the first argument is the option whose `--NAME` the word follows, if there is one
abbrev pub after : Option NumberOption → Form → List ℕ → (Option NumberOption → List Part) → List Part
after None = after_word
after (Some s) = after_name s

-- the parts at the end of the words: the option that still lacks its number, if there is one
abbrev pub at_end : Option NumberOption → List Part
at_end None = []
at_end (Some s) = lacking s ∷ []

-- the parts of words; the first one may follow `--NAME` of an option with a number
unfoldable pub parts_from : Options → Option NumberOption → List (List ℕ) → List Part
parts_from offered due [] = at_end due
parts_from offered due (word ∷ words) = after due (form_of offered word) word (λ next. parts_from offered next words)

-- the parts of words
abbrev pub parts : Options → List (List ℕ) → List Part
parts offered words = parts_from offered None words

-- the operands, in their order
abbrev pub operands : List Part → List (List ℕ)
operands [] = []
operands (operand word ∷ rest) = word ∷ operands rest
operands (given s text ∷ rest) = operands rest
operands (lacking s ∷ rest) = operands rest
operands (preload ∷ rest) = operands rest
operands (stray ∷ rest) = operands rest

-- whether two options with a number are the same, by their names
abbrev pub is_of : NumberOption → NumberOption → Bool
is_of s t = bytes_eq (name_of s) (name_of t)

-- the texts that are given to an option with a number
abbrev pub texts_of : NumberOption → List Part → List (List ℕ)
texts_of s [] = []
texts_of s (operand word ∷ rest) = texts_of s rest
texts_of s (given t text ∷ rest) = if is_of s t then text ∷ texts_of s rest else texts_of s rest
texts_of s (lacking t ∷ rest) = texts_of s rest
texts_of s (preload ∷ rest) = texts_of s rest
texts_of s (stray ∷ rest) = texts_of s rest

-- whether the part is `--preload`
abbrev pub is_preload : Part → Bool
is_preload preload = true
is_preload _ = false

-- whether the part is an option that lacks its number
abbrev pub is_lacking : Part → Bool
is_lacking (lacking s) = true
is_lacking _ = false

-- whether the part is a stray word
abbrev pub is_stray : Part → Bool
is_stray stray = true
is_stray _ = false

-- the name of the option that a part is, if it is one
abbrev pub option_of : Part → Option (List ℕ)
option_of (operand word) = None
option_of (given s text) = Some (name_of s)
option_of (lacking s) = Some (name_of s)
option_of preload = Some (codes "preload")
option_of stray = None

-- whether the part is an option of this name
abbrev pub is_named : List ℕ → Part → Bool
is_named name part = option_map_or (bytes_eq name) (option_of part) false

-- whether an option occurs twice
abbrev pub has_twice : List Part → Bool
has_twice [] = false
has_twice (part ∷ rest) = option_map_or (λ name. list_any (is_named name) rest) (option_of part) false || has_twice rest
