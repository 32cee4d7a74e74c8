-- The forms of the words after a verb, each by itself and with its neighbours. Source of the options' forms: GNU's long
-- options.
-- Carried by: law `the_rules_are_over_the_words`.
-- Tested by: `usage.txt`, `options.txt`.
use Rattle.std.specs.Prelude.{◌≡◌, ◌⊎◌, ◌&&◌, ◌||◌, not, ℕ, Bool, true, false, IsTrue, List, [], ◌∷◌, ◌++◌, codes}
use Rattle.std.specs.List.{zip}
use Rattle.std.specs.Str.{bytes_eq}
use Rattle.ptg_base.specs.Lists.{IsIn}
use Rattle.ptg_words.specs.declared.verbs.Verb.{Verb}
use Rattle.ptg_words.specs.declared.verbs.Verb.TheVariants.{Run, Trace}

-- whether the first character is `-`
abbrev pub begins_with_dash : List ℕ → Bool
begins_with_dash [] = false
begins_with_dash (b ∷ bs) = bytes_eq (b ∷ []) (codes "-")

-- whether the verb has `--workers` and `--shards`: `run` and `trace` do
abbrev pub has_numbers : Verb → Bool
has_numbers Run = true
has_numbers Trace = true
has_numbers _ = false

-- whether the verb has `--preload`: `run` alone does
abbrev pub has_flag : Verb → Bool
has_flag Run = true
has_flag _ = false

-- a word of a form that the verb has: an operand or a value, which does not begin with `-`, or an option of the verb
pub data HasForm (verb : Verb) (word : List ℕ) : Type 0 where
  operand_or_value : begins_with_dash word ≡ false → HasForm verb word
  workers_alone : has_numbers verb ≡ true → word ≡ codes "--workers" → HasForm verb word
  shards_alone : has_numbers verb ≡ true → word ≡ codes "--shards" → HasForm verb word
  workers_with : (text : List ℕ) → has_numbers verb ≡ true → word ≡ codes "--workers=" ++ text → HasForm verb word
  shards_with : (text : List ℕ) → has_numbers verb ≡ true → word ≡ codes "--shards=" ++ text → HasForm verb word
  preload_alone : has_flag verb ≡ true → word ≡ codes "--preload" → HasForm verb word

-- whether the word is an option of the verb with a number, without `=`: the next word is its value, unless that begins
-- with `-`
abbrev pub takes_next : Verb → List ℕ → Bool
takes_next verb word = has_numbers verb && (bytes_eq word (codes "--workers") || bytes_eq word (codes "--shards"))

-- no value follows: there is no next word, or it begins with `-`
abbrev pub NoValueFollows : List (List ℕ) → Type 0
NoValueFollows [] = Unit {0}
NoValueFollows (word ∷ words) = IsTrue (begins_with_dash word)

-- no value follows some option that takes the next word as its value
pub record LacksValue (verb : Verb) (words : List (List ℕ)) : Type 0 where
  pub before : List (List ℕ)
  pub option : List ℕ
  pub after : List (List ℕ)
  pub listed : words ≡ before ++ option ∷ after
  pub takes : IsTrue (takes_next verb option)
  pub none_follows : NoValueFollows after

-- each word with the word before it; the first one has the empty word before it
abbrev pub with_previous : List (List ℕ) → List (List ℕ × List ℕ)
with_previous words = zip ([] ∷ words) words

-- whether the word is a value: it does not begin with `-`, and comes right after an option that takes it
abbrev pub is_value : Verb → List ℕ × List ℕ → Bool
is_value verb p = takes_next verb p.0 && not (begins_with_dash p.1)

-- whether the word neither begins with `-` nor is a value
abbrev pub is_other : Verb → List ℕ × List ℕ → Bool
is_other verb p = not (takes_next verb p.0) && not (begins_with_dash p.1)

-- a word is `--workers` of the verb, alone or with a text after `=`
abbrev pub IsWorkers : Verb → List ℕ → Type 0
IsWorkers verb word =
    (has_numbers verb ≡ true) × ((word ≡ codes "--workers") ⊎ ((text : List ℕ) × (word ≡ codes "--workers=" ++ text)))

-- a word is `--shards` of the verb, alone or with a text after `=`
abbrev pub IsShards : Verb → List ℕ → Type 0
IsShards verb word =
    (has_numbers verb ≡ true) × ((word ≡ codes "--shards") ⊎ ((text : List ℕ) × (word ≡ codes "--shards=" ++ text)))

-- a word is `--preload` of the verb
abbrev pub IsPreload : Verb → List ℕ → Type 0
IsPreload verb word = (has_flag verb ≡ true) × (word ≡ codes "--preload")

-- two of the words have this property
pub record OccursTwice (Is : List ℕ → Type 0) (words : List (List ℕ)) : Type 0 where
  pub before : List (List ℕ)
  pub first : List ℕ
  pub between : List (List ℕ)
  pub second : List ℕ
  pub after : List (List ℕ)
  pub listed : words ≡ before ++ first ∷ (between ++ second ∷ after)
  pub first_is : Is first
  pub second_is : Is second

-- a text is given to `--workers`: by `=`, or as the value after it
abbrev pub IsTextOfWorkers : Verb → List (List ℕ) → List ℕ → Type 0
IsTextOfWorkers verb words text =
    (has_numbers verb ≡ true)
    × (IsIn (codes "--workers=" ++ text) words
    ⊎ (IsIn (codes "--workers", text) (with_previous words) × (begins_with_dash text ≡ false)))

-- a text is given to `--shards`: by `=`, or as the value after it
abbrev pub IsTextOfShards : Verb → List (List ℕ) → List ℕ → Type 0
IsTextOfShards verb words text =
    (has_numbers verb ≡ true)
    × (IsIn (codes "--shards=" ++ text) words
    ⊎ (IsIn (codes "--shards", text) (with_previous words) × (begins_with_dash text ≡ false)))
