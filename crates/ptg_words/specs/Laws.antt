-- What follows from the rules of the command line: the numbers of a command are in range, and the names of files are
-- text.
-- Carried by: laws `commands_have_numbers_in_range`, `files_are_text`.
-- Tested by: `usage.txt`, `options.txt`.
use Rattle.std.specs.Prelude.{ℕ, ◌<◌, ◌≤◌, ◌^◌, List, [], ◌∷◌}
use Rattle.std.specs.Str.{IsUtf8}
use Rattle.ptg_base.specs.Limits.{AreRunCounts, IsRankCount, most_rows}
use Rattle.std.specs.List.{AllByRecursion}
use Rattle.ptg_words.specs.declared.order.Order.{Order}
use Rattle.ptg_words.specs.declared.order.Order.TheVariants.{Run, Show, Check, Demo, Trace, Replay, Certify, Ranks}
use Rattle.ptg_words.specs.Words.{Orders}

-- the names of the files of a command
abbrev pub files_of : Order → List (List ℕ)
files_of (Run jdf data_name w s p) = jdf ∷ data_name ∷ []
files_of (Show jdf) = jdf ∷ []
files_of (Check jdf data_name) = jdf ∷ data_name ∷ []
files_of (Demo rows) = []
files_of (Trace jdf data_name w s) = jdf ∷ data_name ∷ []
files_of (Replay jdf data_name list) = jdf ∷ data_name ∷ list ∷ []
files_of (Certify jdf data_name) = jdf ∷ data_name ∷ []
files_of (Ranks jdf data_name r seed) = jdf ∷ data_name ∷ []

-- the names of files in a command are text
abbrev pub FilesAreText : Type 0
FilesAreText = (words : List (List ℕ)) (order : Order) → Orders words order → AllByRecursion IsUtf8 (files_of order)

-- The numbers of a command are in their ranges: 1 to 64 workers or ranks, 1 to 256 shards, 1 to 96 rows of tiles, a
-- seed below 2^64.
abbrev pub HasNumbersInRange : Order → Type 0
HasNumbersInRange (Run jdf data_name w s p) = AreRunCounts w s
HasNumbersInRange (Show jdf) = Unit {0}
HasNumbersInRange (Check jdf data_name) = Unit {0}
HasNumbersInRange (Demo rows) = (1 ≤ rows) × (rows ≤ most_rows)
HasNumbersInRange (Trace jdf data_name w s) = AreRunCounts w s
HasNumbersInRange (Replay jdf data_name list) = Unit {0}
HasNumbersInRange (Certify jdf data_name) = Unit {0}
HasNumbersInRange (Ranks jdf data_name r seed) = IsRankCount r × (seed < 2 ^ 64)

-- each command that words form has its numbers in their ranges
abbrev pub NumbersInRange : Type 0
NumbersInRange = (words : List (List ℕ)) (order : Order) → Orders words order → HasNumbersInRange order
