-- Where the words of a table are: a turn word for each of the n shards, then the halt word, the live word and the stamp
-- word.
-- Carried by: laws of `table_rule`.
use Rattle.std.specs.Prelude.{ℕ, ◌+◌, ◌*◌}

-- the distance between two words that are used: no two of them are on one cache line
abbrev pub stride : ℕ
stride = 16

-- the turn word of the shard k: 0 while its turn is free
abbrev pub turn_word : ℕ → ℕ
turn_word k = stride * k

-- the halt word: not 0 once a pass has given up
abbrev pub halt_word : ℕ → ℕ
halt_word n = stride * n

-- the live word: 0 only if no task is ready or runs
abbrev pub live_word : ℕ → ℕ
live_word n = stride * (n + 1)

-- the stamp word: the next stamp
abbrev pub stamp_word : ℕ → ℕ
stamp_word n = stride * (n + 2)

-- how many words a table has
abbrev pub word_count : ℕ → ℕ
word_count n = stride * (n + 3)
