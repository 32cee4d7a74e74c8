-- The words that the passes of a table share.
use Rattle.std.specs.Prelude.{ℕ}

-- the turn word of a shard, the halt word, and the live word: which word a pass looked at last
pub data Word : Type 0 where
  Turn : ℕ → Word
  Halt : Word
  Live : Word
