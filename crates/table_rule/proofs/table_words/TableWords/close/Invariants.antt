use Rattle.std.proofs.Common.{◌≡◌, ◌≤◌, ◌<◌, ℕ, false, get_or, take, vec_len, vec_capacity}
use Rattle.std.specs.Mem.Slots.{slots_filled, slots_items, slots_len}
use Rattle.std.specs.Mem.Slots.Ownership.{Filled}
use Rattle.atomic_table.specs.Table.{Final, Seen}
use Rattle.table_rule.specs.Rule.{Rule}
use Rattle.table_rule.specs.Seats.{seated, words_job}
use Rattle.table_rule.proofs.table_words.TableWords.close.Given as goal

-- the shards up to k were taken, in order, and the others are still there
abbrev pub invariant-loop-k : goal.invariant-loop-k
invariant-loop-k l =
    Filled (slots_filled l.closed.slots) l.k (slots_len l.closed.slots)
    × ((i : ℕ) → i < l.k → get_or (slots_filled l.closed.slots) i false ≡ false)
    × (slots_len l.closed.slots ≡ (words_job l.fn.self).shards)
    × (vec_len l.taken ≡ l.k)
    × ((words_job l.fn.self).shards ≤ vec_capacity l.taken)
    × (l.taken.items ≡ take l.k (slots_items l.closed.slots))
    × (id : ℕ)
    × Final (Seen (Rule (words_job l.fn.self)) id (seated l.fn.seat).0) (slots_items l.closed.words)
    (slots_items l.closed.slots)
