-- The words of a table and the seat of a pass, as contracts see them.
use Rattle.std.specs.Prelude.{ℕ, List}
use Rattle.atomic_table.specs.Seated.{TableId as KitTableId}
use Rattle.atomic_table.specs.Table.{rest as kit_rest}
use Rattle.dep_shard.specs.Content.{Content}
use Rattle.table_rule.specs.declared.pass_seat.PassSeat.{PassSeat}
use Rattle.table_rule.specs.declared.table_job.TableJob.{TableJob}
use Rattle.table_rule.specs.declared.table_words.TableWords.{TableWords}
use Rattle.table_rule.specs.Plays.{Seated}

-- the identity of a table
abbrev pub TableId : Type 0
TableId = KitTableId

-- the shards that a pass holds, without the one that it took last
abbrev pub rest : List (ℕ × Content) → List (ℕ × Content)
rest shards = kit_rest shards

-- which table the words are of
abbrev pub words_table : TableWords → TableId
words_table w = w.table.shared.table_id

-- the job of that table
abbrev pub words_job : TableWords → TableJob
words_job w = w.table.shared.key

-- which table a seat belongs to
abbrev pub seat_table : PassSeat → TableId
seat_table s = s.seat.table_id

-- the pass whose seat it is: its record, and the shards that it holds
abbrev pub seated : PassSeat → Seated
seated s = s.seat.me
