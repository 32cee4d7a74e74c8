use Rattle.std.proofs.Common.{Some, []}
use Rattle.table_rule.specs.Events.{no_sent, no_task}
use Rattle.table_rule.specs.Seats.{words_job}
use Rattle.dep_table.proofs.table.DepTable.halted.Given as goal

abbrev pub ghosts-read_halt : goal.ghosts-read_halt
ghosts-read_halt a =
    record { job = Some (words_job a.self.now); shard = 0; task = no_task; tiles = []; sent = no_sent }
