use Rattle.std.proofs.Common.{Some, []}
use Rattle.table_rule.specs.Events.{no_sent, no_task}
use Rattle.table_rule.specs.Seats.{words_job}
use Rattle.dep_table.proofs.table.DepTable.see_quiet.Given as goal

abbrev pub ghosts-read_live : goal.ghosts-read_live
ghosts-read_live a =
    record { job = Some (words_job a.self.now); shard = 0; task = no_task; tiles = []; sent = no_sent }
