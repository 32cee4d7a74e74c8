use Rattle.std.proofs.Common.{Some, []}
use Rattle.table_rule.specs.Events.{no_sent, no_task}
use Rattle.table_rule.specs.Seats.{words_job}
use Rattle.dep_table.proofs.table.DepTable.try_turn.Given as goal

abbrev pub ghosts-take : goal.ghosts-take
ghosts-take a =
    record { job = Some (words_job a.self.now); shard = a.shard; task = no_task; tiles = []; sent = no_sent }
