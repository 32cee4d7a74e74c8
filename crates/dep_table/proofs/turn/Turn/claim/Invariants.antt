use Rattle.std.proofs.Common.{None, Some, []}
use Rattle.table_rule.specs.Events.{no_sent}
use Rattle.table_rule.specs.Seats.{words_job}
use Rattle.dep_table.proofs.turn.Turn.claim.Given as goal

abbrev pub ghosts-give_claim : goal.ghosts-give_claim
ghosts-give_claim a =
    record {
      job = Some (words_job a.self.now);
      shard = a.shard;
      task = a.t.now;
      tiles = a.tiles.now;
      sent = no_sent;
    }

abbrev pub ghosts-draw_stamp : goal.ghosts-draw_stamp
ghosts-draw_stamp a = record { job = None; shard = 0; task = a.t.now; tiles = []; sent = no_sent }
