use Rattle.std.proofs.Common.{None, []}
use Rattle.std.specs.Option.{option_copied}
use Rattle.table_rule.specs.Events.{no_task}
use Rattle.dep_table.proofs.turn.Turn.send.Given as goal

abbrev pub ghosts-give_send : goal.ghosts-give_send
ghosts-give_send a =
    record {
      job = None;
      shard = a.shard;
      task = no_task;
      tiles = [];
      sent = record { item = a.item.now; tile = option_copied a.tile };
    }
