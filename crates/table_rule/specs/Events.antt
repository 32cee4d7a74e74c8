-- The task and the item of a step that is about none.
use Rattle.std.specs.Prelude.{pos, [], None}
use Rattle.ptg_base.specs.Task.{Task}
use Rattle.ptg_base.specs.declared.edge.Item.TheVariants as item
use Rattle.flow_meaning.specs.Machine.{SentItem}

-- the task of a step that is about none
abbrev pub no_task : Task
no_task = record { class = 0; params = [] }

-- the sent item of a step that is about none
abbrev pub no_sent : SentItem
no_sent =
    record {
      item = item.Write record { from = no_task; flow = 0; place = record { coll = 0; i = pos 0; j = pos 0 } };
      tile = None;
    }
