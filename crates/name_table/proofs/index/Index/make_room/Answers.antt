use Rattle.std.specs.Map.{keys_of}
use Rattle.name_table.proofs.Found.{each_once}
use Rattle.name_table.proofs.index.Index.make_room.Goals as goal

pub rebuilt-requires-clause-once : goal.rebuilt-requires-clause-once
rebuilt-requires-clause-once g c = each_once (keys_of c.args.names.now) c.args.self.now c.requires
