use Rattle.std.proofs.Common.{sym, ◌∙◌}
use Rattle.std.specs.Map.{keys_of}
use Rattle.std.proofs.lemmas.Map.Entries.{length-keys_of}
use Rattle.name_table.proofs.Found.{still_new}
use Rattle.name_table.proofs.Rebuilt.{once_ok}
use Rattle.name_table.proofs.index.Index.add.Goals as goal

pub returns-clause-added : goal.returns-clause-added
returns-clause-added g c =
    once_ok c.put.result c.put.ensures.put
    (λ put. put (keys_of c.args.names.now) c.make_room.ensures.index (length-keys_of c.args.names.now ∙ sym c.in-Ok.ensures.1)
    (still_new (keys_of c.args.names.now) c.args.self.now c.make_room.new.self c.args.name.now c.requires.index c.make_room.ensures.index c.requires.new))
