use Rattle.std.proofs.Common.{◌∙◌, refl}
use Rattle.std.specs.List.{list_any}
use Rattle.data_read.specs.Draft.{coll_index}
use Rattle.data_read.proofs.Meanings.{coll_keyed, no_meaning, of_int}
use Rattle.data_read.proofs.colls.push_coll.Goals as goal

pub returns-clause-keyed : goal.returns-clause-keyed
returns-clause-keyed c =
    let all = c.args.all.now in
    let name = c.args.name in
    coll_keyed all.ints all.colls.items all.names c.requires.keyed name
    (no_meaning (coll_index name all.colls.items) (list_any (of_int name) all.ints) c.requires.fresh)
    c.in_ok-key.key c.len.result _ c.in_ok-add.field-0 c.add.new.self c.push.new.self.items
    (c.in_ok-key.ensures ∙ c.bytes.ensures) (c.len.ensures ∙ all.colls.ok.0) refl c.in_ok-add.ensures.added
    c.in_ok-add.ensures.entries c.in_ok-push.ensures.items
