use Rattle.std.proofs.Common.{sym, ◌∙◌, refl}
use Rattle.std.specs.List.{list_any}
use Rattle.data_read.specs.Draft.{coll_index}
use Rattle.data_read.proofs.Meanings.{int_keyed, no_meaning, of_int}
use Rattle.data_read.proofs.ints.add_int.Goals as goal

pub returns-clause-keyed : goal.returns-clause-keyed
returns-clause-keyed c =
    let all = c.args.all.now in
    let name = c.in_ok-name.name in
    int_keyed all.ints all.colls.items all.names c.requires name
    (no_meaning (coll_index name all.colls.items) (list_any (of_int name) all.ints) (sym c.is_new.ensures ∙ c.if-not-is_new.false))
    c.in_ok-key.key _ c.in_ok-add.field-0 c.add.new.self c.push.new.self
    (c.in_ok-key.ensures ∙ sym c.in_ok-name.ensures) refl c.in_ok-add.ensures.added c.in_ok-add.ensures.entries
    c.in_ok-push.ensures.ok
