use Rattle.std.proofs.Common.{Some, sym, ◌∙◌, ap}
use Rattle.std.specs.List.{list_any}
use Rattle.data_read.specs.declared.growing.Known.{Known}
use Rattle.data_read.specs.Draft.{coll_index}
use Rattle.data_read.proofs.Meanings.{by_collection, index_within, of_int}
use Rattle.data_read.proofs.names.coll_index.Goals as goal

pub returns-in-Some-Collection-clause-within : goal.returns-in-Some-Collection-clause-within
returns-in-Some-Collection-clause-within c =
    let all = c.args.all.now in
    let name = c.args.name.now in
    index_within name all.colls.items c.in-Some-Collection.at
    (sym (by_collection (coll_index name all.colls.items) (list_any (of_int name) all.ints) c.in-Some-Collection.at
    (sym c.known.ensures ∙ c.in-Some-Collection.is ∙ ap (λ (k : Known). Some k) c.in-Some-Collection.field-0-is)))
