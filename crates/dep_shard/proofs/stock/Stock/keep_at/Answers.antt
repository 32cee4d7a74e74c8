use Rattle.std.proofs.Common.{◌∙◌, ap}
use Rattle.dep_shard.specs.Stock.{AllTiles}
use Rattle.dep_shard.proofs.StockLemmas.{elems_stay, uses_none}
use Rattle.dep_shard.proofs.stock.Stock.keep_at.Goals as goal

pub returns-clause-elems : goal.returns-clause-elems
returns-clause-elems c = elems_stay c.self.inside.types.items c.args.k _ _ c.index_mut-stock.ensures.value
    c.keep.ensures.elems ∙ ap (λ (a : AllTiles). a.elems) c.self.view_is

pub returns-clause-spare : goal.returns-clause-spare
returns-clause-spare c = uses_none c.self.inside.types.items _ c.args.k c.keep.new.self _
    (ap (λ (a : AllTiles). a.spare) c.self.view_is) c.index_mut-stock.ensures.value c.keep.ensures.more
