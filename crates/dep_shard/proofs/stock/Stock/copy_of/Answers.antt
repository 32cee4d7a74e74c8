use Rattle.std.proofs.Common.{◌∙◌, ap}
use Rattle.dep_shard.specs.Stock.{AllTiles}
use Rattle.dep_shard.proofs.StockLemmas.{elems_stay, uses_one, uses_none}
use Rattle.dep_shard.proofs.stock.Stock.copy_of.Goals as goal
use Rattle.std.proofs.lemmas.Result.{on_err_weaker}

pub returns-clause-elems : goal.returns-clause-elems
returns-clause-elems c = elems_stay c.self.inside.types.items c.args.datatype _ _ c.index_mut-stock.ensures.value
    c.copy_of.ensures.elems ∙ ap (λ (a : AllTiles). a.elems) c.self.view_is

pub returns-clause-spare : goal.returns-clause-spare
returns-clause-spare c = uses_one c.self.inside.types.items _ c.args.datatype c.copy_of.new.self _
    (ap (λ (a : AllTiles). a.spare) c.self.view_is) c.index_mut-stock.ensures.value c.copy_of.ensures.spare

pub returns-clause-err : goal.returns-clause-err
returns-clause-err c = on_err_weaker c.copy_of.result (λ less. uses_none c.self.inside.types.items _ c.args.datatype
    c.copy_of.new.self _ (ap (λ (a : AllTiles). a.spare) c.self.view_is) c.index_mut-stock.ensures.value less)
    c.copy_of.ensures.err
