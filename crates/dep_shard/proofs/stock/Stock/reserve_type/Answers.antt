use Rattle.std.proofs.Common.{◌≤◌, ◌∙◌, ap, sym, subst, OnOk, ℕ}
use Rattle.dep_shard.specs.Stock.{AllTiles}
use Rattle.dep_shard.proofs.StockLemmas.{elems_stay, uses_none, spare_there}
use Rattle.dep_shard.proofs.stock.Stock.reserve_type.Goals as goal

pub returns-clause-ok : goal.returns-clause-ok
returns-clause-ok c = subst (λ (s : ℕ). OnOk c.reserve.result (c.args.n ≤ s))
    (sym (spare_there c.self.inside.types.items c.args.self.now.elems c.args.k c.reserve.new.self
    (ap (λ (a : AllTiles). a.elems) c.self.view_is) c.requires)) c.reserve.ensures.ok

pub returns-clause-elems : goal.returns-clause-elems
returns-clause-elems c = elems_stay c.self.inside.types.items c.args.k _ _ c.index_mut-stock.ensures.value
    c.reserve.ensures.elems ∙ ap (λ (a : AllTiles). a.elems) c.self.view_is

pub returns-clause-spare : goal.returns-clause-spare
returns-clause-spare c = uses_none c.self.inside.types.items _ c.args.k c.reserve.new.self _
    (ap (λ (a : AllTiles). a.spare) c.self.view_is) c.index_mut-stock.ensures.value c.reserve.ensures.more
