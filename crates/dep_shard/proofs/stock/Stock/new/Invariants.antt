use Rattle.std.proofs.Common.{◌≡◌, take, map}
use Rattle.dep_shard.specs.Stock.{TypeTiles}
use Rattle.dep_shard.proofs.stock.Stock.new.Given as goal

abbrev pub invariant-loop-n : goal.invariant-loop-n
invariant-loop-n l = map (λ (t : TypeTiles). t.elems) l.types.items ≡ take l.n-index l.elems
