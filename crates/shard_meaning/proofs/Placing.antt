-- The number of a task's shard is below the number of shards.
use Rattle.std.proofs.Common.{ℕ, ◌+◌, ◌/◌, ◌^◌, ◌<◌, Bool, true, false, cond, mod-lt}
use Rattle.ptg_base.specs.Task.{Task}
use Rattle.ptg_base.specs.declared.place.Place.{Place}
use Rattle.plan_core.specs.declared.plan.Plan.{Plan}
use Rattle.dep_iter.specs.Hints.{affinity, place_number}
use Rattle.shard_meaning.specs.Placing.{has_one_place, hash_from, home_of, shard_of, spread_of}

pub home_below : (P : Plan) (n : ℕ) (t : Task) → 0 < n → home_of P n t < n
unfolding home_of
home_below P n t some = let p : Place = affinity P t in mod-lt (p.coll + place_number P p) some

pub shard_below : (P : Plan) (n : ℕ) (t : Task) → 0 < n → shard_of P n t < n
unfolding shard_of
shard_below P n t some = either (has_one_place P t)
  where
    either : (one : Bool) → cond one (spread_of n t) (home_of P n t) < n
    either true = mod-lt (hash_from t.class t.params / 2 ^ 48) some
    either false = home_below P n t some
