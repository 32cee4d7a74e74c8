-- Which shard a task belongs to: by the place of its affinity, or by a hash if that is one place for its class. The
-- multiplier is 2^64 over the golden ratio; what a run computes does not depend on it. Source: Knuth, The Art of
-- Computer Programming, volume 3 (multiplicative hashing).
-- Carried by: `shard_calls::shard_at`, `shard_calls::home_at`, `shard_calls::home_of`, `dep_table::DepTable::shard_of`,
-- `rank_core::World::rank_of`.
use Rattle.std.specs.Prelude.{ℕ, ℤ, Bool, true, false, List, [], ◌∷◌, ◌+◌, ◌*◌, ◌/◌, ◌%◌, ◌^◌, ◌&&◌, if◌then◌else◌, slice_get}
use Rattle.std.specs.Int.{cast_unsigned, w64}
use Rattle.std.specs.Option.{option_map_or}
use Rattle.ptg_base.specs.Task.{Task}
use Rattle.ptg_base.specs.declared.place.Place.{Place}
use Rattle.term_core.specs.Term.{Term}
use Rattle.term_core.specs.Value.{is_closed}
use Rattle.plan_core.specs.declared.class.ClassPlan.{ClassPlan}
use Rattle.plan_core.specs.declared.plan.Plan.{Plan}
use Rattle.dep_iter.specs.Hints.{affinity, place_number}
use Rattle.shard_meaning.specs.Share.{Placement}

-- the number of the shard of a place among n shards: the number of its collection plus its own number in the
-- collection, modulo n; both count from 0
abbrev pub shard_of_place : Plan → ℕ → Place → ℕ
shard_of_place P n p = (p.coll + place_number P p) % n

-- where a task belongs by the place of its affinity alone: tasks of one place share a shard
unfoldable pub home_of : Plan → ℕ → Placement
home_of P n t = shard_of_place P n (affinity P t)

-- whether none of these expressions names a local
abbrev pub name_no_local : List Term → Bool
name_no_local [] = true
name_no_local (e ∷ es) = is_closed 0 e && name_no_local es

-- whether the affinity of a task's class is one place for all its tasks
abbrev pub has_one_place : Plan → Task → Bool
has_one_place P t =
    option_map_or (λ (c : ClassPlan). name_no_local c.affinity.indices) (slice_get P.classes t.class) false

-- a hash of 64 bits with one more parameter
abbrev pub hash_with : ℕ → ℤ → ℕ
hash_with h p = ((h + cast_unsigned w64 p) % 2 ^ 64 * 11400714819323198485) % 2 ^ 64

-- a hash with these parameters, one after another
abbrev pub hash_from : ℕ → List ℤ → ℕ
hash_from h [] = h
hash_from h (p ∷ ps) = hash_from (hash_with h p) ps

-- where a task belongs by the high bits of its hash
abbrev pub spread_of : ℕ → Placement
spread_of n t = (hash_from t.class t.params / 2 ^ 48) % n

-- the shard of a task: that of the place of its affinity, unless this is one place for the whole class. Then the tasks
-- of the class are spread over all shards by a hash
unfoldable pub shard_of : Plan → ℕ → Placement
shard_of P n t = if has_one_place P t then spread_of n t else home_of P n t
