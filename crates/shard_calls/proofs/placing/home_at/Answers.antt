use Rattle.std.proofs.Common.{◌+◌, ◌%◌, ap, ◌∙◌, arith}
use Rattle.std.proofs.lemmas.Nat.{mod_below}
use Rattle.ptg_base.specs.declared.place.Place.{Place}
use Rattle.dep_iter.specs.Hints.{affinity, place_number}
use Rattle.shard_meaning.specs.Placing.{home_of}
use Rattle.list_lemmas.proofs.Numbers.{mod_sum}
use Rattle.shard_calls.proofs.placing.home_at.Goals as goal

pub returns-clause-number : goal.returns-clause-number
unfolding home_of
returns-clause-number c =
    let P = c.args.at.now.plan.now in
    let place = c.affinity-place.ensures in
    let of = c.from.ensures ∙ ap (λ (p : Place). p.coll) place in
    let coll = c.remainder-coll.ensures ∙ ap (λ n. n % c.args.shards) of in
    let number = c.place_number.ensures ∙ ap (place_number P) place in
    c.remainder.ensures ∙ (λ i. (coll i + number i % c.args.shards) % c.args.shards) ∙ mod_sum _ _ _

pub overflow_add-coll : goal.overflow_add-coll
overflow_add-coll c =
    let positive = c.requires.shards.0 in
    let coll = mod_below c.from.result c.args.shards positive in
    let number = mod_below c.place_number.result c.args.shards positive in
    omega (arith, c.requires.shards.1, c.remainder-coll.ensures, coll, number)
