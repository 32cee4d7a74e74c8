use Rattle.list_lemmas.proofs.Places.{place_of_member}
use Rattle.shard_answer.proofs.Writes.{writable}
use Rattle.shard_answer.proofs.answer.outcome_of.Goals as goal

pub final_data-requires : goal.final_data-requires
final_data-requires c y i =
    let at = place_of_member c.args.shards.items y i in
    writable c.args.m.now c.args.given c.plan_is_consistent.ensures c.requires.known c.data_are_well_made.ensures c.args.shards.items c.requires.end at.0 y at.1
