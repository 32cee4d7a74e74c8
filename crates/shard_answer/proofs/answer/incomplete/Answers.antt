use Rattle.std.proofs.lemmas.Bool.{false≢true}
use Rattle.shard_answer.proofs.Answering.{trapped_answer}
use Rattle.shard_answer.proofs.answer.incomplete.Goals as goal

pub returns-then-not-is_empty-clause-answer : goal.returns-then-not-is_empty-clause-answer
returns-then-not-is_empty-clause-answer c =
    trapped_answer c.args.m.now c.args.given.now c.plan_is_consistent.ensures c.requires.known c.data_are_well_made.ensures c.args.shards.now c.requires.end
    c.in_ok-traps.traps c.in_ok-traps.ensures.rows (λ e. false≢true (c.if-not-is_empty.ensures.1 e))
