use Rattle.std.proofs.Common.{refl}
use Rattle.dep_table.proofs.Clean.{after_step, found_busy, no_own_turn}
use Rattle.dep_table.proofs.Jobs.{seen_of}
use Rattle.dep_table.proofs.Turns.{taken_turn}
use Rattle.dep_table.proofs.table.DepTable.try_turn.Goals as goal

pub take-found-requires-clause-not_its_own : goal.take-found-requires-clause-not_its_own
take-found-requires-clause-not_its_own c = no_own_turn _ _ _ _ c.requires.pass c.pass.view_is

pub returns-then-found-ne0-clause-busy : goal.returns-then-found-ne0-clause-busy
returns-then-found-ne0-clause-busy c =
    let e = c.take-found.ensures in (
      after_step _ _ _ _ _ c.requires.pass c.pass.view_is e.of refl (e.taken c.if-found-ne0.true) refl (record {
        turns = refl;
        credit = refl;
        claims = refl;
        stamps = refl;
        running = refl;
      }),
      found_busy _ _ _ _ _ c.pass.view_is (e.taken c.if-found-ne0.true) c.if-found-ne0.true,
    )

pub returns-clause-turn : goal.returns-clause-turn
returns-clause-turn c =
    let e = c.take-found.ensures in
    let f = e.free c.if-found-ne0.false in
    let seen = seen_of _ _ _ _ _ c.args.self.now.of_job f.2 in
    (f.0, taken_turn _ _ _ _ c.requires.pass c.pass.view_is e.of refl c.requires.shard f.1 seen)
