use Rattle.std.proofs.Common.{refl, arith}
use Rattle.ready_deques.specs.Hands.{fresh}
use Rattle.run_pool.proofs.SeatedAll.{numbers_below}
use Rattle.run_pool.proofs.preparing.lay_out.Goals as goal

pub seat_workers-requires-clause-numbered : goal.seat_workers-requires-clause-numbered
seat_workers-requires-clause-numbered c =
    let f = c.in_ok-hands.ensures in
    numbers_below c.in_ok-hands.hands.items (λ n within. (fresh f.0 n, f.1.each n (omega (arith, within, f.1.all)), refl))
