use Rattle.ready_deques.proofs.Pair.{of_two}
use Rattle.ready_deques.proofs.tests.pair.Goals as goal

-- the last of a team of two, and the one before it
pub returns : goal.returns
returns c =
    let made = c.in_ok-team.ensures in
    let both = c.in-Some-Some in
    of_two made.0 c.in_ok-team.team.items c.pop.new.self.items c.pop-2.new.self.items both.first both.last made.1 both.ensures.items both.ensures'.items
