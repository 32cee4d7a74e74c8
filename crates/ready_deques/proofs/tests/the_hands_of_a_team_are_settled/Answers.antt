use Rattle.std.proofs.Common.{sym, subst}
use Rattle.ready_deques.specs.Hands.{AreTheOthers, SameWorker}
use Rattle.ready_deques.proofs.Pair.{stay_others, same_still}
use Rattle.ready_deques.proofs.tests.the_hands_of_a_team_are_settled.Goals as goal

pub settle-requires : goal.settle-requires
settle-requires g c =
    let first = c.in_ok-owner.owner in
    let pushed : SameWorker first c.push-2.new.self = same_still first c.push.new.self c.push-2.new.self c.push.ensures.same c.push-2.ensures.same in
    let all : SameWorker first c.push-3.new.self = same_still first c.push-2.new.self c.push-3.new.self pushed c.push-3.ensures.same in
    let owner : SameWorker first c.pop-popped.new.hands = same_still first c.push-3.new.self c.pop-popped.new.hands all c.pop-popped.ensures in
    subst (AreTheOthers c.pop-popped.new.hands) (sym c.in_ok-vec.ensures.items)
    (stay_others first c.pop-popped.new.hands c.in_ok-owner.other c.steal-stolen.new.hands c.in_ok-owner.ensures
    owner c.steal-stolen.ensures)
