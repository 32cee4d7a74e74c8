use Rattle.std.proofs.Common.{rules, ◌≡◌, ◌<◌, true, sym, subst}
use Rattle.ready_deques.specs.Ends.{Owner}
use Rattle.ready_deques.proofs.Slotted.{put}
use Rattle.ready_deques.proofs.slot.SlottedEnd.push.Goals as goal

pub invariant_of-self-2 : goal.invariant_of-self-2
invariant_of-self-2 c =
    let made : c.make_way.result ≡ true = search rules in
    let moved = (c.make_way.ensures.moved made).1 in
    let own = c.self.inside in (
      subst (λ (b : Owner). 0 < b.parts) (sym moved) c.self.invariant.0,
      put own.end _ own.slot _ _ _ c.args.id c.self.invariant.1 moved c.with-self-inside.ensures,
    )
