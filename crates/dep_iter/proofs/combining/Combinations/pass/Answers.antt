use Rattle.std.proofs.Common.{◌≡◌, drop, ap, length, sym, ◌∙◌, arith}
use Rattle.dep_iter.specs.Combining.{combinations_left}
use Rattle.dep_iter.proofs.Odometer.{length_each}
use Rattle.dep_iter.proofs.combining.Combinations.pass.Goals as goal

pub invariant_of-self : goal.invariant_of-self
invariant_of-self c =
    let s = c.self.inside in
    let i = c.self.invariant c.if-self.true in
    let each = rw c.as_slice.ensures.value at c.advance-self-inside.ensures.each in
    let same : length c.advance-self-inside.new.at ≡ length s.at = sym
    (length_each s.spans.items c.advance-self-inside.new.at each) ∙ length_each s.spans.items s.at i.1 in
    let m = i.0 in
    λ e. (omega (arith, same, m), each, i.2)

pub returns-then-self : goal.returns-then-self
returns-then-self c =
    let s = c.self.inside in
    let left = rw c.as_slice.ensures.value at c.advance-self-inside.ensures.left in
    let was = sym c.self.view_is ∙ ap (λ b. combinations_left b s.spans.items s.at) c.if-self.true in
    left ∙ sym (ap (drop 1) was)
