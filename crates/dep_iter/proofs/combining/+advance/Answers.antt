use Rattle.std.proofs.Common.{◌<◌, ◌∷◌, [], ap, sym, ◌∙◌, length, length-append, lit<, rules, FitsSigned, w64, arith}
use Rattle.std.proofs.lemmas.Int.{to_z-of_z}
use Rattle.dep_iter.proofs.Odometer.{HasOneEach-end, HasOneEach-push, HasFirst-end, carried, length_each, none_each, stepped}
use Rattle.dep_iter.proofs.combining.+advance.Goals as goal

pub returns-in_default-pop-clause-left : goal.returns-in_default-pop-clause-left
returns-in_default-pop-clause-left t c = absurd (none_each c.in-Some.outer.now c.in-Some.steps.now
    (rw (c.in-Some.ensures.cases.0, c.in_default-pop.ensures.0) at c.requires.each))

pub returns-in_default-pop-clause-each : goal.returns-in_default-pop-clause-each
returns-in_default-pop-clause-each t c = absurd (none_each c.in-Some.outer.now c.in-Some.steps.now
    (rw (c.in-Some.ensures.cases.0, c.in_default-pop.ensures.0) at c.requires.each))

pub returns-in-Some-next_value-clause-left : goal.returns-in-Some-next_value-clause-left
returns-in-Some-next_value-clause-left t c =
    let s = c.in-Some.steps.now in
    let v = c.in-Some-pop.v in
    let w = c.in-Some-next_value.w in
    let outer = c.in-Some.outer.now in
    let rest = c.pop.new.self in
    let here : FitsSigned w64 v = search rules in
    let next : FitsSigned w64 w = search rules in
    let h = simp to_z-of_z at c.in-Some-next_value.ensures in
    let pushed = simp to_z-of_z at c.push.ensures in
    let each = HasOneEach-end outer rest s v (rw (c.in-Some.ensures.cases.0, c.in-Some-pop.ensures) at c.requires.each) in
    rw (c.in-Some.ensures.cases.0, c.in-Some-pop.ensures, pushed) (stepped s v outer rest w each h)

pub returns-in-Some-next_value-clause-each : goal.returns-in-Some-next_value-clause-each
returns-in-Some-next_value-clause-each t c =
    let s = c.in-Some.steps.now in
    let v = c.in-Some-pop.v in
    let w = c.in-Some-next_value.w in
    let outer = c.in-Some.outer.now in
    let rest = c.pop.new.self in
    let next : FitsSigned w64 w = search rules in
    let pushed = simp to_z-of_z at c.push.ensures in
    let each = HasOneEach-end outer rest s v (rw (c.in-Some.ensures.cases.0, c.in-Some-pop.ensures) at c.requires.each) in
    rw (c.in-Some.ensures.cases.0, pushed) (HasOneEach-push outer rest s w each)

pub advance-more-requires : goal.advance-more-requires
advance-more-requires t c =
    let s = c.in-Some.steps.now in
    let v = c.in-Some-pop.v in
    let outer = c.in-Some.outer.now in
    let rest = c.pop.new.self in
    let shorter = c.in-Some.ensures.cases.1 in
    let l = ap length c.in-Some-pop.ensures ∙ length-append rest (v ∷ []) in
    let m = c.requires.at_most in (
      omega (arith, c.decreases),
      (
        omega arith,
        (
          HasOneEach-end outer rest s v (rw (c.in-Some.ensures.cases.0, c.in-Some-pop.ensures) at
              c.requires.each),
          (HasFirst-end outer s (rw c.in-Some.ensures.cases.0 at c.requires.first)).0,
        ),
      ),
    )

pub push-requires-2 : goal.push-requires-2
push-requires-2 t c =
    let s = c.in-Some.steps.now in
    let v = c.in-Some-pop.v in
    let outer = c.in-Some.outer.now in
    let rest = c.pop.new.self in
    let each = HasOneEach-end outer rest s v (rw (c.in-Some.ensures.cases.0, c.in-Some-pop.ensures) at c.requires.each) in
    let l = ap length c.in-Some-pop.ensures ∙ length-append rest (v ∷ []) in
    let m = c.requires.at_most in
    let same = sym (length_each outer c.advance-more.new.at c.advance-more.ensures.each) ∙ length_each outer rest each in
    let k : length c.advance-more.new.at < 8 = omega arith in
    (lit< tt, k)

pub returns-clause-left : goal.returns-clause-left
returns-clause-left t c =
    let s = c.in-Some.steps.now in
    let v = c.in-Some-pop.v in
    let outer = c.in-Some.outer.now in
    let rest = c.pop.new.self in
    let lo : FitsSigned w64 s.lo = search rules in
    let here : FitsSigned w64 v = search rules in
    let past = simp to_z-of_z at c.in_default-next_value.ensures in
    let pushed = simp to_z-of_z at c.push-2.ensures in
    let each = HasOneEach-end outer rest s v (rw (c.in-Some.ensures.cases.0, c.in-Some-pop.ensures) at c.requires.each) in
    let first = (HasFirst-end outer s (rw c.in-Some.ensures.cases.0 at c.requires.first)).1 in
    rw (c.in-Some.ensures.cases.0, c.in-Some-pop.ensures, pushed)
    (carried s v outer rest c.advance-more.new.at c.advance-more.result each c.advance-more.ensures.each first past c.advance-more.ensures.left)

pub returns-clause-each : goal.returns-clause-each
returns-clause-each t c =
    let s = c.in-Some.steps.now in
    let outer = c.in-Some.outer.now in
    let lo : FitsSigned w64 s.lo = search rules in
    let pushed = simp to_z-of_z at c.push-2.ensures in
    rw (c.in-Some.ensures.cases.0, pushed) (HasOneEach-push outer c.advance-more.new.at s s.lo c.advance-more.ensures.each)
