use Rattle.std.proofs.Common.{◌≡◌, ◌%◌, rules, ap, sym, ◌∙◌, FitsSigned, w64, unsigned_abs}
use Rattle.std.proofs.lemmas.Int.{to_z-of_z}
use Rattle.std.proofs.lemmas.Bool.{false≢true}
use Rattle.range_space.proofs.Stepping.{gap}
use Rattle.range_space.proofs.Members.{values_way, way_values}
use Rattle.range_space.proofs.steps.Steps.has.Goals as goal

pub returns-then-not-is_within : goal.returns-then-not-is_within
returns-then-not-is_within c =
    let s = c.args.self.now in
    let f : FitsSigned w64 c.args.v = search rules in
    let g : FitsSigned w64 s.hi = search rules in
    let k : FitsSigned w64 s.step = search rules in
    let e = simp to_z-of_z at c.is_within.ensures in (
      λ t. absurd (false≢true t),
      λ w. sym c.if-not-is_within.true ∙ e ∙ (values_way s.lo s.hi s.step c.args.v w).before_end,
    )

pub returns-then-not-is_within-2 : goal.returns-then-not-is_within-2
returns-then-not-is_within-2 c =
    let s = c.args.self.now in
    let f : FitsSigned w64 c.args.v = search rules in
    let g : FitsSigned w64 s.lo = search rules in
    let k : FitsSigned w64 s.step = search rules in
    let e = simp to_z-of_z at c.is_within-2.ensures in (
      λ t. absurd (false≢true t),
      λ w. sym c.if-not-is_within-2.true ∙ e ∙ (values_way s.lo s.hi s.step c.args.v w).after_start,
    )

pub returns : goal.returns
returns c =
    let s = c.args.self.now in
    let f : FitsSigned w64 c.args.v = search rules in
    let g : FitsSigned w64 s.lo = search rules in
    let k : FitsSigned w64 s.step = search rules in
    let m : FitsSigned w64 s.hi = search rules in
    let e = simp to_z-of_z at c.is_within.ensures in
    let e' = simp to_z-of_z at c.is_within-2.ensures in
    let d = simp to_z-of_z at c.abs_diff.ensures in
    let u = simp to_z-of_z at c.unsigned_abs.ensures.value in
    let q : c.abs_diff.result % c.unsigned_abs.result ≡ gap c.args.v s.lo % unsigned_abs s.step =
    ap (λ x. x % c.unsigned_abs.result) d ∙ ap (λ x. gap c.args.v s.lo % x) u in (
      λ t. way_values s.lo s.hi s.step c.args.v (record {
        before_end = sym e ∙ c.if-not-is_within.false;
        after_start = sym e' ∙ c.if-not-is_within-2.false;
        whole_steps = sym q ∙ c.is_whole.ensures.0 t;
      }),
      λ w. c.is_whole.ensures.1 (q ∙ (values_way s.lo s.hi s.step c.args.v w).whole_steps),
    )
