use Rattle.std.proofs.Common.{[], map, sym, ◌∙◌, rules, FitsSigned, w64}
use Rattle.std.proofs.lemmas.Int.{to_z-of_z}
use Rattle.std.proofs.lemmas.Bool.{false≢true}
use Rattle.dep_iter.specs.Arguments.{arg_values}
use Rattle.dep_iter.proofs.Belonging.{from_product, not_product, to_product}
use Rattle.dep_iter.proofs.membership.+has_combination.Goals as goal
use Rattle.std.proofs.lemmas.List.{nil_from_length}
use Rattle.std.specs.Result.{result_unwrap_or}

pub returns-in_default-split_first : goal.returns-in_default-split_first
returns-in_default-split_first t c =
    let env = c.args.env.now in
    let e = nil_from_length c.args.params.now c.in_default-split_first.ensures.cases in (
      λ q. absurd (false≢true q),
      λ h. absurd (not_product (result_unwrap_or (arg_values c.in-Some.arg.now env) [])
          (map (λ a. result_unwrap_or (arg_values a env) []) c.in-Some.others.now)
          (rw (e, c.in-Some.ensures.cases.0) at h)),
    )

pub returns-then-not-takes_value : goal.returns-then-not-takes_value
returns-then-not-takes_value t c =
    let env = c.args.env.now in
    let f : FitsSigned w64 c.in-Some-split_first.v.now = search rules in
    let w = simp to_z-of_z at c.takes_value.ensures in (
      λ q. absurd (false≢true q),
      λ h.
          let k = rw (c.in-Some.ensures.cases.0, c.in-Some-split_first.ensures.cases.0) at h in
          let p = from_product c.in-Some-split_first.v.now c.in-Some-split_first.rest.now
          (result_unwrap_or (arg_values c.in-Some.arg.now env) [])
          (map (λ a. result_unwrap_or (arg_values a env) []) c.in-Some.others.now) k in
          sym c.if-not-takes_value.true ∙ w.1 p.0,
    )

pub returns : goal.returns
returns t c =
    let env = c.args.env.now in
    let v = c.in-Some-split_first.v.now in
    let f : FitsSigned w64 c.in-Some-split_first.v.now = search rules in
    let w = simp to_z-of_z at c.takes_value.ensures in
    let rest = c.in-Some-split_first.rest.now in
    let ws = result_unwrap_or (arg_values c.in-Some.arg.now env) [] in
    let wss = map (λ a. result_unwrap_or (arg_values a env) []) c.in-Some.others.now in (
      λ q. rw (c.in-Some.ensures.cases.0, c.in-Some-split_first.ensures.cases.0)
          (to_product v rest ws wss (w.0 c.if-not-takes_value.false) (c.has_combination.ensures.0 q)),
      λ h.
          let k = rw (c.in-Some.ensures.cases.0, c.in-Some-split_first.ensures.cases.0) at h in
          c.has_combination.ensures.1 (from_product v rest ws wss k).1,
    )
