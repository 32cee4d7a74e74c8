use Rattle.std.proofs.Common.{◌≡◌, ℤ, List, [], ◌∷◌, length, map, refl, sym, ◌∙◌, true, Result, Ok, Err, is_ok, arith}
use Rattle.std.specs.Cmp.{first_so}
use Rattle.std.specs.List.{list_all}
use Rattle.std.specs.Result.{result_unwrap_or}
use Rattle.ptg_base.specs.Returns.{and_then}
use Rattle.range_space.specs.declared.fault.SpanFault.{SpanFault}
use Rattle.range_space.specs.Fault.{number}
use Rattle.dep_iter.specs.Arguments.{arg_values, product}
use Rattle.dep_iter.specs.Well.{has_arg}
use Rattle.goal_count.specs.Counting.{IsCount}
use Rattle.goal_count.proofs.Sums.{length-product, times}
use Rattle.goal_count.proofs.count.+combination_count.Goals as goal

-- an expression that has a value has exactly one
one_value : (r : Result ℤ SpanFault) → is_ok (and_then r (λ z. Ok (z ∷ []))) ≡ true
    → length (result_unwrap_or (and_then r (λ z. Ok (z ∷ []))) []) ≡ 1
one_value (Ok z) h = refl
one_value (Err f) h = absurd cc

pub returns-in-One : goal.returns-in-One
returns-in-One t c =
    let env = c.args.env.now in
    let e = c.in-One.field-0 in
    let ws = result_unwrap_or (arg_values c.in-Some.arg.now env) [] in
    let wss = map (λ a. result_unwrap_or (arg_values a env) []) c.in-Some.others.now in
    let all = rw c.in-Some.ensures.cases.0 at c.requires in
    let has = first_so (has_arg env c.in-Some.arg.now) (list_all (has_arg env) c.in-Some.others.now) all in
    let well = rw c.in-One.is at has in
    let n : length ws ≡ 1 = rw c.in-One.is (one_value (number e env) well) in
    let count : IsCount 1 (length ws) = (λ h. sym n, λ h. sym n) in
    rw (c.in-Some.ensures.cases.0, length-product ws wss)
    (times 1 c.combination_count.result (length ws) (length (product wss)) c.combination_count.result
    (λ h. omega arith) (λ h. omega arith) count c.combination_count.ensures)

pub returns-in-Span : goal.returns-in-Span
returns-in-Span t c =
    let env = c.args.env.now in
    let ws = result_unwrap_or (arg_values c.in-Some.arg.now env) [] in
    let wss = map (λ a. result_unwrap_or (arg_values a env) []) c.in-Some.others.now in
    let e = c.saturating_mul.ensures in
    let here : IsCount c.value_count-here.result (length ws) = rw c.in-Span.is c.value_count-here.ensures in
    rw (c.in-Some.ensures.cases.0, length-product ws wss)
    (times c.value_count-here.result c.combination_count-in-Span.result (length ws) (length (product wss))
    c.saturating_mul.result (λ h. omega arith) (λ h. omega arith) here c.combination_count-in-Span.ensures)
