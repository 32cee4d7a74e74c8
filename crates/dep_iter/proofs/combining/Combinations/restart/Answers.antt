use Rattle.std.proofs.Common.{[], ◌≡◌, length, map, ap, sym, ◌∙◌, true}
use Rattle.std.specs.List.{AllByRecursion}
use Rattle.std.specs.Result.{result_unwrap_or}
use Rattle.dep_iter.specs.Arguments.{arg_values, product}
use Rattle.dep_iter.specs.Combining.{steps_values, HasFirst, combinations_left, first_values}
use Rattle.dep_iter.proofs.Odometer.{all_added, length_each, product-first, HasOneEach-first}
use Rattle.dep_iter.proofs.combining.Combinations.restart.Goals as goal
use Rattle.dep_iter.proofs.combining.Combinations.restart.Goals.{After-push_first}

added : (c : After-push_first) → (map steps_values c.push_spans-self-inside.new.spans.items
    ≡ map (λ a. result_unwrap_or (arg_values a c.args.env.now) []) c.args.args.now)
    × AllByRecursion HasFirst c.push_spans-self-inside.new.spans.items
added c =
    let found = rw (c.if-self.true, c.clear.ensures) at c.push_spans-self-inside.ensures.found in
    all_added (map (λ a. result_unwrap_or (arg_values a c.args.env.now) []) c.args.args.now) c.push_spans-self-inside.new.spans.items found

values : (c : After-push_first) → c.push_first.new.values ≡ first_values c.push_spans-self-inside.new.spans.items
values c = rw (c.clear-2.ensures, c.as_slice.ensures.value) at c.push_first.ensures

pub invariant_of-self : goal.invariant_of-self
invariant_of-self c =
    let ss = c.push_spans-self-inside.new.spans.items in
    let v = values c in
    let same = ap length v ∙ sym (length_each ss (first_values ss) (HasOneEach-first ss)) in
    let fits = rw c.as_slice.ensures.value at c.as_slice.ensures.fits in
    λ e. (rw same fits, rw v (HasOneEach-first ss), (added c).1)

pub returns-then-self : goal.returns-then-self
returns-then-self c =
    let a = added c in
    let ss = c.push_spans-self-inside.new.spans.items in
    ap (λ b. combinations_left b ss c.push_first.new.values) c.if-self.true ∙ ap (combinations_left true ss) (values c)
    ∙ sym (product-first ss a.1) ∙ ap product a.0
