use Rattle.std.proofs.Common.{[], ap, sym, ◌∙◌, List, ℤ, Result}
use Rattle.std.proofs.lemmas.Bool.{not-true}
use Rattle.std.specs.Result.{result_unwrap_or}
use Rattle.range_space.specs.declared.fault.SpanFault.{SpanFault}
use Rattle.range_space.proofs.CallerLemmas.{values_past}
use Rattle.dep_iter.proofs.argument.nonempty.Goals as goal

pub returns-then-is_empty : goal.returns-then-is_empty
returns-then-is_empty c =
    let s = c.in_ok-steps.steps in
    ap (λ (r : Result (List ℤ) SpanFault). result_unwrap_or r []) c.in_ok-steps.ensures
    ∙ values_past s.hi s.step s.lo (not-true _ (sym c.is_empty.ensures ∙ c.if-is_empty.true))
