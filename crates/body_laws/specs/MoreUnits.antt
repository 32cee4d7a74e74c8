-- A law of larger budgets.
use Rattle.std.specs.Prelude.{◌≡◌, ◌≢◌, ℕ, ◌+◌, ℤ, List, Err, Option}
use Rattle.term_core.specs.declared.body.Body.{Body}
use Rattle.term_core.specs.declared.trap.Trap.TheVariants.{Budget}
use Rattle.body_eval.specs.Meaning.{meaning_within}

-- with a larger budget a body does what it does with a smaller one, unless the smaller one ran out
abbrev pub DoesTheSame : ℕ → ℕ → Body → List ℤ → List (Option (List ℤ)) → Type 0
DoesTheSame units more body locals tiles =
    meaning_within units body locals tiles ≢ Err Budget
    → meaning_within (units + more) body locals tiles ≡ meaning_within units body locals tiles
