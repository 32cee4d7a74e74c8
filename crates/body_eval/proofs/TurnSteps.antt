-- How a loop continues from one turn to the next.
use Rattle.std.proofs.Common.{◌≡◌, ℕ, ◌+◌, ℤ, List, [], ◌∷◌, slice_set, Option, Result, Ok, Err, ap, sym, ◌∙◌}
use Rattle.term_core.specs.declared.trap.Trap.{Trap}
use Rattle.term_core.specs.declared.trap.Trap.TheVariants.{Budget}
use Rattle.body_eval.specs.State.{State, assigned}
use Rattle.body_eval.specs.Meaning.{turns}
use Rattle.body_eval.proofs.Units.{state_with, first_then-ok, first_then-err, first_then-none}

module _ (block : State → Result State Trap) (n : ℕ) (values : List ℤ) (r : Result State Trap) where
  -- the state after the last turn
  pub turns-end : (s : State) → values ≡ [] → turns block n values s ≡ r → r ≡ Ok s
  turns-end s none h = sym h ∙ ap (λ vs. turns block n vs s) none

  module _ (v : ℤ) (more : List ℤ) (slots : List ℤ) (tiles : List (Option (List ℤ))) (units : ℕ)
      (one : values ≡ v ∷ more) (h : turns block n values (state_with slots tiles units) ≡ r) where
    starts : r ≡ turns block n (v ∷ more) (state_with slots tiles units)
    starts = sym h ∙ ap (λ vs. turns block n vs (state_with slots tiles units)) one

    pub turns-none : units ≡ 0 → r ≡ Err Budget
    turns-none none = starts ∙ first_then-none slots tiles units (λ t. block (assigned n v t)) (turns block n more) none

    pub turns-err : (less : ℕ) (cause : Trap) → units ≡ less + 1 → block (state_with (slice_set slots n v) tiles less) ≡ Err cause → r ≡ Err cause
    turns-err less cause unit stops = starts ∙ first_then-err slots tiles units less unit (λ t. block (assigned n v t)) (turns block n more) cause stops

    pub turns-ok : (less : ℕ) (s : State) → units ≡ less + 1 → block (state_with (slice_set slots n v) tiles less) ≡ Ok s → turns block n more s ≡ r
    turns-ok less s unit goes = sym (starts ∙ first_then-ok slots tiles units less unit (λ t. block (assigned n v t)) (turns block n more) s goes)
