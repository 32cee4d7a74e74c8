-- What starts only while a unit is left.
use Rattle.std.proofs.Common.{◌≡◌, ℕ, ◌+◌, ℤ, List, Option, Result, Ok, Err, refl, ap, sym, ◌∙◌, arith}
use Rattle.std.proofs.lemmas.Grind.{common_steps}
use Rattle.term_core.specs.declared.trap.Trap.{Trap}
use Rattle.term_core.specs.declared.trap.Trap.TheVariants.{Budget}
use Rattle.body_eval.specs.State.{Frame, State, state_of, spent}
use Rattle.body_eval.specs.Meaning.{first_then}

-- the state of these parts
abbrev pub state_with : List ℤ → List (Option (List ℤ)) → ℕ → State
state_with slots tiles units = record { slots = slots; tiles = tiles; units_left = units }

-- a frame, given its parts
pub by_parts : (f : State → Result State Trap) (frame : Frame) (slots : List ℤ) (tiles : List (Option (List ℤ)))
    (units : ℕ) → frame.slots ≡ slots → frame.units_left ≡ units
    → f (state_with slots tiles units) ≡ f (state_of frame tiles)
by_parts f frame slots tiles units e u = ap (λ s. f (state_with s tiles units)) (sym e) ∙ ap (λ n. f (state_with frame.slots tiles n)) (sym u)

module _ (slots : List ℤ) (tiles : List (Option (List ℤ))) (units less : ℕ) (one : units ≡ less + 1) where
  pub spent_one : spent (state_with slots tiles units) ≡ Ok (state_with slots tiles less)
  spent_one = grind (arith, common_steps)

  pub first_then-ok : (act rest : State → Result State Trap) (s : State) → act (state_with slots tiles less) ≡ Ok s
      → first_then act rest (state_with slots tiles units) ≡ rest s
  first_then-ok act rest s h = rw spent_one (rw h refl)

  pub first_then-err : (act rest : State → Result State Trap) (cause : Trap)
      → act (state_with slots tiles less) ≡ Err cause → first_then act rest (state_with slots tiles units) ≡ Err cause
  first_then-err act rest cause h = rw spent_one (rw h refl)

-- nothing starts if no unit is left
pub first_then-none : (slots : List ℤ) (tiles : List (Option (List ℤ))) (units : ℕ)
    (act rest : State → Result State Trap) → units ≡ 0 → first_then act rest (state_with slots tiles units) ≡ Err Budget
first_then-none slots tiles units act rest none = rw none refl
