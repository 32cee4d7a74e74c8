-- From one combination of values of ranges to the next, the last range first.
use Rattle.std.specs.Prelude.{◌≡◌, ℤ, ◌+ℤ◌, List, [], ◌∷◌, ◌++◌, map, flat_map, Bool, true, false}
use Rattle.std.specs.List.{AllByRecursion}
use Rattle.range_space.specs.declared.steps.Steps.{Steps}
use Rattle.range_space.specs.Values.{is_within, values}
use Rattle.dep_iter.specs.Arguments.{product}

-- the values of a progression
abbrev pub steps_values : Steps → List ℤ
steps_values s = values s.lo s.hi s.step

-- a progression has a first value
abbrev pub HasFirst : Steps → Type 0
HasFirst s = is_within s.hi s.step s.lo ≡ true

-- there is one value for each progression
abbrev pub HasOneEach : List Steps → List ℤ → Type 0
HasOneEach [] [] = Unit {0}
HasOneEach [] (v ∷ vs) = ⊥
HasOneEach (s ∷ ss) [] = ⊥
HasOneEach (s ∷ ss) (v ∷ vs) = HasOneEach ss vs

-- the first value of each progression
abbrev pub first_values : List Steps → List ℤ
first_values ss = map (λ (s : Steps). s.lo) ss

-- the combinations that come after this one
abbrev pub product_after : List Steps → List ℤ → List (List ℤ)
product_after [] at = []
product_after (s ∷ ss) [] = []
product_after (s ∷ ss) (v ∷ vs) =
    map (λ ws. v ∷ ws) (product_after ss vs)
    ++ flat_map (λ w. map (λ ws. w ∷ ws) (product (map steps_values ss))) (values (v +ℤ s.step) s.hi s.step)

-- this combination and those that come after it, while there are any
abbrev pub combinations_left : Bool → List Steps → List ℤ → List (List ℤ)
combinations_left false ss at = []
combinations_left true ss at = at ∷ product_after ss at

-- `new` extends `old` by progressions with these lists of values, each with a first value
pub record AddsSteps (lists : List (List ℤ)) (old new : List Steps) : Type 0 where
  pub added : List Steps
  pub extends : new ≡ old ++ added
  pub same_values : map steps_values added ≡ lists
  pub have_first : AllByRecursion HasFirst added

-- `new` extends `old` by the only combination of this list
pub record AddsOnly (lists : List (List ℤ)) (old new : List ℤ) : Type 0 where
  pub added : List ℤ
  pub extends : new ≡ old ++ added
  pub only : lists ≡ added ∷ []
