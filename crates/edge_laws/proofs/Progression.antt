-- The value of a range at an index.
use Rattle.std.proofs.Common.{◌≡◌, ℕ, zero, suc, ℤ, ◌+ℤ◌, false, [], Some, None, slice_get, refl}
use Rattle.std.specs.Prelude.{if◌then◌else◌}
use Rattle.range_space.specs.Values.{is_within, values}
use Rattle.edge_laws.specs.Steps.{steps_from}
use Rattle.range_space.proofs.CallerLemmas.{past_step, values_in, values_past}
use Rattle.list_lemmas.proofs.Truth.{by_test}

module _ (hi step : ℤ) where
  -- what is past hi stays past it
  stays_past : (index : ℕ) (v : ℤ) → is_within hi step v ≡ false → is_within hi step (steps_from v step index) ≡ false
  stays_past zero v h = h
  stays_past (suc index) v h =
      stays_past index (v +ℤ step) (by_test (is_within hi step (v +ℤ step)) (λ w. let t = past_step hi step v w in absurd cc) (λ w. w))

  nowhere : (index : ℕ) → slice_get {X = ℤ} [] index ≡ None
  nowhere zero = refl
  nowhere (suc index) = refl

  pub value_at : (index : ℕ) (v : ℤ) → slice_get (values v hi step) index
      ≡ (if is_within hi step (steps_from v step index) then Some (steps_from v step index) else None)
  value_at zero v =
      by_test (is_within hi step v)
      (λ h. rw (values_in hi step v h) (rw h refl))
      (λ h. rw (values_past hi step v h) (rw h refl))
  value_at (suc index) v =
      by_test (is_within hi step v)
      (λ h. rw (values_in hi step v h) (value_at index (v +ℤ step)))
      (λ h. rw (values_past hi step v h) (rw (stays_past (suc index) v h) (nowhere (suc index))))
