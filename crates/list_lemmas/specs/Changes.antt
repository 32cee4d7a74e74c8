-- A change of one item of a list, in which the others stay.
use Rattle.std.specs.Prelude.{◌≡◌, ◌≢◌, ℕ, List, length, Some, slice_get}

-- item k, if the list has one, changes according to R, and the others stay
pub record ChangesAt {A : Type 0} (R : A → A → Type 0) (k : ℕ) (old new : List A) : Type 0 where
  pub count : length new ≡ length old
  pub others : (i : ℕ) → i ≢ k → slice_get new i ≡ slice_get old i
  pub here : (y z : A) → slice_get old k ≡ Some y → slice_get new k ≡ Some z → R y z
