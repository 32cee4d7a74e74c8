-- How many values a range has, and which numbers they are.
use Rattle.std.proofs.Common.{◌≡◌, ℕ, zero, suc, ◌+◌, ◌/◌, ◌%◌, ◌<◌, ◌≤◌, ℤ, pos, negsuc, ◌+ℤ◌, unsigned_abs, true, length, ap, sym, ◌∙◌, inl, inr, ◌⊎◌, arith}
use native.Mathlib.Nat.{add-div_right, add-mod_right, mod-eq_of_lt, div-eq_of_lt, zero-mod, eq-zero-or-pos}
use Rattle.std.proofs.lemmas.Int.{ints}
use Rattle.std.proofs.lemmas.Bool.{cases_lt}
use Rattle.ptg_base.specs.Lists.{IsIn}
use Rattle.range_space.specs.Values.{is_within, while_within, values}
use Rattle.range_space.proofs.Stepping.{gap, gap-step, size_pos, gap_last, while_in, while_past}
use Rattle.list_lemmas.proofs.Truth.{by_test}

module _ (hi step : ℤ) where
  -- a range that has a value has one more for each whole step up to hi
  length_while : (n : ℕ) (v : ℤ) → gap hi v < n → is_within hi step v ≡ true → length (while_within hi step n v) ≡ gap hi v / unsigned_abs step + 1
  length_while zero v p h = absurd (omega arith)
  length_while (suc n) v p h =
      let s = size_pos hi step v h in
      ap length (while_in hi step n v h) ∙ by_test (is_within hi step (v +ℤ step))
      (λ k. let e = gap-step hi step v h k in
      let i = length_while n (v +ℤ step) (omega arith) k in
      let d = add-div_right (gap hi (v +ℤ step)) s in
      let f = ap (λ x. x / unsigned_abs step) e in
      grind arith)
      (λ k. let e = ap length (while_past hi step n (v +ℤ step) k) in
      let d = div-eq_of_lt (gap_last hi step v h k) in
      grind arith)

  pub length_values_in : (v : ℤ) → is_within hi step v ≡ true → length (values v hi step) ≡ gap hi v / unsigned_abs step + 1
  unfolding values
  length_values_in v h = length_while (suc (gap hi v)) v (omega arith) h

-- how values and ends of a range compare in its direction
past_self : (hi step v : ℤ) → is_within hi step v ≡ true → is_within v step v ≡ true
past_self hi (pos zero) v h = absurd cc
past_self hi (pos (suc n)) v h = grind (arith, ints)
past_self hi (negsuc n) v h = grind (arith, ints)

gap-self : (v : ℤ) → gap v v ≡ 0
gap-self v = grind (arith, ints)

pub past_step : (x step v : ℤ) → is_within x step (v +ℤ step) ≡ true → is_within x step v ≡ true
past_step x (pos zero) v h = absurd cc
past_step x (pos (suc n)) v h = grind (arith, ints)
past_step x (negsuc n) v h = grind (arith, ints)

past_trans : (hi step x v : ℤ) → is_within hi step x ≡ true → is_within x step v ≡ true → is_within hi step v ≡ true
past_trans hi (pos zero) x v h k = absurd cc
past_trans hi (pos (suc n)) x v h k = grind (arith, ints)
past_trans hi (negsuc n) x v h k = grind (arith, ints)

same_from_gap : (x v : ℤ) → gap x v ≡ 0 → x ≡ v
same_from_gap x v h = grind (arith, ints)

-- a number that is at least a step away is not passed by the next step
past_next : (x step v : ℤ) → is_within x step v ≡ true → unsigned_abs step ≤ gap x v → is_within x step (v +ℤ step) ≡ true
past_next x (pos zero) v h k = absurd cc
past_next x (pos (suc n)) v h k = grind (arith, ints)
past_next x (negsuc n) v h k = grind (arith, ints)

-- x lies between v and hi in the direction of the step, a whole number of steps from v
pub record IsOnWay (hi step v x : ℤ) : Type 0 where
  pub before_end : is_within hi step x ≡ true
  pub after_start : is_within x step v ≡ true
  pub whole_steps : gap x v % unsigned_abs step ≡ 0

a_step_more : (hi step v x : ℤ) → IsOnWay hi step (v +ℤ step) x → IsOnWay hi step v x
a_step_more hi step v x w =
    let h = past_step x step v w.after_start in
    let e = gap-step x step v h w.after_start in
    record {
      before_end = w.before_end;
      after_start = h;
      whole_steps = ap (λ d. d % unsigned_abs step) e ∙ add-mod_right (gap x (v +ℤ step)) (unsigned_abs step) ∙ w.whole_steps;
    }

at_start : (hi step v : ℤ) → is_within hi step v ≡ true → IsOnWay hi step v v
at_start hi step v h = record {
  before_end = h;
  after_start = past_self hi step v h;
  whole_steps = ap (λ d. d % unsigned_abs step) (gap-self v) ∙ zero-mod (unsigned_abs step);
}

-- every value of a range is a whole number of steps from its start
pub on_way : (hi step : ℤ) (n : ℕ) (v x : ℤ) → IsIn x (while_within hi step n v) → IsOnWay hi step v x
unfolding while_within
on_way hi step zero v x w = absurd w
on_way hi step (suc n) v x w =
    by_test (is_within hi step v)
    (λ h. let u : (x ≡ v) ⊎ IsIn x (while_within hi step n (v +ℤ step)) = (rw (while_in hi step n v h) at w) in
    elim u [ inl e ↦ rw e (at_start hi step v h) | inr t ↦ a_step_more hi step v x (on_way hi step n (v +ℤ step) x t) ])
    (λ h. absurd (rw (while_past hi step (suc n) v h) at w))

-- a distance that is a whole number of steps, but not zero, is at least one step
a_step_or_more : (d s : ℕ) → 0 < d → d % s ≡ 0 → s ≤ d
a_step_or_more d s p h = elim (cases_lt d s) [ inl k ↦ absurd (let e = mod-eq_of_lt k in omega arith) | inr k ↦ k ]

from_way : (hi step : ℤ) (n : ℕ) (v x : ℤ) → gap hi v < n → IsOnWay hi step v x → IsIn x (while_within hi step n v)
from_way hi step zero v x p w = absurd (omega arith)
from_way hi step (suc n) v x p w =
    let h = past_trans hi step x v w.before_end w.after_start in
    let s = size_pos hi step v h in
    rw (while_in hi step n v h) (elim (eq-zero-or-pos (gap x v)) [
      | inl e ↦ inl (same_from_gap x v e)
      | inr more ↦
          let on = past_next x step v w.after_start (a_step_or_more (gap x v) (unsigned_abs step) more w.whole_steps) in
          let e = gap-step x step v w.after_start on in
          let here = past_trans hi step x (v +ℤ step) w.before_end on in
          let d = gap-step hi step v h here in
          inr (from_way hi step n (v +ℤ step) x (omega arith) (record {
            before_end = w.before_end;
            after_start = on;
            whole_steps = sym (add-mod_right (gap x (v +ℤ step)) (unsigned_abs step)) ∙ sym (ap (λ y. y % unsigned_abs step) e) ∙ w.whole_steps;
          }))
    ])

-- the values of a range are the numbers a whole number of steps from its start and within its end
pub values_way : (lo hi step x : ℤ) → IsIn x (values lo hi step) → IsOnWay hi step lo x
unfolding values
values_way lo hi step x w = on_way hi step (suc (gap hi lo)) lo x w

pub way_values : (lo hi step x : ℤ) → IsOnWay hi step lo x → IsIn x (values lo hi step)
unfolding values
way_values lo hi step x w = from_way hi step (suc (gap hi lo)) lo x (omega arith) w
