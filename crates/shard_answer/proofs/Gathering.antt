-- Sums and rows over shards, each of which has its own part.
use Rattle.std.proofs.Common.{◌≡◌, ℕ, zero, suc, ◌+◌, ◌<◌, ◌≤◌, Bool, false, cond, ◌==◌, List, [], ◌∷◌, length}
use Rattle.std.proofs.Common.{slice_get, refl, ap, sym, ◌∙◌, subst, inl, inr, arith, eq-eqb, Some}
use Rattle.std.proofs.lemmas.Bool.{eqb-true, false_from_ne_true, false≢true}
use Rattle.std.specs.Prelude.{flat_map}
use Rattle.ptg_base.specs.Lists.{IsIn}
use Rattle.ptg_base.specs.Task.{Task}
use Rattle.ptg_base.specs.TaskComparing.{same_task}
use Rattle.ptg_base.specs.TaskLaws.{same_task-decides}
use Rattle.list_lemmas.proofs.Members.{IsIn-flat_map, from_flat_map}
use Rattle.list_lemmas.proofs.Truth.{by_test}
use Rattle.list_lemmas.proofs.Places.{place_of_member, IsIn-slice_get}
use Rattle.list_lemmas.proofs.Counts.{some_passes, weigh-append, weigh-same, weigh-zero, weigh-plus}
use Rattle.list_lemmas.specs.Counting.{as_number, count, weigh}
use Rattle.run_answer.specs.Rows.{AreOfDifferentTasks}

-- a list that weighs something has a member that does
pub weigh-some : {A : Type 0} (f : A → ℕ) (xs : List A) → 0 < weigh f xs → (x : A) × IsIn x xs × (0 < f x)
weigh-some f [] h = absurd (omega (arith, h))
weigh-some {A} f (x ∷ xs) h = by (weigh-some f xs) (f x) refl
  where
    by : (0 < weigh f xs → (y : A) × IsIn y xs × (0 < f y)) → (n : ℕ) → f x ≡ n → (y : A) × IsIn y (x ∷ xs) × (0 < f y)
    by rest zero e = let p = rest (omega (arith, h, e)) in (p.0, inr p.1, p.2)
    by rest (suc n) e = (x, inl refl, omega (arith, e))

above : (j n : ℕ) → j ≤ n → (n ≡ j → ⊥) → suc j ≤ n
above j n low other = omega (arith, low, other)

module _ {A : Type 0} (g v : A → ℕ) where
  -- the weight of what belongs to the shard k
  abbrev pub part : ℕ → A → ℕ
  part k x = cond (g x == k) (v x) 0

  -- the weight of what belongs to one of n shards from j on
  spread : ℕ → ℕ → A → ℕ
  spread j zero x = 0
  spread j (suc n) x = part j x + spread (suc j) n x

  part_other : (k : ℕ) (x : A) → (g x ≡ k → ⊥) → part k x ≡ 0
  part_other k x h = ap (λ b. cond b (v x) 0) (false_from_ne_true (g x == k) (λ e. h (eqb-true (g x) k e)))

  spread_below : (j n : ℕ) (x : A) → g x < j → spread j n x ≡ 0
  unfolding spread
  spread_below j zero x h = refl
  spread_below j (suc n) x h = omega (arith, part_other j x (λ e. absurd (omega (arith, h, e))), spread_below (suc j) n x (omega (arith, h)))

  spread_among : (j n : ℕ) (x : A) → j ≤ g x → g x < j + n → spread j n x ≡ v x
  unfolding spread
  spread_among j zero x low high = absurd (omega (arith, low, high))
  spread_among j (suc n) x low high =
      by_test (g x == j)
      (λ e. omega (arith, ap (λ b. cond b (v x) 0) e, spread_below (suc j) n x (omega (arith, eqb-true (g x) j e))))
      (λ e. omega (arith, ap (λ b. cond b (v x) 0) e, spread_among (suc j) n x (above j (g x) low (other e)) (omega (arith, high))))
    where
      other : (g x == j) ≡ false → g x ≡ j → ⊥
      other e same = false≢true (sym e ∙ eq-eqb (g x) j same)

  gathered_from : {B : Type 0} (w : B → ℕ) (ys : List B) (xs : List A) (j : ℕ)
      → ((i k : ℕ) (y : B) → k ≡ j + i → slice_get ys i ≡ Some y → w y ≡ weigh (part k) xs)
      → weigh w ys ≡ weigh (spread j (length ys)) xs
  unfolding spread
  gathered_from w [] xs j h = sym (weigh-zero (λ x. 0) xs (λ x i. refl))
  gathered_from w (y ∷ ys) xs j h =
      omega (
        arith,
        h 0 j y (omega arith) refl,
        gathered_from w ys xs (suc j)
            (λ i k z e is. h (suc i) k z (omega (arith, e)) is),
        weigh-plus (part j) (spread (suc j) (length ys)) xs,
      )

  -- If each shard weighs what belongs to it, all shards weigh what all things do.
  pub gathered : {B : Type 0} (w : B → ℕ) (ys : List B) (xs : List A)
      → ((k : ℕ) (y : B) → slice_get ys k ≡ Some y → w y ≡ weigh (part k) xs) → ((x : A) → IsIn x xs → g x < length ys)
      → weigh w ys ≡ weigh v xs
  gathered w ys xs h placed =
      gathered_from w ys xs 0 (λ i k y e is. subst (λ n. w y ≡ weigh (part n) xs) (omega (arith, e)) (h i y is))
      ∙ weigh-same v (spread 0 (length ys)) xs (λ x i. spread_among 0 (length ys) x (omega arith) (omega (arith, placed x i)))

-- the shard that a row comes from
pub row_of : {A B : Type 0} (rows : B → List A) (ys : List B) (r : A) → IsIn r (flat_map rows ys)
    → (k : ℕ) × (y : B) × (slice_get ys k ≡ Some y) × IsIn r (rows y)
row_of rows ys r i =
    let p = from_flat_map rows ys r i in
    let at = place_of_member ys p.0 p.1 in
    (at.0, p.0, at.1, p.2)

pub in_rows : {A B : Type 0} (rows : B → List A) (ys : List B) (k : ℕ) (y : B) (r : A) → slice_get ys k ≡ Some y → IsIn r (rows y) → IsIn r (flat_map rows ys)
in_rows rows ys k y r at i = IsIn-flat_map rows ys y r (IsIn-slice_get ys k y at) i

one_of_both : (a b : ℕ) → a ≤ 1 → b ≤ 1 → (0 < a → 0 < b → ⊥) → a + b ≤ 1
one_of_both zero b one other apart = omega (arith, other)
one_of_both (suc a) zero one other apart = omega (arith, one)
one_of_both (suc a) (suc b) one other apart = absurd (apart (omega arith) (omega arith))

module _ {A B : Type 0} (key : A → Task) (rows : B → List A) (of : Task → ℕ) where
  later_rows : (ys : List B) (j : ℕ) → ((i k : ℕ) (y : B) → k ≡ j + i → slice_get ys i ≡ Some y → (r : A)
      → IsIn r (rows y) → of (key r) ≡ k) → (r : A) → IsIn r (flat_map rows ys) → j ≤ of (key r)
  later_rows ys j own r i =
      let p = row_of rows ys r i in
      let is : of (key r) ≡ j + p.0 = own p.0 (j + p.0) p.1 refl p.2 r p.3 in
      omega (arith, is)

  differ_from : (ys : List B) (j : ℕ) → ((i k : ℕ) (y : B) → k ≡ j + i → slice_get ys i ≡ Some y
      → AreOfDifferentTasks key (rows y)) → ((i k : ℕ) (y : B) → k ≡ j + i → slice_get ys i ≡ Some y → (r : A)
      → IsIn r (rows y) → of (key r) ≡ k)
      → AreOfDifferentTasks key (flat_map rows ys)
  differ_from [] j once own t = omega arith
  differ_from (y ∷ ys) j once own t =
      let test : A → Bool = λ r. same_task t (key r) in
      let rest = differ_from ys (suc j) (λ i k z e is. once (suc i) k z (omega (arith, e)) is) (λ i k z e is. own (suc i) k z (omega (arith, e)) is) t in
      let apart : 0 < count test (rows y) → 0 < count test (flat_map rows ys) → ⊥ = λ a b.
      let p = some_passes test (rows y) a in
      let q = some_passes test (flat_map rows ys) b in
      let here : of (key p.0) ≡ j = own 0 j y (omega arith) refl p.0 p.1 in
      let there : suc j ≤ of (key q.0) = later_rows ys (suc j) (λ i k z e is. own (suc i) k z (omega (arith, e)) is) q.0 q.1 in
      let same : of (key p.0) ≡ of (key q.0) = ap of (sym ((same_task-decides t (key p.0)).0 p.2) ∙ (same_task-decides t (key q.0)).0 q.2) in
      absurd (omega (arith, here, there, same)) in
      let both = one_of_both (count test (rows y)) (count test (flat_map rows ys)) (once 0 j y (omega arith) refl t) rest apart in
      omega (arith, both, weigh-append (λ r. as_number (test r)) (rows y) (flat_map rows ys))

  -- If the rows of each shard are those of different tasks that belong to it, the rows of all shards are those of
  -- different tasks.
  pub differ : (ys : List B) → ((k : ℕ) (y : B) → slice_get ys k ≡ Some y → AreOfDifferentTasks key (rows y))
      → ((k : ℕ) (y : B) → slice_get ys k ≡ Some y → (r : A) → IsIn r (rows y) → of (key r) ≡ k)
      → AreOfDifferentTasks key (flat_map rows ys)
  differ ys once own = differ_from ys 0 (λ i k y e is. once i y is) (λ i k y e is r among. own i y is r among ∙ omega (arith, e))
