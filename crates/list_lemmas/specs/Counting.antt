-- How often something occurs in a list, and lists that are the same up to their order.
use Rattle.std.specs.Prelude.{◌≡◌, ℕ, ◌+◌, Bool, cond, List, [], ◌∷◌}

-- the sum of the weights of the members of a list
abbrev pub weigh : {A : Type 0} → (A → ℕ) → List A → ℕ
weigh f [] = 0
weigh f (x ∷ xs) = f x + weigh f xs

-- a test as a number: 1 if it holds, else 0
abbrev pub as_number : Bool → ℕ
as_number b = cond b 1 0

-- how many members of a list pass a test
abbrev pub count : {A : Type 0} → (A → Bool) → List A → ℕ
count test xs = weigh (λ x. as_number (test x)) xs

-- Two lists have the same members, each as often, in any order: every weight sums to the same in both. If members can
-- be compared, this is the same as `HaveSameCounts`.
abbrev pub HasSameMembers : {A : Type 0} → List A → List A → Type 0
HasSameMembers {A} xs ys = (f : A → ℕ) → weigh f xs ≡ weigh f ys

-- each value occurs equally often in both lists, according to a test of sameness
abbrev pub HaveSameCounts : {A : Type 0} → (A → A → Bool) → List A → List A → Type 0
HaveSameCounts {A} same xs ys = (x : A) → count (same x) xs ≡ count (same x) ys
