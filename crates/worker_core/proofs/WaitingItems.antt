-- Items that wait with the numbers of their shards.
use Rattle.std.proofs.Common.{◌≡◌, ℕ, suc, ◌+◌, List, [], ◌∷◌, ◌++◌, take, drop, Some, slice_get, ap, sym, subst, inl}
use Rattle.std.proofs.Common.{inr, arith}
use Rattle.std.proofs.lemmas.List.{map-append, take-append-drop}
use Rattle.std.specs.List.{remove}
use Rattle.ptg_base.specs.Lists.{IsIn}
use Rattle.ptg_base.specs.Task.{Task}
use Rattle.list_lemmas.proofs.Counts.{weigh-append, weigh-map}
use Rattle.list_lemmas.proofs.Members.{IsIn-append_left, IsIn-append_right, from_append, from_push}
use Rattle.list_lemmas.proofs.Places.{drop_from}
use Rattle.list_lemmas.specs.Counting.{HasSameMembers, weigh}
use Rattle.work_board.specs.Sends.{shard_of_item}
use Rattle.worker_core.specs.declared.waiting.WaitingItem.{WaitingItem}
use Rattle.worker_core.specs.Waiting.{AreOfTheirShards, items_of}

-- a list without one of its members weighs less by the weight of that member
removed : {A : Type 0} (f : A → ℕ) (xs : List A) (k : ℕ) (x : A) → slice_get xs k ≡ Some x
    → weigh f xs ≡ f x + weigh f (remove xs k)
removed f xs k x e =
    let whole = ap (weigh f) (take-append-drop k xs) in
    let parts = weigh-append f (take k xs) (drop k xs) in
    let from = ap (weigh f) (drop_from xs k x e) in
    let others = weigh-append f (take k xs) (drop (suc k) xs) in
    omega (arith, whole, parts, from, others)

was_member : {A : Type 0} (xs : List A) (k : ℕ) (y : A) → IsIn y (remove xs k) → IsIn y xs
was_member xs k y h = elim (from_append y (take k xs) (drop (suc k) xs) h) [
  | inl front ↦ subst (λ l. IsIn y l) (take-append-drop k xs) (IsIn-append_left y (take k xs) (drop k xs) front)
  | inr back ↦ subst (λ l. IsIn y l) (take-append-drop (suc k) xs)
      (IsIn-append_right y (take (suc k) xs) (drop (suc k) xs) back)
]

-- the items that wait are one of them and the others
pub without_one : (xs : List WaitingItem) (k : ℕ) (x : WaitingItem) → slice_get xs k ≡ Some x
    → HasSameMembers (items_of xs) (x.item ∷ items_of (remove xs k))
without_one xs k x e f =
    let all = weigh-map f (λ (y : WaitingItem). y.item) xs in
    let rest = weigh-map f (λ (y : WaitingItem). y.item) (remove xs k) in
    let less = removed (λ (y : WaitingItem). f y.item) xs k x e in
    omega (arith, all, rest, less)

pub shards_without : (of : Task → ℕ) (xs : List WaitingItem) (k : ℕ) → AreOfTheirShards of xs
    → AreOfTheirShards of (remove xs k)
shards_without of xs k shards = λ y h. shards y (was_member xs k y h)

-- one item more waits
pub items_with : (xs : List WaitingItem) (x : WaitingItem) → items_of (xs ++ x ∷ []) ≡ items_of xs ++ x.item ∷ []
items_with xs x = map-append (λ (y : WaitingItem). y.item) xs (x ∷ [])

pub shards_with : (of : Task → ℕ) (xs : List WaitingItem) (x : WaitingItem) → AreOfTheirShards of xs
    → x.shard ≡ shard_of_item of x.item → AreOfTheirShards of (xs ++ x ∷ [])
shards_with of xs x shards here = λ y h. elim (from_push y xs x h) [
  | inl before ↦ shards y before
  | inr same ↦ subst (λ (z : WaitingItem). z.shard ≡ shard_of_item of z.item) (sym same) here
]
