-- The account of one worker's hands, as contracts see it: an id is taken at most as often as it was pushed.
-- Carried by: `make`, `Hands::push`, `Hands::pop`, `Hands::steal`, `Hands::settle`.
-- Tested by: `ready_deques`.
use Rattle.std.specs.Prelude.{◌≡◌, ◌≢◌, ℕ, ◌+◌, ◌<◌, ◌≤◌, Some, List, [], ◌∷◌, ◌++◌, All, length, replicate, sum_by, slice_get, slice_index_or, slice_set}
use Rattle.ptg_base.specs.Task.{Task}
use Rattle.ready_deques.specs.Ends.{DequeId}
use Rattle.ready_deques.specs.Rule.{times}

-- The worker's number, the deques of the team, the ids that it pushed to its own, and those that it took, by deque.
pub record Account : Type 0 where
  pub number : ℕ
  pub deques : List DequeId
  pub pushed : List Task
  pub taken : List (List Task)

-- The ids that it took from the deque of `worker`.
abbrev pub taken_from : ℕ → Account → List Task
taken_from worker a = slice_index_or a.taken worker []

-- The account of a worker of a team with these deques, before the first call.
abbrev pub fresh : List DequeId → ℕ → Account
fresh deques number = record { number = number; deques = deques; pushed = []; taken = replicate (length deques) [] }

-- The accounts of this many workers, in order of their numbers from 0, before the first call. They share the deques,
-- one for each.
pub record AreFresh (workers : ℕ) (deques : List DequeId) (team : List Account) : Type 0 where
  pub one_for_each : length deques ≡ workers
  pub all : length team ≡ workers
  pub each : (number : ℕ) → number < workers → slice_get team number ≡ Some (fresh deques number)

-- The worker and the deques stay.
abbrev pub SameWorker : Account → Account → Type 0
SameWorker a b = (b.number ≡ a.number) × (b.deques ≡ a.deques)

-- The account after it pushed an id.
abbrev pub after_push : Account → Task → Account
after_push a id = record a { pushed = a.pushed ++ id ∷ [] }

-- The account after it took an id from the deque of `worker`.
abbrev pub after_take : ℕ → Account → Task → Account
after_take worker a id = record a { taken = slice_set a.taken worker (taken_from worker a ++ id ∷ []) }

-- These are all the other accounts that share its deques.
pub record AreTheOthers (a : Account) (others : List Account) : Type 0 where
  pub shared : All (λ o. o.deques ≡ a.deques) others
  pub apart : All (λ o. o.number ≢ a.number) others
  pub all : length others + 1 ≡ length a.deques

-- The worker and the others together took each id from its deque at most as often as it pushed that id.
abbrev pub TakenAtMostAsPushed : Account → List Account → Type 0
TakenAtMostAsPushed a others =
    (id : Task) → sum_by (λ o. times id (taken_from a.number o)) (a ∷ others) ≤ times id a.pushed
