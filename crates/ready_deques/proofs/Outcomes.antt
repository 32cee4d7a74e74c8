-- What a step shows of an end, from what it shows of its tally.
use Rattle.std.proofs.Common.{◌≡◌, [], ◌∷◌, ◌++◌, Option, Some, None, MatchOption, ap, subst}
use Rattle.crossbeam_deque.specs.Steals.{MatchSteal}
use Rattle.crossbeam_deque.specs.declared.steal.Steal.{Steal}
use Rattle.crossbeam_deque.specs.declared.steal.Steal.TheVariants.{Empty, Retry, Success}
use Rattle.ptg_base.specs.Task.{Task}
use Rattle.ready_deques.specs.declared.tally.Tally.{Tally}
use Rattle.ready_deques.specs.Rule.{tally, HeldAtMost, WasEmpty}
use Rattle.ready_deques.specs.Ends.{DequeId, Owner, Thief}

abbrev pub owner_of : DequeId → Tally → Owner
owner_of d t = record { deque = d; parts = t.parts; pushed = t.pushed; taken = t.taken }

-- what one took at the back
pub popped : (result : Option Task) (d d' : DequeId) (t t' : Tally) → d' ≡ d
    → MatchOption result ((t' ≡ t) × WasEmpty t.parts t.pushed t.taken) (λ id. t' ≡ tally t.parts t.pushed (t.taken ++ id ∷ []))
    → MatchOption result ((owner_of d' t' ≡ owner_of d t) × WasEmpty t.parts t.pushed t.taken)
    (λ id. owner_of d' t' ≡ record (owner_of d t) { taken = t.taken ++ id ∷ [] })
popped None d d' t t' same h = ((λ i. owner_of (same i) (h.0 i)), h.1)
popped (Some id) d d' t t' same h = λ i. owner_of (same i) (h i)

abbrev pub thief_of : DequeId → Tally → Thief
thief_of d t = record { deque = d; parts = t.parts; taken = t.taken }

-- what one took at the front
pub stole : (result : Steal Task) (d : DequeId) (t t' : Tally) (R : Type 0) → t.pushed ≡ []
    → MatchSteal result ((t' ≡ t) × HeldAtMost 1 t.pushed t.taken) ((t' ≡ t) × R) (λ id. t' ≡ tally t.parts t.pushed (t.taken ++ id ∷ []))
    → MatchSteal result ((thief_of d t' ≡ thief_of d t) × HeldAtMost 1 [] t.taken) (thief_of d t' ≡ thief_of d t)
    (λ id. thief_of d t' ≡ record (thief_of d t) { taken = t.taken ++ id ∷ [] })
stole Empty d t t' R none h = (ap (thief_of d) h.0, subst (λ ids. HeldAtMost 1 ids t.taken) none h.1)
stole Retry d t t' R none h = ap (thief_of d) h.0
stole (Success id) d t t' R none h = ap (thief_of d) h
