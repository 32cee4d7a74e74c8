-- The counts of an end with a slot.
use Rattle.std.proofs.Common.{◌≡◌, ℕ, ◌+◌, ◌<◌, ◌≤◌, List, [], ◌∷◌, ◌++◌, length, Option, Some, None, ap, ◌∙◌, arith}
use Rattle.std.specs.Prelude.{option_to_list}
use Rattle.std.proofs.lemmas.List.{length-append}
use Rattle.std.proofs.lemmas.List.Sums.{sum_by-cons}
use Rattle.std.proofs.lemmas.List.Elements.{All-cons, All-tail}
use Rattle.ptg_base.specs.Task.{Task}
use Rattle.ready_deques.specs.declared.tally.Tally.{Tally}
use Rattle.ready_deques.specs.Ends.{CountsWithSlot, Owner}
use Rattle.ready_deques.specs.Rule.{Balanced, IdleIsEmpty, WasEmpty, tally, times}
use Rattle.ready_deques.proofs.Keeps.{times-append}

-- an id was put into the slot, after the one that was there had gone to the deque
pub put : (e e' : Owner) (slot : Option Task) (pushed pushed' taken : List Task) (id : Task)
    → CountsWithSlot e (option_to_list slot) pushed taken → e' ≡ record e { pushed = e.pushed ++ option_to_list slot }
    → pushed' ≡ pushed ++ id ∷ [] → CountsWithSlot e' (id ∷ []) pushed' taken
put e e' slot pushed pushed' taken id counts moved longer = record {
  ids = λ x.
      let was = counts.ids x in
      let p : times x pushed' ≡ times x pushed + times x (id ∷ []) = ap (times x) longer ∙ times-append x pushed (id ∷ []) in
      let q : times x e'.pushed ≡ times x e.pushed + times x (option_to_list slot) =
      ap (λ (b : Owner). times x b.pushed) moved ∙ times-append x e.pushed (option_to_list slot) in
      let t : times x e'.taken ≡ times x e.taken = ap (λ (b : Owner). times x b.taken) moved in
      omega (arith, was, p, q, t);
  not_less = λ x.
      let was = counts.not_less x in
      let t : times x e'.taken ≡ times x e.taken = ap (λ (b : Owner). times x b.taken) moved in
      omega (arith, was, t);
  at_least =
      let was = counts.at_least in
      let p : length pushed' ≡ length pushed + 1 = ap length longer ∙ length-append pushed (id ∷ []) in
      let q : length e'.pushed ≡ length e.pushed + length (option_to_list slot) =
      ap (λ (b : Owner). length b.pushed) moved ∙ length-append e.pushed (option_to_list slot) in
      omega (arith, was, p, q, one slot);
}
  where
    one : (o : Option Task) → length (option_to_list o) ≤ 1
    one None = omega arith
    one (Some x) = omega arith

-- the id in the slot was taken
pub took : (e : Owner) (slot slot' : Option Task) (pushed taken taken' : List Task) (id : Task)
    → CountsWithSlot e (option_to_list slot) pushed taken → slot ≡ Some id → slot' ≡ None → taken' ≡ taken ++ id ∷ []
    → CountsWithSlot e (option_to_list slot') pushed taken'
took e slot slot' pushed taken taken' id counts here gone longer = record {
  ids = λ x.
      let was = counts.ids x in
      let one : times x (option_to_list slot) ≡ times x (id ∷ []) = ap (λ o. times x (option_to_list o)) here in
      let none : times x (option_to_list slot') ≡ 0 = ap (λ o. times x (option_to_list o)) gone in
      let t : times x taken' ≡ times x taken + times x (id ∷ []) = ap (times x) longer ∙ times-append x taken (id ∷ []) in
      omega (arith, was, one, none, t);
  not_less = λ x.
      let was = counts.not_less x in
      let t : times x taken' ≡ times x taken + times x (id ∷ []) = ap (times x) longer ∙ times-append x taken (id ∷ []) in
      omega (arith, was, t);
  at_least = counts.at_least;
}

-- an id of the deque was taken, while the slot was empty
pub took_back : (e e' : Owner) (slot : Option Task) (pushed taken taken' : List Task) (id : Task)
    → CountsWithSlot e (option_to_list slot) pushed taken → e' ≡ record e { taken = e.taken ++ id ∷ [] }
    → taken' ≡ taken ++ id ∷ [] → CountsWithSlot e' (option_to_list slot) pushed taken'
took_back e e' slot pushed taken taken' id counts moved longer = record {
  ids = λ x.
      let was = counts.ids x in
      let p : times x e'.pushed ≡ times x e.pushed = ap (λ (b : Owner). times x b.pushed) moved in
      let q : times x e'.taken ≡ times x e.taken + times x (id ∷ []) =
      ap (λ (b : Owner). times x b.taken) moved ∙ times-append x e.taken (id ∷ []) in
      let t : times x taken' ≡ times x taken + times x (id ∷ []) = ap (times x) longer ∙ times-append x taken (id ∷ []) in
      omega (arith, was, p, q, t);
  not_less = λ x.
      let was = counts.not_less x in
      let q : times x e'.taken ≡ times x e.taken + times x (id ∷ []) =
      ap (λ (b : Owner). times x b.taken) moved ∙ times-append x e.taken (id ∷ []) in
      let t : times x taken' ≡ times x taken + times x (id ∷ []) = ap (times x) longer ∙ times-append x taken (id ∷ []) in
      omega (arith, was, q, t);
  at_least =
      let was = counts.at_least in
      let p : length e'.pushed ≡ length e.pushed = ap (λ (b : Owner). length b.pushed) moved in
      omega (arith, was, p);
}

-- if the slot is empty and the deque was empty, no pushed id was left
pub none_left : (e : Owner) (slot : Option Task) (pushed taken : List Task) → 0 < e.parts
    → CountsWithSlot e (option_to_list slot) pushed taken → slot ≡ None
    → WasEmpty e.parts e.pushed e.taken → WasEmpty e.parts pushed taken
none_left e slot pushed taken some counts none was = (
  others,
  record {
    ids = λ x.
        let pushes : Tally → ℕ = λ t. times x t.pushed in
        let takes : Tally → ℕ = λ t. times x t.taken in
        let kept = counts.ids x in
        let empty : times x (option_to_list slot) ≡ 0 = ap (λ o. times x (option_to_list o)) none in
        let balance = was.1.ids x in
        omega (
          arith,
          kept,
          empty,
          balance,
          sum_by-cons pushes (tally e.parts e.pushed e.taken) others,
          sum_by-cons takes (tally e.parts e.pushed e.taken) others,
          sum_by-cons pushes (tally e.parts pushed taken) others,
          sum_by-cons takes (tally e.parts pushed taken) others,
        );
    parts = was.1.parts;
    idle = All-cons IdleIsEmpty (tally e.parts pushed taken) others (λ partless. absurd (omega (arith, some, partless)))
        (All-tail IdleIsEmpty (tally e.parts e.pushed e.taken) others was.1.idle);
    pushes = was.1.pushes;
  },
)
  where
    others : List Tally
    others = was.0

-- by the counts without the slot, at most as many of each id are left
pub without_slot : (e : Owner) (slot pushed taken : List Task) (id : Task) → CountsWithSlot e slot pushed taken
    → times id taken + times id e.pushed ≤ times id pushed + times id e.taken
without_slot e slot pushed taken id counts = let was = counts.ids id in omega (arith, was)
