-- How an account changes with the ends that it is a view of.
use Rattle.std.proofs.Common.{◌≡◌, ◌≢◌, ℕ, ◌+◌, ◌<◌, List, [], ◌∷◌, ◌++◌, length, map, set, get_or, Option, Some, None, MatchOption, sym, refl, ap}
use Rattle.std.proofs.Common.{subst, ◌∙◌, arith}
use Rattle.std.specs.Prelude.{⊤, IfNone, slice_get, option_map}
use Rattle.std.proofs.lemmas.Option.{same_Some, slice_get-map, slice_get_read}
use Rattle.std.proofs.lemmas.List.{map-set, length-map, length-set, get_or-map, get_or-set_same, get_or-set_other, set-set, set_comm, set-get_or}
use Rattle.std.proofs.Math.Seq.{map-set_same}
use Rattle.ptg_base.specs.Task.{Task as TheTask}
use Rattle.ready_deques.specs.declared.stolen.Stolen.{Stolen}
use Rattle.ready_deques.specs.declared.stolen.Stolen.TheVariants.{Task, Empty}
use Rattle.ready_deques.specs.Ends.{DequeId, OthersHaveParts, Owner, Thief}
use Rattle.ready_deques.specs.Hands.{Account, after_take}
use Rattle.ready_deques.specs.Rule.{AllTaken, WasEmpty}
use Rattle.ready_deques.specs.Stolen.{MatchStolen}
use Rattle.ready_deques.proofs.Keeps.{all_taken}

abbrev pub account : ℕ → Owner → List Thief → Account
account n own thieves = record {
  number = n;
  deques = map (λ (f : Thief). f.deque) thieves;
  pushed = own.pushed;
  taken = set (map (λ (f : Thief). f.taken) thieves) n own.taken;
}

-- the list after the own ids grew by one
own_grows : (ts : List (List TheTask)) (n : ℕ) (ids : List TheTask) (id : TheTask) → n < length ts
    → set ts n (ids ++ id ∷ []) ≡ set (set ts n ids) n (get_or (set ts n ids) n [] ++ id ∷ [])
own_grows ts n ids id within =
    ap (λ xs. set ts n (xs ++ id ∷ [])) (sym (get_or-set_same ts n ids [] within)) ∙ sym (set-set ts n ids (get_or (set ts n ids) n [] ++ id ∷ []))

pub popped : (result : Option TheTask) (n : ℕ) (own own' : Owner) (thieves : List Thief) (E : Type 0) → n < length thieves
    → MatchOption result ((own' ≡ own) × E) (λ id. own' ≡ record own { taken = own.taken ++ id ∷ [] })
    → MatchOption result (account n own' thieves ≡ account n own thieves) (λ id. account n own' thieves ≡ after_take n (account n own thieves) id)
popped None n own own' thieves E within h = ap (λ o. account n o thieves) h.0
popped (Some id) n own own' thieves E within h =
    let grows = own_grows (map (λ (f : Thief). f.taken) thieves) n own.taken id (omega (arith, length-map thieves (λ (f : Thief). f.taken))) in
    ap (λ o. account n o thieves) h ∙ (λ i. record (account n own thieves) { taken = grows i })

pub same_deques : (thieves : List Thief) (from : ℕ) (f f' : Thief) → f ≡ get_or thieves from f → f'.deque ≡ f.deque
    → map (λ (x : Thief). x.deque) (set thieves from f') ≡ map (λ (x : Thief). x.deque) thieves
same_deques thieves from f f' here same = map-set_same (λ (x : Thief). x.deque) thieves from f' f (same ∙ ap (λ (x : Thief). x.deque) here)

pub keeps_deque : (result : Stolen) (f f' : Thief) (E : Type 0)
    → MatchStolen result (λ id. f' ≡ record f { taken = f.taken ++ id ∷ [] }) ((f' ≡ f) × E) → f'.deque ≡ f.deque
keeps_deque (Task id) f f' E h = ap (λ (x : Thief). x.deque) h
keeps_deque Empty f f' E h = ap (λ (x : Thief). x.deque) h.0

-- what an account took from another worker's deque is what the end took
taken_there : (n from : ℕ) (own : Owner) (thieves : List Thief) (f : Thief) → from ≢ n → from < length thieves → f ≡ get_or thieves from f
    → get_or (account n own thieves).taken from [] ≡ f.taken
taken_there n from own thieves f ne within here =
    get_or-set_other (map (λ (x : Thief). x.taken) thieves) n from own.taken [] ne
    ∙ (get_or-map (λ (x : Thief). x.taken) thieves from f [] within ∙ sym (ap (λ (x : Thief). x.taken) here))

pub stolen : (result : Stolen) (n from : ℕ) (own : Owner) (thieves : List Thief) (f f' : Thief) (E : Type 0)
    → from ≢ n → from < length thieves → f ≡ get_or thieves from f
    → MatchStolen result (λ id. f' ≡ record f { taken = f.taken ++ id ∷ [] }) ((f' ≡ f) × E)
    → MatchStolen result (λ id. account n own (set thieves from f') ≡ after_take from (account n own thieves) id)
    (account n own (set thieves from f') ≡ account n own thieves)
stolen (Task id) n from own thieves f f' E ne within here h =
    let ds = same_deques thieves from f f' here (ap (λ (x : Thief). x.deque) h) in
    let ts = map (λ (x : Thief). x.taken) thieves in
    let taken : set (map (λ (x : Thief). x.taken) (set thieves from f')) n own.taken
    ≡ set (set ts n own.taken) from (get_or (set ts n own.taken) from [] ++ id ∷ []) =
    ap (λ xs. set xs n own.taken) (map-set (λ (x : Thief). x.taken) thieves from f')
    ∙ (set_comm ts from n f'.taken own.taken ne
    ∙ ap (λ ids. set (set ts n own.taken) from ids)
    (ap (λ (x : Thief). x.taken) h ∙ ap (λ ids. ids ++ id ∷ [])
    (sym (taken_there n from own thieves f ne within here)))) in
    λ i. record (account n own thieves) { deques = ds i; taken = taken i }
stolen Empty n from own thieves f f' E ne within here h =
    ap (λ xs. account n own xs) (ap (λ x. set thieves from x) (h.0 ∙ here) ∙ set-get_or thieves from f)

pub stolen_empty : (result : Stolen) (n from : ℕ) (own : Owner) (thieves : List Thief) (f : Thief)
    (P : List TheTask → Type 0) (A : TheTask → Type 0) (B : Type 0)
    → from ≢ n → from < length thieves → f ≡ get_or thieves from f
    → MatchStolen result A (B × P f.taken)
    → MatchStolen result (λ _. ⊤) (P (get_or (account n own thieves).taken from []))
stolen_empty (Task id) n from own thieves f P A B ne within here h = tt
stolen_empty Empty n from own thieves f P A B ne within here h = subst P (sym (taken_there n from own thieves f ne within here)) h.1

-- the condition of a steal, said of the ends
pub another : (n from : ℕ) (own : Owner) (thieves : List Thief) (a : Account) → account n own thieves ≡ a
    → (from < length a.deques) × (from ≢ a.number) → (from ≢ n) × (from < length thieves)
another n from own thieves a is h =
    let other = subst (λ (x : Account). (from < length x.deques) × (from ≢ x.number)) (sym is) h in
    (other.1, subst (λ k. from < k) (length-map thieves (λ (x : Thief). x.deque)) other.0)

-- what an account took from its own deque is what the own end took
own_taken : (n : ℕ) (own : Owner) (thieves : List Thief) → n < length thieves → get_or (account n own thieves).taken n [] ≡ own.taken
own_taken n own thieves within =
    let there : n < length (map (λ (f : Thief). f.taken) thieves) = omega (arith, length-map thieves (λ (f : Thief). f.taken)) in
    get_or-set_same (map (λ (f : Thief). f.taken) thieves) n own.taken [] there

pub popped_empty : (result : Option TheTask) (n : ℕ) (own : Owner) (thieves : List Thief) (A : TheTask → Type 0) (B : Type 0)
    → n < length thieves → MatchOption result (B × WasEmpty own.parts own.pushed own.taken) A
    → IfNone result ((parts : ℕ) × WasEmpty parts own.pushed (get_or (account n own thieves).taken n []))
popped_empty None n own thieves A B within h = (own.parts, subst (WasEmpty own.parts own.pushed) (sym (own_taken n own thieves within)) h.1)
popped_empty (Some id) n own thieves A B within h = tt

-- in a team of one the own end has all parts
pub popped_alone : (result : Option TheTask) (n : ℕ) (own : Owner) (thieves : List Thief) (A : TheTask → Type 0) (B : Type 0)
    → n < length thieves → own.parts + length thieves ≡ 66 → MatchOption result (B × WasEmpty own.parts own.pushed own.taken) A
    → length (map (λ (f : Thief). f.deque) thieves) ≡ 1
    → IfNone result (AllTaken own.pushed (get_or (account n own thieves).taken n []))
popped_alone None n own thieves A B within parts h one =
    let all : own.parts ≡ 65 = omega (arith, parts, one, length-map thieves (λ (f : Thief). f.deque)) in
    subst (AllTaken own.pushed) (sym (own_taken n own thieves within)) (all_taken own.parts own.pushed own.taken all h.1)
popped_alone (Some id) n own thieves A B within parts h one = tt

-- the parts of the ends, after one of them changed and kept its parts
pub same_parts : (thieves : List Thief) (from : ℕ) (f f' : Thief) → f ≡ get_or thieves from f → f'.parts ≡ f.parts
    → map (λ (x : Thief). x.parts) (set thieves from f') ≡ map (λ (x : Thief). x.parts) thieves
same_parts thieves from f f' here same = map-set_same (λ (x : Thief). x.parts) thieves from f' f (same ∙ ap (λ (x : Thief). x.parts) here)

pub keeps_parts : (result : Stolen) (f f' : Thief) (E : Type 0)
    → MatchStolen result (λ id. f' ≡ record f { taken = f.taken ++ id ∷ [] }) ((f' ≡ f) × E) → f'.parts ≡ f.parts
keeps_parts (Task id) f f' E h = ap (λ (x : Thief). x.parts) h
keeps_parts Empty f f' E h = ap (λ (x : Thief). x.parts) h.0

-- an end of another deque has a part
pub has_part : (n from : ℕ) (thieves : List Thief) (f : Thief) → OthersHaveParts n thieves → from ≢ n
    → from < length thieves → f ≡ get_or thieves from f → f.parts ≡ 1
has_part n from thieves f others ne within here =
    let there : slice_get thieves from ≡ Some f = slice_get_read thieves (length thieves) from f refl within here in
    same_Some _ _ (sym (ap (option_map (λ (x : Thief). x.parts)) there) ∙ (sym (slice_get-map (λ (x : Thief). x.parts) thieves from) ∙ others from within ne))

-- the invariant of the ends holds after a thief's end changed and kept its deque and its parts
pub stay : (n from parts : ℕ) (deque : DequeId) (thieves : List Thief) (f f' : Thief) → f ≡ get_or thieves from f → f'.deque ≡ f.deque → f'.parts ≡ f.parts
    → (n < length thieves) × (parts + length thieves ≡ 66) × (slice_get (map (λ (x : Thief). x.deque) thieves) n ≡ Some deque) × OthersHaveParts n thieves
    → (n < length (set thieves from f')) × (parts + length (set thieves from f') ≡ 66)
    × (slice_get (map (λ (x : Thief). x.deque) (set thieves from f')) n ≡ Some deque)
    × OthersHaveParts n (set thieves from f')
stay n from parts deque thieves f f' here same kept h =
    let long = length-set thieves from f' in (
      omega arith,
      omega arith,
      ap (λ ds. slice_get ds n) (same_deques thieves from f f' here same) ∙ h.2,
      λ k within ne. ap (λ ps. slice_get ps k) (same_parts thieves from f f' here kept) ∙ h.3 k (omega (arith, within, long)) ne,
    )
