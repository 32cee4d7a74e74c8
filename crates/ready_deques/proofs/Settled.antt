-- What is known once all ends of a deque are together.
use Rattle.std.proofs.Common.{◌≡◌, ℕ, zero, suc, ◌+◌, ◌<◌, ◌≤◌, List, [], ◌∷◌, ◌++◌, length, map, get_or, sum_by, Some, sym, ap, subst, ◌∙◌, arith}
use Rattle.std.specs.Prelude.{slice_get}
use Rattle.std.proofs.lemmas.List.{length-map, get_or-set_same}
use Rattle.std.proofs.lemmas.List.Sums.{sum_by-cons}
use Rattle.ptg_base.specs.Task.{Task}
use Rattle.ready_deques.specs.Ends.{Owner, Thief}
use Rattle.ready_deques.specs.Rule.{times}
use Rattle.ready_deques.specs.Hands.{Account, taken_from}
use Rattle.ready_deques.proofs.Keeps.{times-append}
use Rattle.ready_deques.proofs.Accounts.{account}

pub thief_deque : (thieves : List Thief) (worker : ℕ) (f : Thief) → worker < length thieves
    → f ≡ get_or thieves worker f → slice_get (map (λ (x : Thief). x.deque) thieves) worker ≡ Some f.deque
thief_deque [] worker f within here = absurd (omega arith)
thief_deque (x ∷ thieves) zero f within here = ap (λ (y : Thief). Some y.deque) (sym here)
thief_deque (x ∷ thieves) (suc worker) f within here = thief_deque thieves worker f (omega arith) here

pub has_thief : (n : ℕ) (own : Owner) (thieves : List Thief) (a : Account) (worker : ℕ) → account n own thieves ≡ a
    → worker < length a.deques → worker < length thieves
has_thief n own thieves a worker is within =
    let long : length (map (λ (x : Thief). x.deque) thieves) ≡ length a.deques = ap (λ (x : Account). length x.deques) is in
    omega (arith, length-map thieves (λ (x : Thief). x.deque))

-- one more end is taken over
pub gathered : (id : Task) (worker total : ℕ) (taken taken' more : List Task) (rest rest' : List Account) (o : Account)
    → rest ≡ o ∷ rest' → more ≡ taken_from worker o → taken' ≡ taken ++ more
    → times id taken + sum_by (λ x. times id (taken_from worker x)) rest ≡ total
    → times id taken' + sum_by (λ x. times id (taken_from worker x)) rest' ≡ total
gathered id worker total taken taken' more rest rest' o step is longer sum =
    let f : Account → ℕ = λ x. times id (taken_from worker x) in
    let t : times id taken' ≡ times id taken + times id more = ap (times id) longer ∙ times-append id taken more in
    let m : times id more ≡ f o = ap (times id) is in
    let s : sum_by f rest ≡ f o + sum_by f rest' = ap (sum_by f) step ∙ sum_by-cons f o rest' in
    omega arith

-- all ends are taken over
pub gathered_all : (id : Task) (worker total : ℕ) (taken : List Task) (rest : List Account) → length rest ≡ 0
    → times id taken + sum_by (λ x. times id (taken_from worker x)) rest ≡ total → times id taken ≡ total
gathered_all id worker total taken [] none sum = omega arith
gathered_all id worker total taken (x ∷ rest) none sum = absurd (omega arith)

-- what was taken is at most what was pushed, also with the slot of the end
pub settled : (id : Task) (n : ℕ) (own end : Owner) (thieves : List Thief) (a : Account) (others : List Account)
    (taken' pushed : List Task) → account n own thieves ≡ a → n < length thieves
    → times id own.taken + times id end.pushed ≤ times id own.pushed + times id end.taken
    → times id taken' ≡ times id end.taken + sum_by (λ o. times id (taken_from n o)) others
    → pushed ≡ end.pushed → times id taken' ≤ times id pushed
    → sum_by (λ o. times id (taken_from a.number o)) (a ∷ others) ≤ times id a.pushed
settled id n own end thieves a others taken' pushed is within slotted all same bounded =
    subst (λ (x : Account). sum_by (λ o. times id (taken_from x.number o)) (x ∷ others) ≤ times id x.pushed) is
    (let f : Account → ℕ = λ o. times id (taken_from n o) in
    let ts = map (λ (x : Thief). x.taken) thieves in
    let there : n < length ts = omega (arith, length-map thieves (λ (x : Thief). x.taken)) in
    let mine : f (account n own thieves) ≡ times id own.taken =
    ap (times id) (get_or-set_same ts n own.taken [] there) in
    let p : times id pushed ≡ times id end.pushed = ap (times id) same in
    omega (arith, sum_by-cons f (account n own thieves) others))
