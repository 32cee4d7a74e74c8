-- The hands of a team of two are all of its hands, before and after they push and take.
use Rattle.std.proofs.Common.{◌≡◌, ◌≢◌, suc, zero, Some, List, [], ◌∷◌, ◌++◌, All, length, length-append, ap, sym, ◌∙◌, refl, arith}
use Rattle.std.specs.Prelude.{slice_get}
use Rattle.ready_deques.specs.Ends.{DequeId}
use Rattle.ready_deques.specs.Hands.{Account, AreFresh, AreTheOthers, SameWorker, fresh}

none_before : (before : List Account) (first last : Account) → length ((before ++ first ∷ []) ++ last ∷ []) ≡ 2 → before ≡ []
none_before [] first last two = refl
none_before (x ∷ before) first last two = absurd (omega (arith, two, length-append (before ++ first ∷ []) (last ∷ []), length-append before (first ∷ [])))

some_same : (a b : Account) → Some a ≡ Some b → a ≡ b
some_same a b same = cc

all_of_one : (P : Account → Type 0) (x : Account) → P x → All P (x ∷ [])
all_of_one P x holds zero d below = holds
all_of_one P x holds (suc k) d below = absurd (omega (arith, below))

-- the last of a team of two, and the one before it
pub of_two : (deques : List DequeId) (team before rest : List Account) (first last : Account)
    → AreFresh 2 deques team → team ≡ before ++ last ∷ [] → before ≡ rest ++ first ∷ []
    → AreTheOthers last (first ∷ [])
of_two deques team before rest first last made popped popped_again =
    let whole : team ≡ (rest ++ first ∷ []) ++ last ∷ [] = popped ∙ ap (λ b. b ++ last ∷ []) popped_again in
    let none = none_before rest first last (sym (ap length whole) ∙ made.all) in
    let two : team ≡ first ∷ last ∷ [] = whole ∙ ap (λ r. (r ++ first ∷ []) ++ last ∷ []) none in
    let is_first : first ≡ fresh deques 0 = some_same _ _ (sym (ap (λ t. slice_get t 0) two) ∙ made.each 0 (omega arith)) in
    let is_last : last ≡ fresh deques 1 = some_same _ _ (sym (ap (λ t. slice_get t 1) two) ∙ made.each 1 (omega arith)) in
    let number_first : first.number ≡ 0 = ap (λ (a : Account). a.number) is_first in
    let number_last : last.number ≡ 1 = ap (λ (a : Account). a.number) is_last in
    let deques_first : first.deques ≡ deques = ap (λ (a : Account). a.deques) is_first in
    let deques_last : last.deques ≡ deques = ap (λ (a : Account). a.deques) is_last in
    let differ : first.number ≢ last.number = λ same. absurd (omega (arith, same, number_first, number_last)) in
    record {
      shared = all_of_one (λ o. o.deques ≡ last.deques) first (deques_first ∙ sym deques_last);
      apart = all_of_one (λ o. o.number ≢ last.number) first differ;
      all = sym (ap length deques_last ∙ made.one_for_each);
    }

-- after pushes and takes they are still all hands
pub stay_others : (a b o p : Account) → AreTheOthers a (o ∷ []) → SameWorker a b → SameWorker o p → AreTheOthers b (p ∷ [])
stay_others a b o p before same same_other =
    let apart_before : o.number ≢ a.number = before.apart 0 o (omega arith) in
    let differ : p.number ≢ b.number = λ e. apart_before (sym same_other.0 ∙ e ∙ same.0) in
    record {
      shared = all_of_one (λ q. q.deques ≡ b.deques) p (same_other.1 ∙ before.shared 0 o (omega arith) ∙ sym same.1);
      apart = all_of_one (λ q. q.number ≢ b.number) p differ;
      all = before.all ∙ ap length (sym same.1);
    }

-- two steps that each keep the worker and the deques keep them together
pub same_still : (a b c : Account) → SameWorker a b → SameWorker b c → SameWorker a c
same_still a b c first then = (then.0 ∙ first.0, then.1 ∙ first.1)
