-- A walk has at most one first fault.
use Rattle.std.proofs.Common.{◌≡◌, ℕ, ◌+◌, List, [], ◌∷◌, ◌++◌, refl, sym, ◌∙◌, subst, arith}
use Rattle.range_space.specs.declared.fault.SpaceFault.{SpaceFault}
use Rattle.range_space.specs.Walk.{Visit, Prefix, Task, NoValue, task_count, prefix_count, IsUnstopped, StopsAt, IsFirstFault}

-- one visit has at most one fault
same_stop : (t p u q : ℕ) (v : Visit) (f g : SpaceFault) → StopsAt t p v f → StopsAt u q v g → f ≡ g
same_stop t p u q (NoValue c vs) f g h k = h ∙ sym k
same_stop t p u q (Task c) f g h k = h.1 ∙ sym k.1
same_stop t p u q (Prefix c) f g h k = h.1 ∙ sym k.1

-- nothing stops an unstopped walk at its first visit
not_first : (t p u q : ℕ) (v : Visit) (vs : List Visit) (f : SpaceFault) → u ≡ t → q ≡ p → IsUnstopped t p (v ∷ vs) → StopsAt u q v f → ⊥
not_first t p u q (NoValue c ws) vs f e i w s = w.all_have_values
not_first t p u q (Task c) vs f e i w s = let a = w.tasks_at_most in let b = s.0 in omega arith
not_first t p u q (Prefix c) vs f e i w s = let a = w.prefixes_at_most in let b = s.0 in omega arith

-- what is left after the first visit of an unstopped walk

unstopped_rest : (t p : ℕ) (v : Visit) (vs : List Visit) → IsUnstopped t p (v ∷ vs) → IsUnstopped (t + task_count (v ∷ [])) (p + prefix_count (v ∷ [])) vs
unstopped_rest t p (NoValue c ws) vs w = absurd w.all_have_values
unstopped_rest t p (Task c) vs w =
    let a = w.tasks_at_most in let b = w.prefixes_at_most in record
    { all_have_values = w.all_have_values; tasks_at_most = omega arith; prefixes_at_most = omega arith }
unstopped_rest t p (Prefix c) vs w =
    let a = w.tasks_at_most in let b = w.prefixes_at_most in record
    { all_have_values = w.all_have_values; tasks_at_most = omega arith; prefixes_at_most = omega arith }

count_rest : (v : Visit) (vs : List Visit) → (task_count (v ∷ vs) ≡ task_count (v ∷ []) + task_count vs)
    × (prefix_count (v ∷ vs) ≡ prefix_count (v ∷ []) + prefix_count vs)
count_rest (NoValue c ws) vs = (omega arith, omega arith)
count_rest (Task c) vs = (omega arith, omega arith)
count_rest (Prefix c) vs = (omega arith, omega arith)

-- if one walk is cut at two visits, each the first that stops it, the faults are the same
same_first : (xs ys : List Visit) (v w : Visit) (vs ws : List Visit) (f g : SpaceFault) (t p t' p' u q : ℕ)
    → t' ≡ t + task_count xs → p' ≡ p + prefix_count xs → u ≡ t + task_count ys → q ≡ p + prefix_count ys
    → xs ++ v ∷ vs ≡ ys ++ w ∷ ws → IsUnstopped t p xs → IsUnstopped t p ys → StopsAt t' p' v f → StopsAt u q w g
    → f ≡ g
same_first [] [] v w vs ws f g t p t' p' u q a b c d e h k s r =
    let same : v ≡ w = cc in
    same_stop t' p' u q w f g (subst (λ (z : Visit). StopsAt t' p' z f) same s) r
same_first [] (y ∷ ys) v w vs ws f g t p t' p' u q a b c d e h k s r =
    let same : v ≡ y = cc in
    absurd (not_first t p t' p' y ys f (omega arith) (omega arith) k (subst (λ (z : Visit). StopsAt t' p' z f) same s))
same_first (x ∷ xs) [] v w vs ws f g t p t' p' u q a b c d e h k s r =
    let same : w ≡ x = cc in
    absurd (not_first t p u q x xs g (omega arith) (omega arith) h (subst (λ (z : Visit). StopsAt u q z g) same r))
same_first (x ∷ xs) (y ∷ ys) v w vs ws f g t p t' p' u q a b c d e h k s r =
    let same : y ≡ x = cc in
    let m = count_rest x xs in
    let n = count_rest x ys in
    let k' : IsUnstopped t p (x ∷ ys) = subst (λ (z : Visit). IsUnstopped t p (z ∷ ys)) same k in
    let c' : u ≡ t + task_count (x ∷ ys) = subst (λ (z : Visit). u ≡ t + task_count (z ∷ ys)) same c in
    let d' : q ≡ p + prefix_count (x ∷ ys) = subst (λ (z : Visit). q ≡ p + prefix_count (z ∷ ys)) same d in
    let m0 = m.0 in
    let m1 = m.1 in
    let n0 = n.0 in
    let n1 = n.1 in
    same_first xs ys v w vs ws f g (t + task_count (x ∷ [])) (p + prefix_count (x ∷ [])) t' p' u q (omega arith)
    (omega arith) (omega arith) (omega arith) (cc) (unstopped_rest t p x xs h) (unstopped_rest t p x ys k') s r

pub one_fault : (t p : ℕ) (vs : List Visit) (f g : SpaceFault) → IsFirstFault t p vs f → IsFirstFault t p vs g → f ≡ g
one_fault t p vs f g h k = same_first h.before k.before h.visit k.visit h.rest k.rest f g t p _ _ _ _ refl refl refl
    refl (sym h.split ∙ k.split) h.unstopped k.unstopped h.stops k.stops
