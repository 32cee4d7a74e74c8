-- The running tasks among claimed ones, as tasks are claimed and end.
use Rattle.std.proofs.Common.{◌≡◌, suc, ◌+◌, ◌≤◌, Bool, true, false, cond, is_some, List, [], ◌∷◌, ◌++◌, length, refl}
use Rattle.std.proofs.Common.{ap, sym, ◌∙◌, subst, Option, Some, None, inl, inr, arith}
use Rattle.std.proofs.lemmas.Bool.{false≢true}
use Rattle.std.specs.List.{filter}
use Rattle.std.specs.Map.{keys_of, lookup, set_value}
use Rattle.ptg_base.specs.Lists.{IsIn}
use Rattle.ptg_base.specs.Task.{Task}
use Rattle.ptg_base.specs.TaskComparing.{same_task}
use Rattle.ptg_base.specs.TaskLaws.{same_task-decides}
use Rattle.list_lemmas.proofs.Truth.{by_test}
use Rattle.list_lemmas.proofs.Counts.{count-some}
use Rattle.list_lemmas.specs.Counting.{as_number, count}
use Rattle.flow_meaning.specs.Ending.{Ended}
use Rattle.flow_core.specs.OneThread.{ended_among, running_among}

abbrev Claims : Type 0
Claims = List (Task × Option Ended)

-- each task occurs at most once
abbrev pub Once : List Task → Type 0
Once ts = (t : Task) → count (same_task t) ts ≤ 1

same_length : (c : Task × Option Ended) (b : Bool) (xs ys : Claims) → length xs ≡ length ys → length (cond b (c ∷ xs) xs) ≡ length (cond b (c ∷ ys) ys)
same_length c true xs ys e = ap suc e
same_length c false xs ys e = e

pub ended_push : (cs : Claims) (t : Task) → ended_among (cs ++ (t, None) ∷ []) ≡ ended_among cs
ended_push [] t = refl
ended_push (c ∷ cs) t =
    same_length c (is_some c.1) (filter (λ (d : Task × Option Ended). is_some d.1) (cs ++ (t, None) ∷ []))
    (filter (λ (d : Task × Option Ended). is_some d.1) cs) (ended_push cs t)

-- each claimed task is running or has ended
pub counted_among : (cs : Claims) → ended_among cs + length (running_among cs) ≡ length (keys_of cs)
counted_among [] = refl
counted_among ((t, None) ∷ cs) = omega (arith, counted_among cs)
counted_among ((t, Some end) ∷ cs) = omega (arith, counted_among cs)

-- a running task is a claimed one
pub running_key : (cs : Claims) (t : Task) → IsIn t (running_among cs) → IsIn t (keys_of cs)
running_key [] t i = i
running_key ((s, None) ∷ cs) t i = elim i [ inl e ↦ inl e | inr k ↦ inr (running_key cs t k) ]
running_key ((s, Some end) ∷ cs) t i = inr (running_key cs t i)

pub marked_running : (cs : Claims) (t : Task) → lookup (same_task t) cs ≡ Some None → IsIn t (running_among cs)
marked_running [] t h = absurd cc
marked_running ((s, None) ∷ cs) t h =
    by_test (same_task t s)
    (λ k. inl ((same_task-decides t s).0 k))
    (λ k. inr (marked_running cs t (sym (ap (λ b. cond b (Some None) (lookup (same_task t) cs)) k) ∙ h)))
marked_running ((s, Some end) ∷ cs) t h =
    by_test (same_task t s)
    (λ k. let no : Some (Some end) ≡ Some None = sym (ap (λ b. cond b (Some (Some end)) (lookup (same_task t) cs)) k) ∙ h in absurd cc)
    (λ k. marked_running cs t (sym (ap (λ b. cond b (Some (Some end)) (lookup (same_task t) cs)) k) ∙ h))

-- a task at the head of claims without repeats is not among the others
not_again : (cs : List Task) (s t : Task) → Once (s ∷ cs) → same_task t s ≡ true → IsIn t cs → ⊥
not_again cs s t once k i =
    let more = count-some (same_task t) cs t i ((same_task-decides t t).1 refl) in
    let most = once t in
    absurd (omega (arith, ap as_number k))

fewer : (cs : List Task) (s : Task) → Once (s ∷ cs) → Once cs
fewer cs s once = λ t. let most = once t in omega arith

pub running_mark : (cs : Claims) (t : Task) → Once (keys_of cs) → IsIn t (running_among cs) → lookup (same_task t) cs ≡ Some None
running_mark [] t once i = absurd i
running_mark ((s, None) ∷ cs) t once i =
    by_test (same_task t s)
    (λ k. ap (λ b. cond b (Some None) (lookup (same_task t) cs)) k)
    (λ k. ap (λ b. cond b (Some None) (lookup (same_task t) cs)) k
    ∙ running_mark cs t (fewer (keys_of cs) s once) (elim i [ inl e ↦ absurd (false≢true (sym k ∙ (same_task-decides t s).1 e)) | inr j ↦ j ]))
running_mark ((s, Some end) ∷ cs) t once i =
    by_test (same_task t s)
    (λ k. absurd (not_again (keys_of cs) s t once k (running_key cs t i)))
    (λ k. ap (λ b. cond b (Some (Some end)) (lookup (same_task t) cs)) k ∙ running_mark cs t (fewer (keys_of cs) s once) i)

pub last_in : (ys : List Task) (t : Task) → IsIn t (ys ++ t ∷ [])
last_in [] t = inl refl
last_in (y ∷ ys) t = inr (last_in ys t)

not_empty : (ys : List Task) (t : Task) → [] ≡ ys ++ t ∷ [] → ⊥
not_empty [] t e = cc
not_empty (y ∷ ys) t e = cc

-- the last running task, at the head of the claims or further on
ends_here : (cs : Claims) (s t : Task) (ys : List Task) → Once (s ∷ keys_of cs) → s ∷ running_among cs ≡ ys ++ t ∷ []
    → same_task t s ≡ true → running_among cs ≡ ys
ends_here cs s t [] once e k = cc
ends_here cs s t (y ∷ ys) once e k =
    let rest : running_among cs ≡ ys ++ t ∷ [] = cc in
    absurd (not_again (keys_of cs) s t once k (running_key cs t (subst (IsIn t) (sym rest) (last_in ys t))))

ends_later : (running : List Task) (s t : Task) (ys left : List Task) → s ∷ running ≡ ys ++ t ∷ []
    → same_task t s ≡ false → ((zs : List Task) → running ≡ zs ++ t ∷ [] → left ≡ zs) → s ∷ left ≡ ys
ends_later running s t [] left e k h = let same : t ≡ s = cc in absurd (false≢true (sym k ∙ (same_task-decides t s).1 same))
ends_later running s t (y ∷ ys) left e k h =
    let first : s ≡ y = cc in
    let rest : running ≡ ys ++ t ∷ [] = cc in
    ap (λ l. s ∷ l) (h ys rest) ∙ ap (λ x. x ∷ ys) first

-- the last running task ends
pub running_set : (cs : Claims) (t : Task) (end : Ended) (ys : List Task) → Once (keys_of cs)
    → running_among cs ≡ ys ++ t ∷ [] → running_among (set_value (same_task t) cs (Some end)) ≡ ys
running_set [] t end ys once e = absurd (not_empty ys t e)
running_set ((s, None) ∷ cs) t end ys once e =
    by_test (same_task t s)
    (λ k. ap (λ b. running_among (cond b ((s, Some end) ∷ cs) ((s, None) ∷ set_value (same_task t) cs (Some end)))) k ∙ ends_here cs s t ys once e k)
    (λ k. ap (λ b. running_among (cond b ((s, Some end) ∷ cs) ((s, None) ∷ set_value (same_task t) cs (Some end)))) k
    ∙ ends_later (running_among cs) s t ys (running_among (set_value (same_task t) cs (Some end))) e k
    (λ zs q. running_set cs t end zs (fewer (keys_of cs) s once) q))
running_set ((s, Some old) ∷ cs) t end ys once e =
    by_test (same_task t s)
    (λ k. absurd (not_again (keys_of cs) s t once k (running_key cs t (subst (IsIn t) (sym e) (last_in ys t)))))
    (λ k. ap (λ b. running_among (cond b ((s, Some end) ∷ cs) ((s, Some old) ∷ set_value (same_task t) cs (Some end))))
    k ∙ running_set cs t end ys (fewer (keys_of cs) s once) e)

pub ended_set : (cs : Claims) (t : Task) (end : Ended) → lookup (same_task t) cs ≡ Some None
    → ended_among (set_value (same_task t) cs (Some end)) ≡ ended_among cs + 1
ended_set [] t end h = absurd cc
ended_set ((s, None) ∷ cs) t end h =
    by_test (same_task t s)
    (λ k. ap (λ b. ended_among (cond b ((s, Some end) ∷ cs) ((s, None) ∷ set_value (same_task t) cs (Some end)))) k ∙ omega arith)
    (λ k. ap (λ b. ended_among (cond b ((s, Some end) ∷ cs) ((s, None) ∷ set_value (same_task t) cs (Some end)))) k
    ∙ ended_set cs t end (sym (ap (λ b. cond b (Some None) (lookup (same_task t) cs)) k) ∙ h))
ended_set ((s, Some old) ∷ cs) t end h =
    by_test (same_task t s)
    (λ k. let no : Some (Some old) ≡ Some None = sym (ap (λ b. cond b (Some (Some old)) (lookup (same_task t) cs)) k) ∙ h in absurd cc)
    (λ k.
    let rest = ended_set cs t end (sym (ap (λ b. cond b (Some (Some old)) (lookup (same_task t) cs)) k) ∙ h) in
    ap (λ b. ended_among (cond b ((s, Some end) ∷ cs) ((s, Some old) ∷ set_value (same_task t) cs (Some end)))) k ∙ omega (arith, rest))
