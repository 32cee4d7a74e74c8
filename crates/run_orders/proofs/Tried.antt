-- Which tasks run after a claim, an end or a send.
use Rattle.std.proofs.Common.{◌≡◌, Bool, true, false, cond, List, [], ◌∷◌, ◌++◌, ap, sym, ◌∙◌, subst, ◌⊎◌, Option, Some}
use Rattle.std.proofs.Common.{None, Result, Ok, Err, IfOk, OnErr, inl, inr}
use Rattle.std.specs.Map.{lookup, set_value}
use Rattle.ptg_base.specs.Lists.{IsIn}
use Rattle.ptg_base.specs.Task.{Task}
use Rattle.ptg_base.specs.TaskComparing.{same_task}
use Rattle.ptg_base.specs.TaskLaws.{same_task-decides}
use Rattle.ptg_base.specs.declared.edge.Item.{Item}
use Rattle.list_lemmas.proofs.Members.{IsIn-append_left, IsIn-append_right}
use Rattle.list_lemmas.proofs.Truth.{by_test}
use Rattle.flow_meaning.specs.Ending.{Ended}
use Rattle.flow_core.specs.RunState.{IsRunning, RunState, with_claim, with_end, with_send}

abbrev Claims : Type 0
Claims = List (Task × Option Ended)

abbrev Runs : Claims → Task → Type 0
Runs cs u = lookup (same_task u) cs ≡ Some None

-- a task that runs after a claim ran before, or is the claimed one
runs_before : (cs : Claims) (t u : Task) → Runs (cs ++ (t, None) ∷ []) u → Runs cs u ⊎ (u ≡ t)
runs_before [] t u h =
    by_test (same_task u t)
    (λ k. inr ((same_task-decides u t).0 k))
    (λ k. inl (sym (ap (λ b. cond b (Some None) None) k) ∙ h))
runs_before (c ∷ cs) t u h =
    by_test (same_task u c.0)
    (λ k. inl (ap (λ b. cond b (Some c.1) (lookup (same_task u) cs)) k ∙ sym (ap (λ b. cond b (Some c.1) (lookup (same_task u) (cs ++ (t, None) ∷ []))) k) ∙ h))
    (λ k. elim (runs_before cs t u (sym (ap (λ b. cond b (Some c.1) (lookup (same_task u) (cs ++ (t, None) ∷ []))) k) ∙ h)) [
      | inl runs ↦ inl (ap (λ b. cond b (Some c.1) (lookup (same_task u) cs)) k ∙ runs)
      | inr same ↦ inr same
    ])

-- a task that runs after another has ended ran before
ran_before : (cs : Claims) (t u : Task) (end : Ended) → Runs (set_value (same_task t) cs (Some end)) u → Runs cs u
ran_before [] t u end h = h
ran_before (c ∷ cs) t u end h =
    by_test (same_task t c.0)
    (λ k.
    let now : cond (same_task u c.0) (Some (Some end)) (lookup (same_task u) cs)
    ≡ Some None = sym (ap (λ b. lookup (same_task u) (cond b ((c.0, Some end) ∷ cs)
    (c ∷ set_value (same_task t) cs (Some end)))) k) ∙ h in
    by_test (same_task u c.0)
    (λ q. let no : Some (Some end) ≡ Some None = sym (ap (λ b. cond b (Some (Some end)) (lookup (same_task u) cs)) q) ∙ now in absurd cc)
    (λ q. ap (λ b. cond b (Some c.1) (lookup (same_task u) cs)) q ∙ sym (ap (λ b. cond b (Some (Some end)) (lookup (same_task u) cs)) q) ∙ now))
    (λ k.
    let now : cond (same_task u c.0) (Some c.1) (lookup (same_task u) (set_value (same_task t) cs (Some end)))
    ≡ Some None = sym (ap (λ b. lookup (same_task u) (cond b ((c.0, Some end) ∷ cs)
    (c ∷ set_value (same_task t) cs (Some end)))) k) ∙ h in
    by_test (same_task u c.0)
    (λ q. ap (λ b. cond b (Some c.1) (lookup (same_task u) cs)) q
    ∙ sym (ap (λ b. cond b (Some c.1) (lookup (same_task u) (set_value (same_task t) cs (Some end)))) q) ∙ now)
    (λ q. ap (λ b. cond b (Some c.1) (lookup (same_task u) cs)) q
    ∙ ran_before cs t u end (sym (ap (λ b. cond b (Some c.1)
    (lookup (same_task u) (set_value (same_task t) cs (Some end)))) q) ∙ now)))

-- each running task is one of these
abbrev RunAmong : RunState → List Task → Type 0
RunAmong r ts = (u : Task) → IsRunning r u → IsIn u ts

claimed_among : (r : RunState) (t : Task) (ts : List Task) (b : Bool) → RunAmong r ts → RunAmong (cond b (with_claim t r) r) (ts ++ t ∷ [])
claimed_among r t ts true among u h =
    elim (runs_before r.claims t u h) [
      | inl runs ↦ IsIn-append_left u ts (t ∷ []) (among u runs)
      | inr same ↦ IsIn-append_right u ts (t ∷ []) (inl same)
    ]
claimed_among r t ts false among u h = IsIn-append_left u ts (t ∷ []) (among u h)

pub after_claim : {E : Type 0} (r s : RunState) (t : Task) (ts us : List Task) (claimed : Result Bool E) → us ≡ ts ++ t ∷ []
    → IfOk claimed (λ b. s ≡ cond b (with_claim t r) r) → OnErr claimed (s ≡ r) → RunAmong r ts → RunAmong s us
after_claim r s t ts us (Ok b) tried ok err among =
    subst (λ l. RunAmong s l) (sym tried) (subst (λ x. RunAmong x (ts ++ t ∷ [])) (sym ok) (claimed_among r t ts b among))
after_claim r s t ts us (Err e) tried ok err among =
    subst (λ l. RunAmong s l) (sym tried) (subst (λ x. RunAmong x (ts ++ t ∷ [])) (sym err) (λ u h. IsIn-append_left u ts (t ∷ []) (among u h)))

pub after_end : (r s : RunState) (t : Task) (end : Ended) (ts : List Task) → s ≡ with_end t end r → RunAmong r ts → RunAmong s ts
after_end r s t end ts is among = subst (λ x. RunAmong x ts) (sym is) (λ u h. among u (ran_before r.claims t u end h))

sent_among : (r : RunState) (i : Item) (ts : List Task) (b : Bool) → RunAmong r ts → RunAmong (cond b (with_send i r) r) ts
sent_among r i ts true among u h = among u h
sent_among r i ts false among u h = among u h

pub after_send : {E : Type 0} (r s : RunState) (i : Item) (ts : List Task) (sent : Result Bool E)
    → IfOk sent (λ b. s ≡ cond b (with_send i r) r) → OnErr sent (s ≡ r) → RunAmong r ts → RunAmong s ts
after_send r s i ts (Ok b) ok err among = subst (λ x. RunAmong x ts) (sym ok) (sent_among r i ts b among)
after_send r s i ts (Err e) ok err among = subst (λ x. RunAmong x ts) (sym err) among
