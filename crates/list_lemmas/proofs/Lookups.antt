-- What look-ups by task find in a list after a write, and tests of different tasks.
use Rattle.std.proofs.Common.{◌≡◌, Bool, true, false, cond, List, [], ◌∷◌, ap, refl, sym, ◌∙◌, Some}
use Rattle.std.proofs.lemmas.Bool.{false≢true, false_from_ne_true}
use Rattle.std.specs.Map.{lookup, set_value}
use Rattle.ptg_base.specs.Task.{Task}
use Rattle.ptg_base.specs.TaskComparing.{same_task}
use Rattle.ptg_base.specs.TaskLaws.{same_task-decides}
use Rattle.list_lemmas.proofs.Truth.{by_test}

module _ {X : Type 0} where
  -- a write under one key changes no look-up of another
  pub set_other : (test other : Task → Bool) → ((k : Task) → test k ≡ true → other k ≡ false) → (es : List (Task × X))
      (x : X) → lookup other (set_value test es x) ≡ lookup other es
  set_other test other apart [] x = refl
  set_other test other apart (e ∷ es) x =
      by_test (test e.0)
      (λ k.
      let none = apart e.0 k in
      ap (λ b. lookup other (cond b ((e.0, x) ∷ es) (e ∷ set_value test es x))) k
      ∙ ap (λ b. cond b (Some x) (lookup other es)) none
      ∙ sym (ap (λ b. cond b (Some e.1) (lookup other es)) none))
      (λ k. ap (λ b. lookup other (cond b ((e.0, x) ∷ es) (e ∷ set_value test es x))) k
      ∙ ap (λ o. cond (other e.0) (Some e.1) o) (set_other test other apart es x))

  -- a look-up finds what was written under its key
  pub set_same : (test : Task → Bool) (es : List (Task × X)) (old x : X) → lookup test es ≡ Some old
      → lookup test (set_value test es x) ≡ Some x
  set_same test [] old x h = absurd cc
  set_same test (e ∷ es) old x h =
      by_test (test e.0)
      (λ k. ap (λ b. lookup test (cond b ((e.0, x) ∷ es) (e ∷ set_value test es x))) k ∙ ap (λ b. cond b (Some x) (lookup test es)) k)
      (λ k.
      let rest = set_same test es old x (sym (ap (λ b. cond b (Some e.1) (lookup test es)) k) ∙ h) in
      ap (λ b. lookup test (cond b ((e.0, x) ∷ es) (e ∷ set_value test es x))) k ∙ ap (λ b. cond b (Some e.1) (lookup test (set_value test es x))) k ∙ rest)

-- no task is the same as two different ones
pub apart : (t u : Task) → same_task t u ≡ false → (k : Task) → same_task t k ≡ true → same_task u k ≡ false
apart t u h k e =
    false_from_ne_true (same_task u k) (λ q.
    let one : t ≡ u = (same_task-decides t k).0 e ∙ sym ((same_task-decides u k).0 q) in
    false≢true (sym h ∙ (same_task-decides t u).1 one))

-- being different is symmetric
pub turned : (t u : Task) → same_task t u ≡ false → same_task u t ≡ false
turned t u h = false_from_ne_true (same_task u t) (λ k. false≢true (sym h ∙ (same_task-decides t u).1 (sym ((same_task-decides u t).0 k))))
