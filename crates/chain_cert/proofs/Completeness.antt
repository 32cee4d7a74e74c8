-- A list of tasks has no repeats, or a task that occurs twice with no repeats between.
use Rattle.std.proofs.Common.{◌≡◌, List, [], ◌∷◌, ◌++◌, ap, sym, subst, ◌⊎◌, inl, inr}
use Rattle.ptg_base.specs.Lists.{HasNoRepeats, IsIn}
use Rattle.ptg_base.specs.Task.{Task}
use Rattle.list_lemmas.proofs.Distinct.{HasNoRepeats-left}
use Rattle.list_lemmas.proofs.Tasks.{member_or_not}

-- a list, split at the first occurrence of a task
first_place : (t : Task) (xs : List Task) → IsIn t xs → (before : List Task) × (after : List Task) × (xs ≡ before ++ t ∷ after) × (IsIn t before → ⊥)
first_place t [] i = absurd i
first_place t (x ∷ xs) i = elim (member_or_not t (x ∷ [])) [
  | inl here ↦ elim here [ inl e ↦ ([], xs, ap (λ u. u ∷ xs) (sym e), (λ j. j)) | inr never ↦ absurd never ]
  | inr other ↦ elim i [
    | inl e ↦ absurd (other (inl e))
    | inr later ↦
        let p = first_place t xs later in
        (x ∷ p.0, p.1, ap (λ l. x ∷ l) p.2, (λ j. elim j [ inl e ↦ other (inl e) | inr k ↦ p.3 k ]))
  ]
]

-- a list in which a task occurs twice, with no repeats between
pub record Repeats (xs : List Task) : Type 0 where
  pub before : List Task
  pub twice : Task
  pub between : List Task
  pub after : List Task
  pub split : xs ≡ before ++ twice ∷ (between ++ twice ∷ after)
  pub once : HasNoRepeats (twice ∷ between)

pub repeats_or_not : (xs : List Task) → HasNoRepeats xs ⊎ Repeats xs
repeats_or_not [] = inl tt
repeats_or_not (x ∷ xs) = elim (repeats_or_not xs) [
  | inr r ↦ inr (record { before = x ∷ r.before; twice = r.twice; between = r.between; after = r.after; split = ap (λ l. x ∷ l) r.split; once = r.once })
  | inl once ↦ elim (member_or_not x xs) [
    | inr new ↦ inl (new, once)
    | inl i ↦
        let p = first_place x xs i in
        inr (record {
          before = [];
          twice = x;
          between = p.0;
          after = p.1;
          split = ap (λ l. x ∷ l) p.2;
          once = (p.3, HasNoRepeats-left p.0 (x ∷ p.1) (subst HasNoRepeats p.2 once));
        })
  ]
]
