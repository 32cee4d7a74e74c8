-- Walks over the tasks of a job, in walk order.
use Rattle.std.proofs.Common.{◌≡◌, List, [], ◌∷◌, ◌++◌, refl, sym, ◌∙◌, subst, inl, append_assoc}
use Rattle.std.proofs.lemmas.List.{append-nil}
use Rattle.ptg_base.specs.Lists.{IsIn}
use Rattle.ptg_base.specs.Task.{Task}
use Rattle.list_lemmas.proofs.Members.{IsIn-append_right}
use Rattle.plan_core.specs.declared.plan.Plan.{Plan}
use Rattle.dep_iter.specs.Tasks.{IsTask, all_tasks}
use Rattle.dep_iter.proofs.CallerLemmas.{listed}

-- How far a walk over all tasks has come: what holds of the tasks that it has passed.
pub record IsSoFar (P : Plan) (Q : List Task → Type 0) (rest : List Task) : Type 0 where
  pub passed : List Task
  pub split : all_tasks P ≡ passed ++ rest
  pub holds : Q passed

module _ (P : Plan) where
  pub begun : (Q : List Task → Type 0) → Q [] → IsSoFar P Q (all_tasks P)
  begun Q none = record { passed = []; split = refl; holds = none }

  -- the next task is one of the job
  pub next_task : (Q : List Task → Type 0) (t : Task) (rest : List Task) → IsSoFar P Q (t ∷ rest) → IsTask P t
  next_task Q t rest w = (listed P t).1 (subst (IsIn t) (sym w.split) (IsIn-append_right t w.passed (t ∷ rest) (inl refl)))

  pub one_more : (Q R : List Task → Type 0) (t : Task) (rest : List Task) → ((ts : List Task) → Q ts → R (ts ++ t ∷ []))
      → IsSoFar P Q (t ∷ rest) → IsSoFar P R rest
  one_more Q R t rest more w = record {
    passed = w.passed ++ t ∷ [];
    split = w.split
        ∙ sym (append_assoc w.passed (t ∷ []) rest);
    holds = more w.passed w.holds;
  }

  pub whole : (Q : List Task → Type 0) → IsSoFar P Q [] → Q (all_tasks P)
  whole Q w = subst Q (sym (w.split ∙ append-nil w.passed)) w.holds
