-- A greatest legal order has the tasks of each legal order and, if no task traps, those that run, each once.
use Rattle.std.proofs.Common.{List, [], ◌∷◌, ◌++◌, sym, subst, inl, inr, ◌≡◌, refl, ◌∙◌, is_some, arith}
use Rattle.ptg_base.specs.Lists.{IsIn}
use Rattle.ptg_base.specs.Task.{Task}
use Rattle.plan_core.specs.declared.plan.Plan.{Plan}
use Rattle.list_lemmas.proofs.Members.{from_append}
use Rattle.flow_meaning.specs.Order.{IsLegalAfter}
use Rattle.chain_cert.specs.Greatest.{IsGreatestOrder}
use Rattle.chain_cert.proofs.CallerLemmas.{joins, legal_once, members_ran}
use Rattle.std.specs.List.{filter}
use Rattle.ptg_base.specs.TaskComparing.{same_task}
use Rattle.ptg_base.specs.TaskLaws.{same_task-decides}
use Rattle.coll_data.specs.Data.{Data}
use Rattle.list_lemmas.proofs.Counts.{count-some, same_counts}
use Rattle.list_lemmas.proofs.Distinct.{HasNoRepeats-filter}
use Rattle.list_lemmas.proofs.Tasks.{member_or_not, uncounted, once_each}
use Rattle.dep_iter.specs.Tasks.{all_tasks}
use Rattle.dep_iter.specs.Consistent.{IsConsistent}
use Rattle.dep_iter.proofs.CallerLemmas.{once-all_tasks}
use Rattle.list_lemmas.specs.Counting.{HasSameMembers, count}
use Rattle.flow_meaning.specs.Backward.{ended}
use Rattle.flow_meaning.specs.Answer.{ran, trapped}

module _ (P : Plan) (ts : List Task) (g : IsGreatestOrder P ts) where
  -- the members of any legal order are members of this one
  pub has_those : (before us : List Task) → IsLegalAfter P before us → ((t : Task) → IsIn t before → IsIn t ts) → (t : Task) → IsIn t us → IsIn t ts
  has_those before [] l has t i = absurd i
  has_those before (u ∷ us) l has t i =
      let here = joins P ts g u l.0.task (λ e h. has e.from (l.0.after_sources e h)) in
      elim i [
        | inl e ↦ subst (λ v. IsIn v ts) (sym e) here
        | inr later ↦ has_those (before ++ u ∷ []) us l.1
            (λ v j. elim (from_append v before (u ∷ []) j) [
              | inl old ↦ has v old
              | inr new ↦ elim new [ inl q ↦ subst (λ w. IsIn w ts) (sym q) here | inr never ↦ absurd never ]
            ]) t later
      ]

module _ (P : Plan) (G : Data) (con : IsConsistent P) (calm : trapped P G ≡ []) (ts : List Task) (g : IsGreatestOrder P ts) where
  -- each is listed once
  same_count : (t : Task) → count (same_task t) ts ≡ count (same_task t) (ran P G)
  unfolding ran
  same_count t =
      let there = once_each (filter (λ u. is_some (ended P G u)) (all_tasks P))
      (HasNoRepeats-filter (λ u. is_some (ended P G u)) (all_tasks P) (once-all_tasks P)) t in
      let here = once_each ts (legal_once P [] ts g.legal) t in
      elim (member_or_not t ts) [
        | inl i ↦ omega (
          arith,
          here,
          there,
          count-some (same_task t) ts t i ((same_task-decides t t).1 refl),
          count-some (same_task t) (ran P G) t ((members_ran P G con calm ts g t).0 i)
              ((same_task-decides t t).1 refl),
        )
        | inr absent ↦ uncounted t ts absent ∙ sym (uncounted t (ran P G) (λ i. absent ((members_ran P G con calm ts g t).1 i)))
      ]

  pub same_members : HasSameMembers ts (ran P G)
  same_members = (same_counts same_task same_task-decides ts (ran P G)).1 same_count
