-- An opening is complete once as many tasks were claimed as have no edge into them.
use Rattle.std.proofs.Common.{◌≡◌, ◌≤◌, ◌==◌, Bool, false, List, [], ◌∷◌, length, refl, ap, sym, ◌∙◌, subst, inl, inr, eq-eqb, arith}
use Rattle.std.specs.Map.{keys_of}
use Rattle.ptg_base.specs.Lists.{IsIn}
use Rattle.ptg_base.specs.Task.{Task}
use Rattle.ptg_base.specs.TaskComparing.{same_task}
use Rattle.ptg_base.specs.TaskLaws.{same_task-decides}
use Rattle.ptg_base.specs.declared.edge.Edge.{Edge}
use Rattle.ptg_base.specs.declared.edge.Item.TheVariants as item
use Rattle.plan_core.specs.declared.plan.Plan.{Plan}
use Rattle.coll_data.specs.Data.{Data}
use Rattle.list_lemmas.proofs.Distinct.{no_longer}
use Rattle.list_lemmas.proofs.Tasks.{distinct_once}
use Rattle.list_lemmas.proofs.Truth.{by_test}
use Rattle.list_lemmas.proofs.Members.{IsIn-filter}
use Rattle.dep_iter.specs.Tasks.{IsTask, all_tasks}
use Rattle.dep_iter.specs.Edges.{goal, in_edges}
use Rattle.dep_iter.specs.Consistent.{roots}
use Rattle.dep_iter.proofs.CallerLemmas.{listed}
use Rattle.list_lemmas.specs.Counting.{as_number, count}
use Rattle.flow_meaning.specs.Machine.{SentItem, arrived, is_sent}
use Rattle.flow_core.specs.RunState.{RunState, machine, opening_run}
use Rattle.flow_core.specs.Fits.{Fits}
use Rattle.flow_core.specs.OneThread.{HasDone, IsOpening, MayClaimOnly, running_tasks}
use Rattle.flow_core.proofs.RunningTasks.{Once}

count-none : {A : Type 0} (test : A → Bool) (xs : List A) → ((x : A) → test x ≡ false) → count test xs ≡ 0
count-none test [] none = refl
count-none test (x ∷ xs) none = omega (arith, ap as_number (none x), count-none test xs none)

-- nothing is opened yet
pub opens_first : IsOpening opening_run
opens_first = record { sends = refl; running = refl }

module _ (P : Plan) (r : RunState) (o : IsOpening r) where
  none_come : (t : Task) → arrived P (machine r) t ≡ 0
  none_come t = ap (λ (s : List SentItem). arrived P (record { claims = keys_of r.claims; sends = s }) t) o.sends
      ∙ count-none (λ (e : Edge). is_sent (record { claims = keys_of r.claims; sends = [] }) (item.Edge e))
      (in_edges P t) (λ e. refl)

  root : (t : Task) → IsTask P t → arrived P (machine r) t ≡ goal P t → IsIn t (roots P)
  root t job all = (IsIn-filter (λ (u : Task). goal P u == 0) (all_tasks P) t).1 ((listed P t).0 job, eq-eqb (goal P t) 0 (sym all ∙ none_come t))

  -- if as many tasks were claimed as have no edge into them, no other task may be claimed
  pub opened_all : (G : Data) → Fits P G r → (running : List Task) → running ≡ running_tasks r → length running ≡ length (roots P) → MayClaimOnly P [] r
  opened_all G fits running are full t may =
      let more : Once (t ∷ keys_of r.claims) = λ u.
      by_test (same_task u t)
      (λ k. let none = ap (λ v. count (same_task v) (keys_of r.claims)) ((same_task-decides u t).0 k) in omega (arith, ap as_number k, none, may.unclaimed))
      (λ k. let most = fits.sound.claimed_once u in omega (arith, ap as_number k, most)) in
      let room : length (t ∷ keys_of r.claims) ≤ length (roots P) =
      no_longer (t ∷ keys_of r.claims) (roots P) (distinct_once (t ∷ keys_of r.claims) more) (λ u i. elim i [
        | inl q ↦ subst (λ v. IsIn v (roots P)) (sym q) (root t may.task may.all_arrived)
        | inr k ↦ let h = fits.sound.claimed_have_all u k in root u h.task h.all_arrived
      ]) in
      absurd (omega (arith, room, ap length are, ap length o.running, full))

-- if no task may be claimed, the rest of an opening is done
pub nothing_more : (P : Plan) (ts : List Task) (r : RunState) → MayClaimOnly P [] r → HasDone P ts [] r r
nothing_more P ts r none = record { claimed = λ us h t may. absurd (none t may); sent = λ js h. h; ended = refl; ends = λ t. refl; fits = λ G h. h }
