-- Searches for what may happen next, and what follows if nothing is found.
use Rattle.std.proofs.Common.{◌≡◌, ◌≤◌, Bool, true, false, not, cond, List, [], ◌∷◌, refl, ap, sym, ◌∙◌, subst, Option}
use Rattle.std.proofs.Common.{Some, None, Ok, Err, IsTrue, ◌↔◌, inl, inr, arith}
use Rattle.std.proofs.lemmas.Bool.{false≢true}
use Rattle.std.specs.Prelude.{unwrap_or}
use Rattle.std.specs.Map.{keys_of, lookup}
use Rattle.ptg_base.specs.Lists.{IsIn}
use Rattle.ptg_base.specs.Task.{Task}
use Rattle.ptg_base.specs.TaskComparing.{same_task}
use Rattle.ptg_base.specs.TaskLaws.{same_task-decides}
use Rattle.ptg_base.specs.declared.edge.Edge.{Edge}
use Rattle.ptg_base.specs.declared.edge.WriteBack.{WriteBack}
use Rattle.ptg_base.specs.declared.edge.Item.{Item}
use Rattle.ptg_base.specs.declared.edge.Item.TheVariants as item
use Rattle.plan_core.specs.declared.plan.Plan.{Plan}
use Rattle.coll_data.specs.Data.{Data}
use Rattle.list_lemmas.proofs.Truth.{by_test}
use Rattle.list_lemmas.proofs.Counts.{count-some}
use Rattle.dep_iter.specs.Tasks.{IsTask, all_tasks}
use Rattle.dep_iter.specs.Items.{items, out_edges, write_backs}
use Rattle.dep_iter.specs.Consistent.{IsConsistent}
use Rattle.dep_iter.proofs.CallerLemmas.{edge_item, item_edge, item_write, listed, write_item}
use Rattle.list_lemmas.specs.Counting.{as_number, count}
use Rattle.flow_meaning.specs.Ending.{Ended, has_outputs}
use Rattle.flow_meaning.specs.Machine.{Claim, IsQuiescent, MayClaim, Send, SentItem, is_sent, sender}
use Rattle.flow_meaning.specs.Sound.{IsFinished}
use Rattle.flow_meaning.proofs.CallerLemmas.{item_sender, rests, unsent}
use Rattle.flow_core.specs.RunState.{IsRunning, RunState, end_of, machine}
use Rattle.flow_core.specs.Fits.{Fits}
use Rattle.flow_core.specs.SentItems.{IsUnsent}
use Rattle.flow_core.specs.Quiet.{HasOne, Owes}
use Rattle.flow_core.proofs.Lookups.{key_found}
use Rattle.flow_core.proofs.Fitting.{sendable}

-- how far a search has come: what is left is part of all, and if a member of all passes, a member of what is left does
pub record IsSearched {A : Type 0} (Q : A → Type 0) (all left : List A) : Type 0 where
  pub among : (x : A) → IsIn x left → IsIn x all
  pub later : HasOne Q all → HasOne Q left

module _ {A : Type 0} (Q : A → Type 0) where
  pub search_begins : (all : List A) → IsSearched Q all all
  search_begins all = record { among = λ x i. i; later = λ h. h }

  pub search_goes_on : (all left : List A) (x : A) → IsSearched Q all (x ∷ left) → (Q x → ⊥) → IsSearched Q all left
  search_goes_on all left x s not = record {
    among = λ y i. s.among y (inr i);
    later = λ h. let p = s.later h in elim (p.1) [ inl e ↦ absurd (not (subst Q e p.2)) | inr i ↦ (p.0, i, p.2) ];
  }

  pub search_finds : (all left : List A) (x : A) → IsSearched Q all (x ∷ left) → Q x → IsTrue true ↔ HasOne Q all
  search_finds all left x s q = (λ h. (x, s.among x (inl refl), q), λ h. refl)

  pub search_ends : (all : List A) → IsSearched Q all [] → IsTrue false ↔ HasOne Q all
  search_ends all s = (λ h. absurd (false≢true h), λ h. absurd ((s.later h).1))

-- an item of a task is unsent if and only if an edge or a write-back of it is
module _ (P : Plan) (sends : List SentItem) (t : Task) (end : Option Ended) where
  pub edge_owed : has_outputs end ≡ true → HasOne (λ (e : Edge). IsUnsent sends (item.Edge e)) (out_edges P t) → IsTrue true ↔ Owes P sends (t, end)
  edge_owed h one = (λ k. (h, (item.Edge one.0, edge_item (items P t) one.0 one.1, one.2)), λ o. refl)

  pub write_owed : has_outputs end ≡ true → (HasOne (λ (e : Edge). IsUnsent sends (item.Edge e)) (out_edges P t) → ⊥)
      → (b : Bool) → IsTrue b ↔ HasOne (λ (w : WriteBack). IsUnsent sends (item.Write w)) (write_backs P t)
      → IsTrue b ↔ Owes P sends (t, end)
  write_owed h none b exact = (
    λ k. let one = exact.0 k in (h, (item.Write one.0, write_item (items P t) one.0 one.1, one.2)),
    λ o. exact.1 (the_write o.1.0 o.1.1 o.1.2),
  )
    where
      the_write : (i : Item) → IsIn i (items P t) → IsUnsent sends i → HasOne (λ (w : WriteBack). IsUnsent sends (item.Write w)) (write_backs P t)
      the_write (item.Edge e) mine un = absurd (none (e, item_edge (items P t) e mine, un))
      the_write (item.Write w) mine un = (w, item_write (items P t) w mine, un)

-- an entry is found by its key, and a key that is there once finds its entry
found_entry : (cs : List (Task × Option Ended)) (t : Task) (x : Option Ended) → lookup (same_task t) cs ≡ Some x → IsIn (t, x) cs
found_entry [] t x h = absurd cc
found_entry ((s, y) ∷ cs) t x h =
    by_test (same_task t s)
    (λ k.
    let same : t ≡ s = (same_task-decides t s).0 k in
    let value : Some y ≡ Some x = sym (ap (λ b. cond b (Some y) (lookup (same_task t) cs)) k) ∙ h in
    let is : y ≡ x = cc in
    inl (λ i. (same i, sym is i)))
    (λ k. inr (found_entry cs t x (sym (ap (λ b. cond b (Some y) (lookup (same_task t) cs)) k) ∙ h)))

entry_key : (cs : List (Task × Option Ended)) (c : Task × Option Ended) → IsIn c cs → IsIn c.0 (keys_of cs)
entry_key [] c i = i
entry_key (d ∷ cs) c i = elim i [ inl e ↦ inl (ap (λ (x : Task × Option Ended). x.0) e) | inr j ↦ inr (entry_key cs c j) ]

entry_found : (cs : List (Task × Option Ended)) (c : Task × Option Ended)
    → ((t : Task) → count (same_task t) (keys_of cs) ≤ 1) → IsIn c cs → lookup (same_task c.0) cs ≡ Some c.1
entry_found [] c once i = absurd i
entry_found (d ∷ cs) c once i = elim i [
  | inl e ↦
      let k : same_task c.0 d.0 ≡ true = (same_task-decides c.0 d.0).1 (ap (λ (x : Task × Option Ended). x.0) e) in
      ap (λ b. cond b (Some d.1) (lookup (same_task c.0) cs)) k ∙ ap (λ (x : Task × Option Ended). Some x.1) (sym e)
  | inr j ↦
      by_test (same_task c.0 d.0)
      (λ k.
      let more = count-some (same_task c.0) (keys_of cs) c.0 (entry_key cs c j) ((same_task-decides c.0 c.0).1 refl) in
      let most = once c.0 in
      absurd (omega (arith, ap as_number k)))
      (λ k.
      let fewer : (t : Task) → count (same_task t) (keys_of cs) ≤ 1 = λ t. let most = once t in omega arith in
      ap (λ b. cond b (Some d.1) (lookup (same_task c.0) cs)) k ∙ entry_found cs c fewer j)
]

module _ (P : Plan) (G : Data) (con : IsConsistent P) (r : RunState) (fits : Fits P G r) (idle : (t : Task) → IsRunning r t → ⊥) where
  -- if a task may be claimed, a claim is possible
  pub not_quiet_ready : HasOne (MayClaim P (machine r)) (all_tasks P) → IsTrue false ↔ IsQuiescent P G (machine r)
  not_quiet_ready one = (λ h. absurd (false≢true h), λ quiet. absurd (quiet (Claim one.0) one.2))

  -- if an item is owed, a send is possible
  owed_possible : HasOne (Owes P r.sends) r.claims → IsQuiescent P G (machine r) → ⊥
  owed_possible one quiet =
      let c = one.0 in
      let i = one.2.1.0 in
      let mine = one.2.1.1 in
      let from : sender one.2.1.0 ≡ one.0.0 = item_sender P one.0.0 one.2.1.0 mine in
      let end : end_of r one.0.0 ≡ one.0.1 = ap (λ m. unwrap_or m None) (entry_found r.claims one.0 fits.sound.claimed_once one.1) in
      let outputs : has_outputs (end_of r (sender one.2.1.0)) ≡ true = ap (λ u. has_outputs (end_of r u)) from ∙ ap has_outputs end ∙ one.2.0 in
      quiet (Send one.2.1.0) ((sendable P G con r fits one.2.1.0).0 (outputs, one.2.1.2, subst (λ u. IsIn one.2.1.0 (items P u)) (sym from) mine)).may

  -- if neither is so, nothing is possible
  all_quiet : (HasOne (MayClaim P (machine r)) (all_tasks P) → ⊥) → (HasOne (Owes P r.sends) r.claims → ⊥) → IsQuiescent P G (machine r)
  all_quiet none_ready none_owed =
      (rests P G con (machine r) fits.sound).1 (record {
        none_ready = λ t m. none_ready (t, (listed P t).0 m.task, m);
        all_finished = λ t i. let k = key_found t r.claims i in finished t k.0 k.1;
      })
    where
      finished : (t : Task) (m : Option Ended) → lookup (same_task t) r.claims ≡ Some m → IsFinished P G (machine r) t
      finished t None h = absurd (idle t h)
      finished t (Some (Err cause)) h = inl (ap has_outputs (fits.ends t (Err cause) (ap (λ m. unwrap_or m None) h)))
      finished t (Some (Ok tiles)) h = inr (λ i mine. by_test (is_sent (machine r) i) (λ s. s)
          (λ s. absurd (none_owed (
            (t, Some (Ok tiles)),
            found_entry r.claims t (Some (Ok tiles)) h,
            (refl, (i, mine, unsent (machine r) i s)),
          ))))

  pub quiet_by : (b : Bool) → (HasOne (MayClaim P (machine r)) (all_tasks P) → ⊥)
      → IsTrue b ↔ HasOne (Owes P r.sends) r.claims → IsTrue (not b) ↔ IsQuiescent P G (machine r)
  quiet_by true none_ready exact = (λ h. absurd (false≢true h), λ quiet. absurd (owed_possible (exact.0 refl) quiet))
  quiet_by false none_ready exact = (λ h. all_quiet none_ready (λ one. false≢true (exact.1 one)), λ quiet. refl)

-- a claimed task is one of the job
pub entry_task : (P : Plan) (G : Data) (r : RunState) → Fits P G r → (c : Task × Option Ended) → IsIn c r.claims → IsTask P c.0
entry_task P G r fits c i = (fits.sound.claimed_have_all c.0 (entry_key r.claims c i)).task

-- and has ended as its entry says
pub entry_end : (P : Plan) (G : Data) (r : RunState) → Fits P G r → (c : Task × Option Ended) → IsIn c r.claims → end_of r c.0 ≡ c.1
entry_end P G r fits c i = ap (λ m. unwrap_or m None) (entry_found r.claims c fits.sound.claimed_once i)
