-- What a thread does between two tasks, and where it ends.
use Rattle.std.proofs.Common.{◌≡◌, ◌+◌, ◌<◌, ℤ, Bool, true, false, cond, is_some, List, [], ◌∷◌, ◌++◌, length, refl, ap}
use Rattle.std.proofs.Common.{sym, ◌∙◌, subst, ◌⊎◌, Option, Some, None, Ok, Err, IsTrue, ◌↔◌, ◌≢◌, inl, inr, arith}
use Rattle.std.proofs.Common.{append_assoc, length-append, lt-ltb}
use Rattle.std.proofs.lemmas.Bool.{false≢true}
use Rattle.std.proofs.lemmas.List.{append-nil, map-append}
use Rattle.std.specs.Prelude.{unwrap_or}
use Rattle.std.specs.Map.{keys_of, lookup}
use Rattle.std.specs.Result.{result_err}
use Rattle.ptg_base.specs.Lists.{IsIn}
use Rattle.ptg_base.specs.Task.{Task}
use Rattle.ptg_base.specs.TaskComparing.{same_task}
use Rattle.ptg_base.specs.TaskLaws.{same_task-decides}
use Rattle.ptg_base.specs.declared.edge.Edge.{Edge}
use Rattle.ptg_base.specs.declared.edge.WriteBack.{WriteBack}
use Rattle.ptg_base.specs.declared.edge.Item.{Item}
use Rattle.ptg_base.specs.declared.edge.Item.TheVariants as item
use Rattle.term_core.specs.declared.trap.Trap.{Trap}
use Rattle.plan_core.specs.declared.plan.Plan.{Plan}
use Rattle.coll_data.specs.Data.{Data}
use Rattle.list_lemmas.proofs.Members.{IsIn-append_left, IsIn-append_right}
use Rattle.list_lemmas.proofs.Truth.{by_test}
use Rattle.list_lemmas.proofs.Lookups.{apart, set_other, set_same}
use Rattle.list_lemmas.proofs.Counts.{weigh-push}
use Rattle.range_space.specs.Tasks.{tasks}
use Rattle.dep_iter.specs.Tasks.{IsTask, all_tasks}
use Rattle.dep_iter.specs.Items.{items}
use Rattle.dep_iter.specs.Consistent.{IsConsistent}
use Rattle.dep_iter.proofs.CallerLemmas.{item_edge, listed}
use Rattle.list_lemmas.specs.Counting.{as_number}
use Rattle.flow_meaning.specs.Ending.{Ended, has_outputs}
use Rattle.flow_meaning.specs.Machine.{IsQuiescent, MayClaim, MachineState, claim_count, is_sent, send_count, sender, state_after, Send}
use Rattle.flow_meaning.specs.Sound.{IsFinished}
use Rattle.flow_meaning.proofs.CallerLemmas.{arrives_not, claims_at_most, item_sender, rests, same_item-decides, unsent, with_tiles, writes_not}
use Rattle.flow_core.specs.RunState.{HasLetGo, IsRunning, RunState, Tiles, end_of, machine, opening_run, with_claim, with_end, with_send}
use Rattle.flow_core.specs.Fits.{Fits, HasFinished, MaySendNow}
use Rattle.flow_core.specs.Possible.{IsOutputItem}
use Rattle.flow_core.specs.OneThread.{HasDone, IsBetweenTasks, MayClaimOnly, OwesOnly, ended_count, running_among, running_tasks}
use Rattle.flow_core.proofs.Lookups.{end_push, found_key, key_found}
use Rattle.flow_core.proofs.Fitting.{end_event, let_go_fits, send_counts, send_event, sendable, sender_task, sends_stay}
use Rattle.flow_core.proofs.RunningTasks.{counted_among, ended_push, ended_set, last_in, marked_running, running_mark, running_set}

-- nothing is done
pub nothing_done : (P : Plan) (r : RunState) → HasDone P [] [] r r
nothing_done P r = record { claimed = λ us h. h; sent = λ js h. h; ended = refl; ends = λ t. refl; fits = λ G h. h }

-- one thing is done after another
pub done_then : (P : Plan) (ts us : List Task) (is js : List Item) (a b c : RunState) → HasDone P ts is a b
    → HasDone P us js b c → HasDone P (ts ++ us) (is ++ js) a c
done_then P ts us is js a b c d e = record {
  claimed = λ vs h. e.claimed vs (d.claimed (us ++ vs) (subst (λ l. MayClaimOnly P l a) (append_assoc ts us vs) h));
  sent = λ ks h. e.sent ks (d.sent (js ++ ks) (subst (λ l. OwesOnly P l a) (append_assoc is js ks) h));
  ended = e.ended ∙ d.ended;
  ends = λ t. e.ends t ∙ d.ends t;
  fits = λ G h. e.fits G (d.fits G h);
}

module _ (P : Plan) (r : RunState) (t : Task) where
  claims_are : machine (with_claim t r) ≡ record { claims = keys_of r.claims ++ t ∷ []; sends = r.sends }
  claims_are = λ i. record { claims = map-append (λ (c : Task × Option Ended). c.0) r.claims ((t, None) ∷ []) i; sends = r.sends }

  claim_counts : (u : Task) → claim_count (machine (with_claim t r)) u ≡ claim_count (machine r) u + as_number (same_task u t)
  claim_counts u = ap (λ (S : MachineState). claim_count S u) claims_are ∙ weigh-push (λ (v : Task). as_number (same_task u v)) (keys_of r.claims) t

  claimable_before : (u : Task) → MayClaim P (machine (with_claim t r)) u → MayClaim P (machine r) u
  claimable_before u m = record { task = m.task; unclaimed = omega (arith, claim_counts u, m.unclaimed); all_arrived = m.all_arrived }

  not_claimed_again : (u : Task) → MayClaim P (machine (with_claim t r)) u → u ≡ t → ⊥
  not_claimed_again u m same = omega (arith, claim_counts u, m.unclaimed, ap as_number ((same_task-decides u t).1 same))

  -- a task that is claimed may not be claimed again, and the others may as before
  claim_done : ((H : Data) → Fits P H r → Fits P H (with_claim t r)) → HasDone P (t ∷ []) [] r (with_claim t r)
  claim_done fits = record {
    claimed = λ us h u m. elim (h u (claimable_before u m)) [ inl same ↦ absurd (not_claimed_again u m same) | inr i ↦ i ];
    sent = λ js h u tiles end i mine. h u tiles (sym (end_push u t r.claims) ∙ end) i mine;
    ended = ended_push r.claims t;
    ends = λ u. end_push u t r.claims;
    fits = fits;
  }

  -- a task that may not be claimed is passed over
  pass_done : (MayClaim P (machine r) t → ⊥) → HasDone P (t ∷ []) [] r r
  pass_done not = record {
    claimed = λ us h u m. elim (h u m) [ inl same ↦ absurd (not (subst (MayClaim P (machine r)) same m)) | inr i ↦ i ];
    sent = λ js h. h;
    ended = refl;
    ends = λ u. refl;
    fits = λ G h. h;
  }

  -- the call claims a task or passes it over
  pub tried : (new : RunState) (b : Bool) → IsTrue b ↔ MayClaim P (machine r) t → new ≡ cond b (with_claim t r) r
      → ((H : Data) → Fits P H r → Fits P H new) → HasDone P (t ∷ []) [] r new
  tried new true exact is fits = subst (λ s. HasDone P (t ∷ []) [] r s) (sym is) (claim_done (λ H h. subst (Fits P H) is (fits H h)))
  tried new false exact is fits = subst (λ s. HasDone P (t ∷ []) [] r s) (sym is) (pass_done (λ m. false≢true (exact.1 m)))

sends_it : (r : RunState) (i : Item) → is_sent (machine (with_send i r)) i ≡ true
sends_it r i = lt-ltb 0 (send_count (machine (with_send i r)) i) (omega (arith, send_counts r i i, ap as_number ((same_item-decides i i).1 refl)))

-- a send leaves the claims
same_ended : (r : RunState) (i : Item) (b : Bool) → ended_count (cond b (with_send i r) r) ≡ ended_count r
same_ended r i true = refl
same_ended r i false = refl

same_ends : (r : RunState) (i : Item) (b : Bool) (t : Task) → end_of (cond b (with_send i r) r) t ≡ end_of r t
same_ends r i true t = refl
same_ends r i false t = refl

pub same_running : (r : RunState) (i : Item) (b : Bool) → running_tasks (cond b (with_send i r) r) ≡ running_tasks r
same_running r i true = refl
same_running r i false = refl

-- after a call of `send` for an item, which returned this
module _ (P : Plan) (G : Data) (con : IsConsistent P) (r : RunState) (fits : Fits P G r) (i : Item) where
  -- an item that is owed was sent, now or before
  pub owed_sent : (b : Bool) → IsTrue b ↔ MaySendNow P G r i → (js : List Item) → OwesOnly P (i ∷ js) r → OwesOnly P js (cond b (with_send i r) r)
  owed_sent true exact js h t tiles end j mine = elim (h t tiles end j mine) [
    | inl s ↦ inl (sends_stay r i j s)
    | inr k ↦ elim k [ inl same ↦ inl (subst (λ x. is_sent (machine (with_send i r)) x ≡ true) (sym same) (sends_it r i)) | inr later ↦ inr later ]
  ]
  owed_sent false exact js h t tiles end j mine = elim (h t tiles end j mine) [
    | inl s ↦ inl s
    | inr k ↦ elim k [
      | inl same ↦ by_test (is_sent (machine r) i) (λ s. inl (subst (λ x. is_sent (machine r) x ≡ true) (sym same) s))
          (λ s. absurd (false≢true (exact.1 (may_now s (subst (λ x. IsIn x (items P t)) same mine)))))
      | inr later ↦ inr later
    ]
  ]
    where
      may_now : is_sent (machine r) i ≡ false → IsIn i (items P t) → MaySendNow P G r i
      may_now s mine =
          let from : sender i ≡ t = item_sender P t i mine in
          let outputs : has_outputs (end_of r (sender i)) ≡ true = ap (λ u. has_outputs (end_of r u)) from ∙ ap has_outputs end in
          (sendable P G con r fits i).0 (outputs, unsent (machine r) i s, subst (λ u. IsIn i (items P u)) (sym from) mine)

-- a send of an edge, and a try to claim its target
module _ (P : Plan) (G : Data) (con : IsConsistent P) (r : RunState) (fits : Fits P G r) (e : Edge) where
  target_ready : (b : Bool) → IsTrue b ↔ MaySendNow P G r (item.Edge e) → (us : List Task) → MayClaimOnly P us r
      → MayClaimOnly P (e.to ∷ us) (cond b (with_send (item.Edge e) r) r)
  target_ready false exact us h t may = inr (h t may)
  target_ready true exact us h t may =
      let now = exact.0 refl in
      let after : MayClaim P (state_after P G (machine r) (Send (item.Edge e))) t = subst (λ S. MayClaim P S t)
      (send_event P G con r fits (item.Edge e) now) may in
      by_test (same_task t e.to)
      (λ k. inl ((same_task-decides t e.to).0 k))
      (λ k.
      let other : t ≢ e.to = λ same. false≢true (sym k ∙ (same_task-decides t e.to).1 same) in
      let arrived_as = arrives_not P G con (machine r) fits.sound e now.may t other in
      inr (h t (record { task = after.task; unclaimed = after.unclaimed; all_arrived = sym arrived_as ∙ after.all_arrived })))

  pub edge_done : (b : Bool) → IsTrue b ↔ MaySendNow P G r (item.Edge e) → (sent new : RunState)
      → sent ≡ cond b (with_send (item.Edge e) r) r → ((H : Data) → Fits P H r → Fits P H sent)
      → HasDone P (e.to ∷ []) [] sent new → HasDone P [] (item.Edge e ∷ []) r new
  edge_done b exact sent new is keeps d = record {
    claimed = λ us h. d.claimed us (subst (MayClaimOnly P (e.to ∷ us)) (sym is) (target_ready b exact us h));
    sent = λ js h. d.sent js (subst (OwesOnly P js) (sym is) (owed_sent P G con r fits (item.Edge e) b exact js h));
    ended = d.ended ∙ ap ended_count is ∙ same_ended r (item.Edge e) b;
    ends = λ u. d.ends u ∙ ap (λ (x : RunState). end_of x u) is ∙ same_ends r (item.Edge e) b u;
    fits = λ H h. d.fits H (keeps H h);
  }

-- a send of a write-back
module _ (P : Plan) (G : Data) (con : IsConsistent P) (r : RunState) (fits : Fits P G r) (w : WriteBack) where
  none_ready_more : (b : Bool) → IsTrue b ↔ MaySendNow P G r (item.Write w) → (us : List Task) → MayClaimOnly P us r
      → MayClaimOnly P us (cond b (with_send (item.Write w) r) r)
  none_ready_more false exact us h t may = h t may
  none_ready_more true exact us h t may =
      let now = exact.0 refl in
      let after : MayClaim P (state_after P G (machine r) (Send (item.Write w))) t = subst (λ S. MayClaim P S t)
      (send_event P G con r fits (item.Write w) now) may in
      let arrived_as = writes_not P G con (machine r) fits.sound w now.may t in
      h t (record { task = after.task; unclaimed = after.unclaimed; all_arrived = sym arrived_as ∙ after.all_arrived })

  pub write_done : (b : Bool) → IsTrue b ↔ MaySendNow P G r (item.Write w) → (new : RunState)
      → new ≡ cond b (with_send (item.Write w) r) r → ((H : Data) → Fits P H r → Fits P H new)
      → HasDone P [] (item.Write w ∷ []) r new
  write_done b exact new is keeps = subst (HasDone P [] (item.Write w ∷ []) r) (sym is) (record {
    claimed = none_ready_more b exact;
    sent = owed_sent P G con r fits (item.Write w) b exact;
    ended = same_ended r (item.Write w) b;
    ends = same_ends r (item.Write w) b;
    fits = λ H h. subst (Fits P H) is (keeps H h);
  })

-- a run in which the task that was claimed last has ended
pub record HasEnded (P : Plan) (G : Data) (t : Task) (tasks : List Task) (old new : RunState) (trap : Option Trap) : Type 0 where
  pub running : tasks ≡ running_tasks new
  pub none_ready : MayClaimOnly P [] new
  pub owes : OwesOnly P (items P t) new
  pub trapped : trap ≢ None → OwesOnly P [] new
  pub outputs : is_some trap ≡ false → has_outputs (end_of new t) ≡ true
  pub ended : ended_count new ≡ ended_count old + 1

-- a task that has not trapped has outputs
left_outputs : (end : Ended) (trap : Option Trap) → trap ≡ result_err end → is_some trap ≡ false → has_outputs (Some end) ≡ true
left_outputs (Ok tiles) trap is none = refl
left_outputs (Err cause) trap is none = absurd (false≢true (sym none ∙ ap is_some is))

module _ (P : Plan) (G : Data) (r : RunState) (fits : Fits P G r) (t : Task) (running : List Task) (last : running ++ t ∷ [] ≡ running_tasks r) where
  -- it is running
  pub last_runs : IsRunning r t
  last_runs = running_mark r.claims t fits.sound.claimed_once (subst (IsIn t) last (last_in running t))

  module _ (none_ready : MayClaimOnly P [] r) (nothing_owed : OwesOnly P [] r) (end : Ended) where
    owes_its : (u : Task) (tiles : List (Option (List ℤ))) → end_of (with_end t end r) u ≡ Some (Ok tiles) → (i : Item)
        → IsIn i (items P u) → (is_sent (machine (with_end t end r)) i ≡ true) ⊎ ((u ≡ t) × (end ≡ Ok tiles))
    owes_its u tiles e i mine =
        by_test (same_task t u)
        (λ k.
        let same : t ≡ u = (same_task-decides t u).0 k in
        let here : end_of (with_end t end r) t ≡ Some end = ap (λ m. unwrap_or m None) (set_same (same_task t) r.claims None (Some end) last_runs) in
        let there : end_of (with_end t end r) u ≡ Some end = subst (λ v. end_of (with_end t end r) v ≡ Some end) same here in
        inr (sym same, cc))
        (λ k.
        let other : end_of (with_end t end r) u ≡ end_of r u = ap (λ m. unwrap_or m None)
        (set_other (same_task t) (same_task u) (apart t u k) r.claims (Some end)) in
        elim (nothing_owed u tiles (sym other ∙ e) i mine) [ inl s ↦ inl s | inr x ↦ absurd x ])

    pub ended_so : (trap : Option Trap) → trap ≡ result_err end → HasEnded P G t running r (with_end t end r) trap
    ended_so trap is = record {
      running = sym (running_set r.claims t end running fits.sound.claimed_once (sym last));
      none_ready = λ u m. none_ready u (subst (λ S. MayClaim P S u) (end_event r t end) m);
      owes = λ u tiles e i mine. elim (owes_its u tiles e i mine) [ inl s ↦ inl s | inr p ↦ inr (subst (λ v. IsIn i (items P v)) p.0 mine) ];
      trapped = λ some u tiles e i mine. elim (owes_its u tiles e i mine) [ inl s ↦ inl s | inr p ↦ absurd (some (is ∙ ap result_err p.1)) ];
      outputs = λ none. ap has_outputs (ap (λ m. unwrap_or m None) (set_same (same_task t) r.claims None (Some end) last_runs)) ∙ left_outputs end trap is none;
      ended = ended_set r.claims t end last_runs;
    }

-- after a call of `finish` for it
pub has_ended : (P : Plan) (G : Data) (r new : RunState) (fits : Fits P G r) (t : Task) (running : List Task)
    → running ++ t ∷ [] ≡ running_tasks r → MayClaimOnly P [] r → OwesOnly P [] r → (trap : Option Trap)
    → HasFinished P G t r new trap → HasEnded P G t running r new trap
has_ended P G r new fits t running last none_ready nothing_owed trap f =
    subst (λ s. HasEnded P G t running r s trap) (sym f.marked) (ended_so P G r fits t running last none_ready nothing_owed f.end trap f.trapped)

-- if nothing is running and nothing is left to do, no event is possible
pub at_rest : (P : Plan) (G : Data) → IsConsistent P → (r : RunState) → IsBetweenTasks P G r [] → IsQuiescent P G (machine r)
at_rest P G con r b = (rests P G con (machine r) b.fits.sound).1
    (record { none_ready = b.none_ready; all_finished = λ t i. let k = key_found t r.claims i in finished t k.0 k.1 })
  where
    finished : (t : Task) (m : Option Ended) → lookup (same_task t) r.claims ≡ Some m → IsFinished P G (machine r) t
    finished t None h = absurd (subst (IsIn t) (sym b.running) (marked_running r.claims t h))
    finished t (Some (Err cause)) h = inl (ap has_outputs (b.fits.ends t (Err cause) (ap (λ m. unwrap_or m None) h)))
    finished t (Some (Ok tiles)) h = inr (λ i mine. elim (b.nothing_owed t tiles (ap (λ m. unwrap_or m None) h) i mine) [ inl s ↦ s | inr x ↦ absurd x ])

-- a run in which all tasks without an edge into them were claimed
pub all_opened : (P : Plan) (G : Data) (r : RunState) (running : List Task) → Fits P G opening_run
    → HasDone P (all_tasks P) [] opening_run r → running ≡ running_tasks r → IsBetweenTasks P G r running
all_opened P G r running fits d is = record {
  fits = d.fits G fits;
  running = is;
  none_ready = d.claimed [] (λ t m. IsIn-append_left t (all_tasks P) [] ((listed P t).0 m.task));
  nothing_owed = d.sent [] (λ t tiles end i mine. absurd cc);
}

-- a run in which a task is running has fewer ended tasks than the job has tasks
pub some_left : (P : Plan) (G : Data) (r : RunState) (running : List Task) (t : Task) → Fits P G r
    → running ++ t ∷ [] ≡ running_tasks r → ended_count r < length (all_tasks P)
some_left P G r running t fits last =
    let all = claims_at_most P G (machine r) fits.sound in
    let parts = counted_among r.claims in
    let some = ap length last in
    omega (arith, length-append running (t ∷ []))

-- how far a walk over tasks or items has come: what is done, and what is left
pub record IsSoFar (P : Plan) (ts left : List Task) (is owed : List Item) (old new : RunState) : Type 0 where
  pub tasks : List Task
  pub sent : List Item
  pub split : ts ≡ tasks ++ left
  pub split_items : is ≡ sent ++ owed
  pub done : HasDone P tasks sent old new

pub nothing_yet : (P : Plan) (ts : List Task) (is : List Item) (r : RunState) → IsSoFar P ts ts is is r r
nothing_yet P ts is r = record { tasks = []; sent = []; split = refl; split_items = refl; done = nothing_done P r }

pub one_more : (P : Plan) (ts left us : List Task) (is owed js : List Item) (a b c : RunState)
    → IsSoFar P ts (us ++ left) is (js ++ owed) a b → HasDone P us js b c → IsSoFar P ts left is owed a c
one_more P ts left us is owed js a b c w d = record {
  tasks = w.tasks ++ us;
  sent = w.sent ++ js;
  split = w.split ∙ sym (append_assoc w.tasks us left);
  split_items = w.split_items ∙ sym (append_assoc w.sent js owed);
  done = done_then P w.tasks us w.sent js a b c w.done d;
}

pub all_done : (P : Plan) (ts : List Task) (is : List Item) (a b : RunState) → IsSoFar P ts [] is [] a b → HasDone P ts is a b
all_done P ts is a b w =
    let tasks : w.tasks ≡ ts = sym (append-nil w.tasks) ∙ sym w.split in
    let sent : w.sent ≡ is = sym (append-nil w.sent) ∙ sym w.split_items in
    subst (λ l. HasDone P l is a b) tasks (subst (λ l. HasDone P w.tasks l a b) sent w.done)

-- if what is left is done at once, all is done
pub rest_done : (P : Plan) (ts left : List Task) (a b : RunState) → IsSoFar P ts left [] [] a b → HasDone P left [] b b → HasDone P ts [] a b
rest_done P ts left a b w d =
    let none : w.sent ≡ [] = sym (append-nil w.sent) ∙ sym w.split_items in
    subst (λ l. HasDone P l [] a b) (sym w.split) (subst (λ l. HasDone P (w.tasks ++ left) (l ++ []) a b) none
    (done_then P w.tasks left w.sent [] a b b w.done d))

-- the task that was claimed last is one of the job
pub last_task : (P : Plan) (G : Data) (r : RunState) (fits : Fits P G r) (t : Task) (running : List Task) → running ++ t ∷ [] ≡ running_tasks r → IsTask P t
last_task P G r fits t running last = (fits.sound.claimed_have_all t (found_key t r.claims None (last_runs P G r fits t running last))).task

-- the tiles that a task left are dropped once nothing is owed
pub let_go_between : (P : Plan) (G : Data) → IsConsistent P → (t : Task) (last new : RunState) (tasks : List Task)
    → IsBetweenTasks P G last tasks → has_outputs (end_of last t) ≡ true → HasLetGo t last new
    → IsBetweenTasks P G new tasks
let_go_between P G con t last new tasks b outputs gone = record {
  fits = let_go_fits P G con last b.fits t new gone (λ i mine. elim (b.nothing_owed t o.0 o.1 i mine) [ inl s ↦ s | inr x ↦ absurd x ]);
  running = b.running ∙ sym (ap running_among gone.claims);
  none_ready = λ u may. b.none_ready u (subst (λ S. MayClaim P S u) same may);
  nothing_owed = λ u tiles end i mine. elim (b.nothing_owed u tiles
      (sym (ap (λ cs. unwrap_or (lookup (same_task u) cs) None) gone.claims) ∙ end) i mine)
      [ inl s ↦ inl (ap (λ (S : MachineState). is_sent S i) same ∙ s) | inr x ↦ absurd x ];
}
  where
    o : (tiles : Tiles) × (end_of last t ≡ Some (Ok tiles))
    o = with_tiles (end_of last t) outputs

    same : machine new ≡ machine last
    same = λ i. record { claims = keys_of (gone.claims i); sends = gone.sends i }

-- between two tasks, after one has trapped, and after the items of one were sent
pub between_trapped : (P : Plan) (G : Data) (t : Task) (running : List Task) (old new : RunState) (trap : Option Trap)
    → HasEnded P G t running old new trap → Fits P G new → true ≡ is_some trap → IsBetweenTasks P G new running
between_trapped P G t running old new trap e fits some = record {
  fits = fits;
  running = e.running;
  none_ready = e.none_ready;
  nothing_owed = e.trapped (λ none. false≢true (sym (ap is_some none) ∙ sym some));
}

pub between_sent : (P : Plan) (G : Data) (t : Task) (running : List Task) (old new : RunState) (trap : Option Trap)
    → HasEnded P G t running old new trap → Fits P G new
    → (last : RunState) (now : List Task) → HasDone P [] (items P t) new last → now ≡ running_tasks last → IsBetweenTasks P G last now
between_sent P G t running old new trap e fits last now d is = record {
  fits = d.fits G fits;
  running = is;
  none_ready = d.claimed [] e.none_ready;
  nothing_owed = d.sent [] (λ u tiles end i mine. elim (e.owes u tiles end i mine) [ inl s ↦ inl s | inr k ↦ inr (IsIn-append_left i (items P t) [] k) ]);
}

-- if the list of running tasks is empty, no task is running
pub idle : (r : RunState) → [] ≡ running_tasks r → (t : Task) → IsRunning r t → ⊥
idle r none t h = subst (IsIn t) (sym none) (marked_running r.claims t h)

-- the items of a task that are left are outputs
module _ (P : Plan) (t : Task) (a b : RunState) (outputs : has_outputs (end_of a t) ≡ true) where
  pub output : (i : Item) → IsIn i (items P t) → ((u : Task) → end_of b u ≡ end_of a u) → IsOutputItem P b i
  output i mine ends =
      let from : sender i ≡ t = item_sender P t i mine in
      record {
        outputs = ap (λ u. has_outputs (end_of b u)) from ∙ ap has_outputs (ends t)
            ∙ outputs;
        is_item = subst (λ u. IsIn i (items P u)) (sym from) mine;
      }

  pub item_output : (all left : List Item) (i : Item) → all ≡ items P t → IsSoFar P [] [] all (i ∷ left) a b
      → IsOutputItem P b i
  item_output all left i is w =
      let among : IsIn i all = subst (IsIn i) (sym w.split_items) (IsIn-append_right i w.sent (i ∷ left) (inl refl)) in
      output i (subst (IsIn i) is among) w.done.ends

-- the next task of a walk over all tasks is one of the job
pub next_task : (P : Plan) (t : Task) (left : List Task) (a b : RunState) → IsSoFar P (all_tasks P) (t ∷ left) [] [] a b → IsTask P t
next_task P t left a b w = (listed P t).1 (subst (IsIn t) (sym w.split) (IsIn-append_right t w.tasks (t ∷ left) (inl refl)))

-- an edge that is an output goes to a task of the job
pub output_target : (P : Plan) (G : Data) → IsConsistent P → (r : RunState) → Fits P G r → (e : Edge) → IsOutputItem P r (item.Edge e) → IsTask P e.to
output_target P G con r fits e d =
    (con.connected e.from (sender_task P G con r fits (item.Edge e) d.outputs)).to_tasks e (item_edge (items P e.from) e d.is_item)
