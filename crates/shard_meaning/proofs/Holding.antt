-- What the holder of a shard knows: which tasks may be claimed, what a claim hands out, and the bounds of its two
-- numbers.
use Rattle.std.proofs.Common.{◌≡◌, ℕ, ◌+◌, ◌<◌, ◌≤◌, Bool, true, false, cond, ◌==◌, ◌&&◌, ◌||◌, List, refl, ap, sym}
use Rattle.std.proofs.Common.{◌∙◌, subst, arith, Some, None, nat_lt, IsSome}
use Rattle.std.proofs.lemmas.Bool.{eqb-true}
use Rattle.ptg_base.specs.Entry.{Entry, FlowTile}
use Rattle.ptg_base.specs.Task.{Task}
use Rattle.plan_core.specs.declared.plan.Plan.{Plan}
use Rattle.coll_data.specs.Data.{Data}
use Rattle.dep_iter.specs.Consistent.{IsConsistent}
use Rattle.dep_iter.specs.Edges.{goal}
use Rattle.dep_iter.specs.Tasks.{IsTask}
use Rattle.dep_shard.specs.Content.{Content, IsReady, Takes, entry_of}
use Rattle.flow_meaning.specs.Backward.{ended, inputs}
use Rattle.list_lemmas.specs.Counting.{as_number}
use Rattle.flow_meaning.specs.Machine.{MachineState, MayClaim, arrived, claim_count, sent_tile}
use Rattle.flow_meaning.specs.Sound.{IsSoundState}
use Rattle.flow_meaning.specs.Starting.{delivered_tiles}
use Rattle.flow_meaning.specs.Table.{entry_of as whole_entry, is_ready, is_waiting}
use Rattle.list_lemmas.proofs.Counts.{count-at_most, weigh-member}
use Rattle.list_lemmas.proofs.Tasks.{counted_member}
use Rattle.std.proofs.lemmas.Option.{same_Some}
use Rattle.flow_meaning.proofs.CallerLemmas.{claims_at_most, has_inputs, it_ends}
use Rattle.shard_meaning.specs.Moment.{Moment, run_count}
use Rattle.shard_meaning.specs.Share.{IsShardOf, Placement, is_of}
use Rattle.shard_meaning.proofs.Claims.{one_here}
use Rattle.shard_meaning.proofs.SoundMoments.{claims_below}
use Rattle.shard_meaning.proofs.TableEntries.{by_same, full_entry}

-- what an entry of the table is, and that its task is not claimed
pub record IsEntryOf (P : Plan) (S : MachineState) (t : Task) (e : Entry) : Type 0 where
  pub unclaimed : claim_count S t ≡ 0
  pub is : e ≡ whole_entry P S t

entry_is : (P : Plan) (S : MachineState) (t : Task) (e : Entry) (b : Bool) → is_ready P S t || is_waiting P S t ≡ b
    → cond b (Some (whole_entry P S t)) None ≡ Some e → IsEntryOf P S t e
entry_is P S t e true h is = record { unclaimed = free (claim_count S t == 0) refl h; is = sym (same_Some (whole_entry P S t) e is) }
  where
    free : (b : Bool) → (claim_count S t == 0) ≡ b → ((b && (arrived P S t == goal P t)) ||
        (b && (nat_lt 0 (arrived P S t) && nat_lt (arrived P S t) (goal P t)))) ≡ true → claim_count S t ≡ 0
    free true k g = eqb-true (claim_count S t) 0 k
    free false k g = absurd cc
entry_is P S t e false h is = absurd cc

-- a task that may be claimed ends
pub claim_ends : (P : Plan) (G : Data) (R : Moment) → IsConsistent P → IsSoundState P G R.state → (t : Task) → MayClaim P R.state t → IsSome (ended P G t)
claim_ends P G R con sound t may = it_ends P G con R.state sound t (record { task = may.task; all_arrived = may.all_arrived })

module _ (P : Plan) (G : Data) (of : Placement) (k : ℕ) (R : Moment) (y : Content) (h : IsShardOf P G of k R y) where
  -- an entry of the shard is that of the table
  pub entry_in_table : (t : Task) (e : Entry) → entry_of y t ≡ Some e → IsEntryOf P R.state t e
  entry_in_table t e is =
      let own = h.only t e is in
      entry_is P R.state t e (is_ready P R.state t || is_waiting P R.state t) refl (sym (h.there t own.0 own.1) ∙ is)

  -- a task with a ready entry may be claimed
  pub ready_may : (t : Task) (e : Entry) → entry_of y t ≡ Some e → IsReady e → MayClaim P R.state t
  ready_may t e is ready =
      let i = entry_in_table t e is in
      record { task = (h.only t e is).0; unclaimed = i.unclaimed; all_arrived = subst (λ (x : Entry). x.arrived ≡ x.goal) i.is ready }

  -- and a task of the shard that may be claimed has one
  pub may_ready : (t : Task) → of t ≡ k → MayClaim P R.state t → (entry_of y t ≡ Some (whole_entry P R.state t)) × IsReady (whole_entry P R.state t)
  may_ready t at may = (
    h.there t may.task at ∙ (by_same P t (claim_count R.state t) 0 (arrived P R.state t) (arrived P R.state t) _ _
        may.unclaimed refl refl ∙ full_entry P t (arrived P R.state t) (delivered_tiles P (sent_tile R.state.sends) t)
        may.all_arrived),
    may.all_arrived,
  )

  -- a claim hands out the inputs of its task
  pub claim_inputs : IsConsistent P → IsSoundState P G R.state → (z : Content) (t : Task) (tiles : List FlowTile) → Takes y z t tiles → tiles ≡ inputs P G t
  claim_inputs con sound z t tiles takes =
      let may = ready_may t takes.had.entry takes.had.is takes.had.ready in
      takes.had.handed ∙ ap (λ (x : Entry). x.tiles) (entry_in_table t takes.had.entry takes.had.is).is
      ∙ has_inputs P G con R.state sound t (record { task = may.task; all_arrived = may.all_arrived })

  -- as many tasks of the shard run or have ended as were claimed, so no more than a job may have
  pub numbers_at_most : IsConsistent P → IsSoundState P G R.state → y.running + y.ended ≤ 1000000
  numbers_at_most con sound = omega (arith, h.ended, count-at_most (is_of of k) R.state.claims, claims_at_most P G R.state sound, con.tasks_at_most)

  -- and fewer, if a task is not claimed
  pub numbers_below : IsConsistent P → IsSoundState P G R.state → (t : Task) → IsTask P t → claim_count R.state t ≡ 0 → y.running + y.ended < 1000000
  numbers_below con sound t job free = omega (
    arith,
    h.ended,
    count-at_most (is_of of k) R.state.claims,
    claims_below P
        G R.state sound t job free,
    con.tasks_at_most,
  )

  -- and fewer, if a task has an entry
  pub numbers_with_entry : IsConsistent P → IsSoundState P G R.state → (t : Task) (e : Entry) → entry_of y t ≡ Some e → y.running + y.ended < 1000000
  numbers_with_entry con sound t e is = numbers_below con sound t (h.only t e is).0 (entry_in_table t e is).unclaimed

  -- if a task of the shard runs, the shard's number of running tasks is not 0
  pub some_runs : (t : Task) → of t ≡ k → 0 < run_count R t → 0 < y.running
  some_runs t at runs = omega (arith, h.running, weigh-member (λ u. as_number (is_of of k u)) R.running t (counted_member t R.running runs), one_here of k t at)
