-- Sound moments, and what follows from the bounds of a job.
use Rattle.std.proofs.Common.{◌≡◌, ◌<◌, ◌∷◌, length, ap, sym, ◌∙◌, subst, inl, inr, arith}
use Rattle.ptg_base.specs.Lists.{IsIn}
use Rattle.ptg_base.specs.Task.{Task}
use Rattle.ptg_base.specs.declared.edge.Item.{Item}
use Rattle.list_lemmas.proofs.Tasks.{distinct_once}
use Rattle.list_lemmas.proofs.Distinct.{no_longer}
use Rattle.plan_core.specs.declared.plan.Plan.{Plan}
use Rattle.coll_data.specs.Data.{Data}
use Rattle.dep_iter.specs.Consistent.{IsConsistent}
use Rattle.dep_iter.specs.Tasks.{IsTask, all_tasks}
use Rattle.dep_iter.proofs.CallerLemmas.{listed}
use Rattle.flow_meaning.specs.Ending.{has_outputs}
use Rattle.flow_meaning.specs.Machine.{MachineState, MaySend, claim_count, sender, sent_with, item_from}
use Rattle.flow_meaning.specs.Sound.{IsSoundState, with_its_tile}
use Rattle.flow_meaning.proofs.CallerLemmas.{claim_member, ends_so, member_claim}
use Rattle.shard_meaning.specs.Moment.{IsSoundMoment, MaySendNext, Moment, run_count}
pub use Rattle.flow_meaning.proofs.CallerLemmas.{claims_at_most, unclaimed_unsent}

module _ (P : Plan) (G : Data) (con : IsConsistent P) (R : Moment) (sound : IsSoundMoment P G R) where
  -- a task that runs was claimed
  pub running_claimed : (t : Task) → 0 < run_count R t → IsIn t R.state.claims
  running_claimed t runs = claim_member R.state t (omega (arith, runs, sound.claimed t))

  -- the event machine may send whatever a running task may send next
  pub next_may : (i : Item) → MaySendNext P G R i → MaySend P G R.state i
  next_may i next =
      let claimed = running_claimed (sender i) next.runs in
      record {
        unsent = next.unsent;
        claimed = claimed;
        is_item = next.is_item;
        outputs = ap has_outputs (sym (ends_so P G con R.state sound.state (sender i) (sound.state.claimed_have_all (sender i) claimed))) ∙ next.outputs;
      }

-- what is sent with an item is what its task leaves
pub sent_is : (P : Plan) (G : Data) → IsConsistent P → (S : MachineState) → IsSoundState P G S → (i : Item)
    → MaySend P G S i → sent_with P G S i ≡ with_its_tile P G i
sent_is P G con S sound i may = λ j. item_from (sym (ends_so P G con S sound (sender i) (sound.claimed_have_all (sender i) may.claimed)) j) i

-- if a task is not claimed, fewer tasks are claimed than there are
pub claims_below : (P : Plan) (G : Data) (S : MachineState) → IsSoundState P G S → (t : Task) → IsTask P t
    → claim_count S t ≡ 0 → length S.claims < length (all_tasks P)
claims_below P G S sound t job free =
    let more = no_longer (t ∷ S.claims) (all_tasks P) ((λ i. absurd (omega (arith, free, member_claim S t i))), distinct_once S.claims sound.claimed_once)
    (λ u i. elim i [
      | inl same ↦ subst (λ v. IsIn v (all_tasks P)) (sym same) ((listed P t).0 job)
      | inr claimed ↦
          (listed P u).0 (sound.claimed_have_all u claimed).task
    ]) in
    omega (arith, more)
