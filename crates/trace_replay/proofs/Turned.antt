-- What the runs of tasks leave in a world of one rank.
use Rattle.std.proofs.Common.{◌≡◌, ℕ, suc, ◌+◌, ◌<◌, ◌==◌, ◌↔◌, Bool, true, false, not, List, [], ◌∷◌, ◌++◌, length}
use Rattle.std.proofs.Common.{take, drop, slice_get, Some, get_or, ap, sym, ◌∙◌, subst, inl, inr, IsTrue, if◌then◌else◌}
use Rattle.std.proofs.Common.{arith}
use Rattle.std.proofs.lemmas.Bool.{false≢true}
use Rattle.std.proofs.lemmas.List.{take_more, take-append-drop}
use Rattle.ptg_base.specs.Lists.{IsIn}
use Rattle.ptg_base.specs.Task.{Task}
use Rattle.ptg_base.specs.declared.edge.Edge.{Edge}
use Rattle.ptg_base.specs.declared.edge.Item.{Item}
use Rattle.plan_core.specs.declared.plan.Plan.{Plan}
use Rattle.coll_data.specs.Data.{Data}
use Rattle.dep_iter.specs.Tasks.{IsTask}
use Rattle.dep_iter.specs.Items.{items, out_edges}
use Rattle.dep_iter.specs.Consistent.{IsConsistent}
use Rattle.flow_meaning.specs.Answer.{ran}
use Rattle.flow_meaning.specs.Backward.{ended}
use Rattle.flow_meaning.specs.Ending.{has_outputs}
use Rattle.flow_meaning.specs.Machine.{MayClaim}
use Rattle.flow_meaning.specs.Sound.{IsFinished}
use Rattle.flow_meaning.proofs.CallerLemmas.{claims_are_ran, it_ends, member_claim, rests}
use Rattle.shard_meaning.proofs.CallerLemmas.{home_below}
use Rattle.rank_core.specs.Sound.{IsSoundWorld}
use Rattle.rank_core.specs.World.{IsQuiet, WorldState, is_between, items_within, rank_of}
use Rattle.rank_core.proofs.CallerLemmas.{quiet_iff, within_or_between}
use Rattle.rank_core.specs.Views.{WorldView, with_run}
use Rattle.trace_core.specs.Orders.{MayRunAfter}
use Rattle.trace_core.proofs.CallerLemmas.{may_push, ran_ends}
use Rattle.list_lemmas.proofs.Members.{IsIn-filter}
use Rattle.list_lemmas.proofs.Places.{drop_from}
use Rattle.list_lemmas.proofs.Tasks.{all_or_absent}
use Rattle.list_lemmas.proofs.Truth.{by_test}
use Rattle.trace_replay.specs.Replaying.{HasRunInOrder, IsOfOneRank, StopsAt}
use Rattle.trace_replay.proofs.Following.{may_follow_finished}

-- if there is one rank, each task belongs to it, and no item needs a message
module _ (P : Plan) where
  of_one_rank : (t : Task) → rank_of P 1 t ≡ 0
  of_one_rank t = omega (arith, home_below P 1 t (omega arith))

  none_between : (e : Edge) → is_between P 1 e ≡ false
  none_between e = λ i. not (of_one_rank e.from i == of_one_rank e.to i)

  all_within : (t : Task) (x : Item) → IsIn x (items P t) → IsIn x (items_within P 1 t)
  all_within t x m = elim (within_or_between P t 1 x m) [
    | inl here ↦ here
    | inr away ↦ absurd (false≢true (sym (none_between away.edge) ∙ ((IsIn-filter (is_between P 1) (out_edges P t) away.edge).0 away.among).1))
  ]

-- so a task that has run is finished
finished : (P : Plan) (G : Data) (v : WorldState) → IsSoundWorld P G 1 v → (u : Task) → IsIn u v.machine.claims → IsFinished P G v.machine u
finished P G v sound u c = by_test (has_outputs (ended P G u)) (λ o. inr (λ x m. sound.within u x c o (all_within P u x m))) (λ o. inl o)

module _ (P : Plan) (G : Data) (con : IsConsistent P) (ts : List Task) (w : WorldView) (h : HasRunInOrder P G ts w) where
  -- a task runs if and only if it may
  runs_or_not : (t : Task) → IsTask P t → MayClaim P w.state.machine t ↔ MayRunAfter P G ts t
  runs_or_not t job =
      let law = may_follow_finished P G con w.state.machine h.world.sound.state (finished P G w.state h.world.sound) t job in (
        λ may.
            let p = law.0 may in
            record {
              follows = record {
                task = job;
                first_time = λ i. p.0 (subst (IsIn t) (sym h.claims) i);
                after_sources = λ e i. subst (IsIn e.from) h.claims (p.1 e i).0;
              };
              have_outputs = λ e i. (p.1 e i).1;
            },
        λ may. law.1 (
          λ i. may.follows.first_time (subst (IsIn t) h.claims i),
          λ e i. (subst (IsIn e.from) (sym h.claims) (may.follows.after_sources e i), may.have_outputs e i),
        ),
      )

  of_plan : (t : Task) → MayClaim w.plan w.state.machine t ↔ MayClaim P w.state.machine t
  of_plan t = (subst (λ p. MayClaim p w.state.machine t) h.world.plan, subst (λ p. MayClaim p w.state.machine t) (sym h.world.plan))

  pub ran_more : (t : Task) (new : WorldView) (b : Bool) → IsTask P t → b ≡ true
      → IsTrue b ↔ MayClaim w.plan w.state.machine t → new ≡ (if b then with_run t w else w)
      → IsSoundWorld new.plan new.given new.ranks new.state → HasRunInOrder P G (ts ++ t ∷ []) new
  ran_more t new b job does exact is sound =
      let same : new ≡ with_run t w = is ∙ ap (λ c. if c then with_run t w else w) does in
      let plan : new.plan ≡ P = ap (λ (v : WorldView). v.plan) same ∙ h.world.plan in
      let given : new.given ≡ G = ap (λ (v : WorldView). v.given) same ∙ h.world.given in
      let ranks : new.ranks ≡ 1 = ap (λ (v : WorldView). v.ranks) same ∙ h.world.ranks in
      record {
        world = record {
          plan = plan;
          given = given;
          ranks = ranks;
          sound = subst (λ p. IsSoundWorld p G 1 new.state) plan
              (subst (λ g. IsSoundWorld new.plan g 1 new.state) given
              (subst (λ r. IsSoundWorld new.plan new.given r new.state) ranks sound));
        };
        claims = ap (λ (v : WorldView). v.state.machine.claims) same ∙ ap (λ l. l ++ t ∷ []) h.claims;
        may_run = may_push P G [] ts t h.may_run ((runs_or_not t job).0 ((of_plan t).0 (exact.0 does)));
      }

  pub stopped_here : (all later : List Task) (t : Task) (index : ℕ) (b : Bool) → IsTask P t → b ≡ false
      → IsTrue b ↔ MayClaim w.plan w.state.machine t → all ≡ ts ++ t ∷ later → index ≡ length ts → StopsAt P G all index
  stopped_here all later t index b job not_ran exact split at = record {
    before = ts;
    stopped = t;
    later = later;
    split = split;
    may_run = h.may_run;
    early = λ may. false≢true (sym not_ran ∙ exact.1 ((of_plan t).1 ((runs_or_not t job).1 may)));
    is_index = at;
  }

-- a world of one rank is quiet if and only if each task that runs has run there
module _ (P : Plan) (G : Data) (con : IsConsistent P) (w : WorldView) (o : IsOfOneRank P G w) where
  pub quiet_all : IsQuiet w.plan w.state → (t : Task) → IsIn t (ran P G) → IsIn t w.state.machine.claims
  quiet_all quiet t i = (claims_are_ran P G con w.state.machine o.sound.state
      ((quiet_iff P G con 1 w.state o.sound).0 (subst (λ p. IsQuiet p w.state) o.plan quiet)) t).1 i

  all_quiet : ((t : Task) → IsIn t (ran P G) → IsIn t w.state.machine.claims) → IsQuiet w.plan w.state
  all_quiet all = subst (λ p. IsQuiet p w.state) (sym o.plan)
      ((quiet_iff P G con 1 w.state o.sound).1 ((rests P G con w.state.machine o.sound.state).1 (record {
        none_ready = λ t may.
            let runs = it_ends P G con w.state.machine o.sound.state t (record { task = may.task; all_arrived = may.all_arrived }) in
            let claimed = member_claim w.state.machine t (all t ((ran_ends P G con t).1 (may.task, runs))) in
            let none = may.unclaimed in
            absurd (omega arith);
        all_finished = finished P G w.state o.sound;
      })))

  pub one_missing : (quiet : Bool) → quiet ≡ false → IsTrue quiet ↔ IsQuiet w.plan w.state → (t : Task) × IsIn t (ran P G) × (IsIn t w.state.machine.claims → ⊥)
  one_missing quiet loud exact = elim (all_or_absent w.state.machine.claims (ran P G)) [
    | inl all ↦ absurd (false≢true (sym loud ∙ exact.1 (all_quiet all)))
    | inr p ↦ p
  ]

-- the list so far, one more task, and those after it
pub split_at : (ts : List Task) (n : ℕ) (t : Task) → slice_get ts n ≡ Some t → ts ≡ take n ts ++ t ∷ drop (suc n) ts
split_at ts n t at = sym (take-append-drop n ts) ∙ ap (λ l. take n ts ++ l) (drop_from ts n t at)

pub take_one_more : (ts : List Task) (n : ℕ) (t d : Task) → n < length ts → t ≡ get_or ts n d → take n ts ++ t ∷ [] ≡ take (n + 1) ts
take_one_more ts n t d lt is = ap (λ u. take n ts ++ u ∷ []) is ∙ sym (take_more ts n d lt)
