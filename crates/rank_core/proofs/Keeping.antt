-- What the ranks and the mail of a world show of it, between two events.
use Rattle.std.proofs.Common.{◌≡◌, ◌<◌, nat_eq, ℕ, true, false, cond, List, [], ◌∷◌, length, refl, ap, sym, ◌∙◌, subst}
use Rattle.std.proofs.Common.{Option, Some, None, slice_get}
use Rattle.std.specs.Cmp.{unsigned_Decides}
use Rattle.std.specs.Map.{lookup}
use Rattle.ptg_base.specs.Entry.{Entry}
use Rattle.ptg_base.specs.Lists.{IsIn}
use Rattle.ptg_base.specs.Task.{Task}
use Rattle.plan_core.specs.declared.plan.Plan.{Plan}
use Rattle.coll_data.specs.Data.{Data}
use Rattle.list_lemmas.proofs.Truth.{by_test}
use Rattle.list_lemmas.proofs.Places.{slice_get_there, place_of_member, IsIn-slice_get}
use Rattle.dep_iter.specs.Consistent.{IsConsistent}
use Rattle.dep_shard.specs.Content.{Content, IsReady, entry_of}
use Rattle.flow_meaning.specs.Machine.{MachineState, MayClaim}
use Rattle.flow_meaning.proofs.CallerLemmas.{rests}
use Rattle.shard_meaning.specs.Calm.{HaveNoWork}
use Rattle.shard_meaning.specs.Opening.{IsOpeningShard}
use Rattle.shard_meaning.proofs.CallerLemmas.{home_below, may_ready, opening_share, ready_may}
use Rattle.shard_answer.specs.Ending.{HoldAnEnd}
use Rattle.rank_core.specs.declared.message.Message.{Message}
use Rattle.rank_core.specs.Sound.{IsSoundWorld}
use Rattle.rank_core.specs.World.{IsQuiet, WorldState, opening_world, rank_of, is_delivered}
use Rattle.rank_core.proofs.Quiet.{quiet_iff}
use Rattle.rank_core.specs.Keeping.{HoldShares, IsUnderWay, idle_moment, unless_delivered}
use Rattle.shard_calls.specs.Opened.{AreOpeningRanks}

-- what is under way
pub under_way_none : (S : MachineState) (m : Message) → None ≡ unless_delivered S (Some m) → is_delivered S m ≡ true
under_way_none S m e = by_test (is_delivered S m) (λ k. k) (λ k. let some : None ≡ Some m = e
    ∙ ap (λ b. cond b None (Some m)) k in absurd cc)

pub under_way_some : (S : MachineState) (o : Option Message) (m : Message) → Some m ≡ unless_delivered S o
    → (o ≡ Some m) × (is_delivered S m ≡ false)
under_way_some S None m e = absurd cc
under_way_some S (Some x) m e =
    by_test (is_delivered S x)
    (λ k. let none : Some m ≡ None = e ∙ ap (λ b. cond b None (Some x)) k in absurd cc)
    (λ k.
    let some : Some m ≡ Some x = e ∙ ap (λ b. cond b None (Some x)) k in
    let same : m ≡ x = cc in
    (ap (λ z. Some z) (sym same), ap (is_delivered S) same ∙ k))

nothing_at : {A : Type 0} (n : ℕ) → slice_get {X = A} [] n ≡ None
nothing_at n = refl

pub opening_mail : IsUnderWay opening_world.machine opening_world.messages []
opening_mail n = ap (unless_delivered opening_world.machine) (sym (nothing_at n))

-- nothing is under way if and only if each message was delivered
all_none : (S : MachineState) (ms : List Message) → ((m : Message) → IsIn m ms → is_delivered S m ≡ true)
    → (n : ℕ) (o : Option Message) → slice_get ms n ≡ o → unless_delivered S o ≡ None
all_none S ms all n None e = refl
all_none S ms all n (Some m) e = ap (λ b. cond b None (Some m)) (all m (IsIn-slice_get ms n m e))

pub mail_empty : (S : MachineState) (ms : List Message) (table : List (ℕ × Message)) → IsUnderWay S ms table
    → ((m : Message) → IsIn m ms → is_delivered S m ≡ true) → table ≡ []
mail_empty S ms [] under all = refl
mail_empty S ms (p ∷ ps) under all =
    let here : lookup (nat_eq p.0) (p ∷ ps) ≡ Some p.1 = ap (λ b. cond b (Some p.1) (lookup (nat_eq p.0) ps))
    ((unsigned_Decides p.0 p.0).1 refl) in
    let none : lookup (nat_eq p.0) (p ∷ ps) ≡ None = under p.0 ∙ all_none S ms all p.0 (slice_get ms p.0) refl in
    let never : Some p.1 ≡ None = sym here ∙ none in
    absurd cc

pub empty_all_delivered : (S : MachineState) (ms : List Message) (table : List (ℕ × Message)) → IsUnderWay S ms table
    → table ≡ [] → (m : Message) → IsIn m ms → is_delivered S m ≡ true
empty_all_delivered S ms table under none m i =
    let p = place_of_member ms m i in
    let at : lookup (nat_eq p.0) table ≡ None = ap (lookup (nat_eq p.0)) none in
    under_way_none S m (sym at ∙ under p.0 ∙ ap (unless_delivered S) p.1)

module _ (P : Plan) (G : Data) (w : WorldState) (ys : List Content) (some : 0 < length ys)
    (shares : HoldShares P G w ys) where
  -- a task that may run has a ready entry at its rank, and conversely
  pub ready_at : (t : Task) (k : ℕ) (y : Content) → slice_get ys k ≡ Some y → rank_of P (length ys) t ≡ k
      → MayClaim P w.machine t → (e : Entry) × (entry_of y t ≡ Some e) × IsReady e
  ready_at t k y e at may = let p = may_ready P G (rank_of P (length ys)) k (idle_moment w.machine) y (shares k y e) t
      at may in (_, p.0, p.1)

  pub quiet_by_ranks : HaveNoWork ys → (t : Task) → MayClaim P w.machine t → ⊥
  quiet_by_ranks idle t may =
      let p = slice_get_there ys (rank_of P (length ys) t) (home_below P (length ys) t some) in
      let e = ready_at t (rank_of P (length ys) t) p.0 p.1 refl may in
      (idle (rank_of P (length ys) t) p.0 p.1).ready t e.0 e.1 e.2

  pub ranks_by_quiet : ((t : Task) → MayClaim P w.machine t → ⊥) → HaveNoWork ys
  ranks_by_quiet none k y e = record {
    ready = λ t f is ready. none t
        (ready_may P G (rank_of P (length ys)) k (idle_moment w.machine) y (shares k y e) t f is ready);
    running = (shares k y e).running;
  }

-- the ranks of a world that was opened
pub opening_shares : (P : Plan) (G : Data) (n : ℕ) (ys : List Content) → AreOpeningRanks P n ys
    → HoldShares P G opening_world ys
opening_shares P G n ys w k y e =
    opening_share P (rank_of P (length ys)) k y (subst (λ m. IsOpeningShard P (rank_of P m) k y) (sym w.count)
    (w.each k y e)) G

-- the ranks of a quiescent world hold an end
pub holds_an_end : (P : Plan) (G : Data) (w : WorldState) (ys : List Content) → IsConsistent P → 0 < length ys
    → IsSoundWorld P G (length ys) w → HoldShares P G w ys → IsQuiet P w → HoldAnEnd P G ys
holds_an_end P G w ys con some sound shares quiet =
    let rest = (rests P G con w.machine sound.state).0 ((quiet_iff P G con (length ys) w sound).0 quiet) in
    record {
      of = rank_of P (length ys);
      moment = idle_moment w.machine;
      placed = λ t job. home_below P (length ys) t some;
      shares = shares;
      sound = sound.state;
      calm = record { none_ready = quiet.none_may_run; none_runs = refl };
      finished = λ t c none. rest.all_finished t c;
    }
