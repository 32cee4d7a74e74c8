-- Where the events of a driven world lead, and that each turn leaves fewer turns.
use Rattle.std.proofs.Common.{◌≡◌, ℕ, zero, suc, ◌<◌, ◌≤◌, Bool, true, false, cond, not, List, [], ◌∷◌, ◌++◌, map}
use Rattle.std.proofs.Common.{length, refl, ap, sym, ◌∙◌, subst, inl, inr, Option, Some, None, IfNone, is_some, nat_lt}
use Rattle.std.proofs.Common.{Result, Ok, Err, OnOk, OnErr, IfOk, IsTrue, ◌↔◌, slice_get, arith}
use Rattle.std.proofs.lemmas.Bool.{ltb-false, ltb-true, lt-ltb, false≢true}
use Rattle.std.proofs.lemmas.List.{length-map}
use Rattle.std.specs.Option.{option_map_or}
use Rattle.ptg_base.specs.Lists.{HasNoRepeats, IsIn}
use Rattle.ptg_base.specs.Task.{Task}
use Rattle.ptg_base.specs.declared.edge.Item.TheVariants as item
use Rattle.plan_core.specs.declared.plan.Plan.{Plan}
use Rattle.coll_data.specs.Data.{Data}
use Rattle.list_lemmas.proofs.Truth.{by_test, contrapositive}
use Rattle.list_lemmas.proofs.Counts.{count-at_most, count-le, weigh-append, weigh-push, without, without-weigh, still}
use Rattle.list_lemmas.proofs.Tasks.{distinct_once}
use Rattle.list_lemmas.proofs.Places.{slice_get_member}
use Rattle.dep_iter.specs.Tasks.{all_tasks}
use Rattle.dep_iter.proofs.CallerLemmas.{listed}
use Rattle.flow_meaning.specs.Comparing.{same_item}
use Rattle.list_lemmas.specs.Counting.{as_number, count, weigh}
use Rattle.flow_meaning.specs.Ending.{Ended, has_outputs}
use Rattle.flow_meaning.specs.Machine.{MachineState, MayClaim, SentItem, end_in, send_count}
use Rattle.flow_meaning.specs.Sound.{IsSoundState}
use Rattle.flow_meaning.proofs.CallerLemmas.{same_item-decides}
use Rattle.rank_core.specs.declared.message.Message.{Message}
use Rattle.rank_core.specs.Sound.{IsSoundWorld}
use Rattle.rank_core.specs.World.{Deliver, HappenIn, Run, WorldEvent, WorldState, edges_between, items_by, message_from}
use Rattle.rank_core.specs.World.{messages_by, rank_of, is_delivered, with_message, world_after}
use Rattle.rank_core.proofs.Worlds.{delivery_claims, delivery_keeps, still_sent}
use Rattle.rank_core.specs.Driving.{IsLaterWorld, turns_left, turns_of}
use Rattle.rank_core.specs.Views.{WorldView, with_delivery, with_run}
use Rattle.shard_meaning.proofs.CallerLemmas.{home_below}

-- events that happen after others
happen-append : (P : Plan) (G : Data) (r : ℕ) (es fs : List WorldEvent) (w v u : WorldState) → HappenIn P G r es w v
    → HappenIn P G r fs v u → HappenIn P G r (es ++ fs) w u
happen-append P G r [] fs w v u h k = subst (λ x. HappenIn P G r fs x u) (sym h) k
happen-append P G r (e ∷ es) fs w v u h k = (h.0, happen-append P G r es fs (world_after P G r w e) v u h.1 k)

pub later_itself : (w : WorldView) → IsLaterWorld w w
later_itself w = record { plan = refl; given = refl; ranks = refl; events = []; happen = refl }

pub later_still : (a b c : WorldView) → IsLaterWorld a b → IsLaterWorld b c → IsLaterWorld a c
later_still a b c h k = record {
  plan = k.plan ∙ h.plan;
  given = k.given ∙ h.given;
  ranks = k.ranks ∙ h.ranks;
  events = h.events ++ k.events;
  happen = happen-append a.plan a.given a.ranks h.events k.events a.state b.state c.state h.happen
      (subst (λ P. HappenIn P a.given a.ranks k.events b.state c.state) h.plan
      (subst (λ G. HappenIn b.plan G a.ranks k.events b.state c.state) h.given
      (subst (λ r. HappenIn b.plan b.given r k.events b.state c.state) h.ranks k.happen)));
}

pub later_by_run : (w : WorldView) (t : Task) → MayClaim w.plan w.state.machine t → IsLaterWorld w (with_run t w)
later_by_run w t may = record { plan = refl; given = refl; ranks = refl; events = Run t ∷ []; happen = (may, refl) }

pub later_by_delivery : (w : WorldView) (n : ℕ) → n < length w.state.messages → IsLaterWorld w (with_delivery n w)
later_by_delivery w n near = record {
  plan = refl;
  given = refl;
  ranks = refl;
  events = Deliver n ∷ [];
  happen = (near, refl);
}

-- a list without repeats whose members are all in another weighs no more than it
weighs_less : {A : Type 0} (f : A → ℕ) (xs ys : List A) → HasNoRepeats xs → ((t : A) → IsIn t xs → IsIn t ys)
    → weigh f xs ≤ weigh f ys
weighs_less f [] ys once among = omega arith
weighs_less f (x ∷ xs) ys once among =
    let i = among x (inl refl) in
    let rest : weigh f xs ≤ weigh f (without x ys i) =
    weighs_less f xs (without x ys i) once.1 (λ t j. still x t ys i (among t (inr j))
    (λ same. once.0 (subst (λ u. IsIn u xs) same j))) in
    omega (arith, rest, without-weigh f x ys i)

-- the tasks that were claimed weigh no more than all
claims_weigh : (P : Plan) (G : Data) (f : Task → ℕ) (S : MachineState) → IsSoundState P G S
    → weigh f S.claims ≤ weigh f (all_tasks P)
claims_weigh P G f S sound = weighs_less f S.claims (all_tasks P) (distinct_once S.claims sound.claimed_once)
    (λ t i. (listed P t).0 (sound.claimed_have_all t i).task)

-- no message becomes late that was not late before
later_late : (S T : MachineState) (ms : List Message) → ((m : Message) → is_delivered S m ≡ true
    → is_delivered T m ≡ true) → count (λ m. not (is_delivered T m)) ms ≤ count (λ m. not (is_delivered S m)) ms
later_late S T ms keeps = count-le (λ m. not (is_delivered T m)) (λ m. not (is_delivered S m)) ms
    (λ m i k. contrapositive (is_delivered S m) (is_delivered T m) (keeps m) k)

-- if one more message is delivered, fewer are late
one_less : {A : Type 0} (p q : A → Bool) (xs : List A) (n : ℕ) (x : A) → slice_get xs n ≡ Some x → p x ≡ false
    → q x ≡ true → ((y : A) → p y ≡ true → q y ≡ true) → count p xs < count q xs
one_less p q [] n x e none some keeps = absurd cc
one_less {A} p q (y ∷ ys) zero x e none some keeps =
    let same : y ≡ x = head y e in
    omega (arith, ap as_number (ap p same ∙ none), ap as_number (ap q same ∙ some), count-le p q ys (λ z i. keeps z))
  where
    head : (z : A) → Some z ≡ Some x → z ≡ x
    head z k = cc
one_less p q (y ∷ ys) (suc n) x e none some keeps = by_test (p y)
    (λ k. omega (arith, ap as_number k, ap as_number (keeps y k), one_less p q ys n x e none some keeps))
    (λ k. omega (arith, ap as_number k, one_less p q ys n x e none some keeps))

-- a task sends at most one message for each of its edges to other ranks
few_messages : (P : Plan) (r : ℕ) (t : Task) (end : Option Ended)
    → length (messages_by P r t end) ≤ length (edges_between P r t)
few_messages P r t end = by (has_outputs end)
  where
    by : (b : Bool) → length (cond b (map (message_from end) (edges_between P r t)) []) ≤ length (edges_between P r t)
    by true = omega (arith, length-map (edges_between P r t) (message_from end))
    by false = omega arith

-- a run leaves fewer turns
pub run_leaves_less : (w : WorldView) (t : Task) → IsSoundWorld w.plan w.given w.ranks (with_run t w).state
    → turns_left (with_run t w) < turns_left w
unfolding turns_left
run_leaves_less w t sound =
    let f : Task → ℕ = turns_of w.plan w.ranks in
    let S : MachineState = w.state.machine in
    let end : Option Ended = end_in w.plan w.given w.state.machine t in
    let more : List Message = messages_by w.plan w.ranks t (end_in w.plan w.given w.state.machine t) in
    let T : MachineState = (with_run t w).state.machine in
    let all = claims_weigh w.plan w.given (turns_of w.plan w.ranks) (with_run t w).state.machine sound.state in
    let one = weigh-push (turns_of w.plan w.ranks) w.state.machine.claims t in
    let parts = weigh-append (λ (m : Message). as_number (not (is_delivered (with_run t w).state.machine m)))
    w.state.messages more in
    let old = later_late w.state.machine (with_run t w).state.machine w.state.messages
    (λ m k. still_sent w.state.machine (w.state.machine.claims ++ t ∷ [])
    (items_by w.plan w.ranks t (end_in w.plan w.given w.state.machine t)) (item.Edge m.edge) k) in
    let new = count-at_most (λ (m : Message). not (is_delivered (with_run t w).state.machine m)) more in
    let few = few_messages w.plan w.ranks t end in
    omega (arith, all, one, parts, old, new, few)

module _ (w : WorldView) (n : ℕ) (m : Message) (is : slice_get w.state.messages n ≡ Some m) where
  come : (with_delivery n w).state.machine ≡ with_message w.state.machine m
  come = ap (λ o. option_map_or (with_message w.state.machine) o w.state.machine) is

  same_claims : (with_delivery n w).state.machine.claims ≡ w.state.machine.claims
  same_claims = ap (λ (S : MachineState). S.claims) come ∙ delivery_claims w.state.machine m

  keeps : (x : Message) → is_delivered w.state.machine x ≡ true
      → is_delivered (with_delivery n w).state.machine x ≡ true
  keeps x k = ap (λ S. is_delivered S x) come ∙ delivery_keeps w.state.machine m (item.Edge x.edge) k

  -- a delivery leaves no more turns
  pub delivery_leaves_no_more : turns_left (with_delivery n w) ≤ turns_left w
  unfolding turns_left
  delivery_leaves_no_more = omega (
    arith,
    ap (weigh (turns_of w.plan w.ranks)) same_claims,
    later_late w.state.machine
        (with_delivery n w).state.machine w.state.messages keeps,
  )

  delivered_then : is_delivered w.state.machine m ≡ false → is_delivered (with_delivery n w).state.machine m ≡ true
  delivered_then new =
      let T : MachineState = record {
        claims = w.state.machine.claims;
        sends = w.state.machine.sends ++ record { item = item.Edge m.edge; tile = m.tile } ∷ [];
      } in
      let sum = weigh-push (λ (x : SentItem). as_number (same_item (item.Edge m.edge) x.item)) w.state.machine.sends
      (record { item = item.Edge m.edge; tile = m.tile }) in
      ap (λ S. is_delivered S m) (come ∙ ap (λ b. cond b w.state.machine
      (record {
        claims = w.state.machine.claims;
        sends = w.state.machine.sends ++ record
            { item = item.Edge m.edge; tile = m.tile } ∷ [];
      })) new)
      ∙ lt-ltb 0 (send_count (record {
        claims = w.state.machine.claims;
        sends = w.state.machine.sends ++ record { item = item.Edge m.edge; tile = m.tile } ∷ [];
      }) (item.Edge m.edge))
      (omega (arith, sum, ap as_number ((same_item-decides (item.Edge m.edge) (item.Edge m.edge)).1 refl)))

  -- the delivery of a late message leaves fewer
  pub delivery_leaves_less : is_delivered w.state.machine m ≡ false → turns_left (with_delivery n w) < turns_left w
  unfolding turns_left
  delivery_leaves_less new =
      let late = one_less (λ x. not (is_delivered (with_delivery n w).state.machine x))
      (λ x. not (is_delivered w.state.machine x)) w.state.messages n m is (ap not (delivered_then new)) (ap not new)
      (λ x k. contrapositive (is_delivered w.state.machine x) (is_delivered (with_delivery n w).state.machine x)
      (keeps x) k) in
      omega (arith, ap (weigh (turns_of w.plan w.ranks)) same_claims, late)

-- what a call of `deliver` does
module _ {E : Type 0} (a b : WorldView) (n : ℕ) (near : n < length a.state.messages) where
  pub delivered_later : (r : Result Bool E) → OnOk r (b ≡ with_delivery n a) → OnErr r (b ≡ a) → IsLaterWorld a b
  delivered_later (Ok came) ok err = subst (λ w. IsLaterWorld a w) (sym ok) (later_by_delivery a n near)
  delivered_later (Err e) ok err = subst (λ w. IsLaterWorld a w) (sym err) (later_itself a)

  pub delivered_no_more : (r : Result Bool E) → OnOk r (b ≡ with_delivery n a) → OnErr r (b ≡ a)
      → turns_left b ≤ turns_left a
  delivered_no_more (Ok came) ok err = let p = slice_get_member a.state.messages n near in omega
      (arith, ap turns_left ok, delivery_leaves_no_more a n p.0 p.1)
  delivered_no_more (Err e) ok err = omega (arith, ap turns_left err)

  pub delivered_less : (m : Message) → slice_get a.state.messages n ≡ Some m → is_delivered a.state.machine m ≡ false
      → (r : Result Bool E) → OnOk r (b ≡ with_delivery n a)
      → IfOk r (λ came. came ≡ true → turns_left b < turns_left a)
  delivered_less m is late (Ok came) ok = λ k. omega (arith, ap turns_left ok, delivery_leaves_less a n m is late)
  delivered_less m is late (Err e) ok = ok

-- what a call of `run` does with a task that may run
ran_so : (a b : WorldView) (t : Task) (ran : Bool) → ran ≡ true → b ≡ cond ran (with_run t a) a → b ≡ with_run t a
ran_so a b t true holds is = is
ran_so a b t false holds is = absurd (false≢true holds)

module _ {E : Type 0} (a b : WorldView) (t : Task) (may : MayClaim a.plan a.state.machine t) where
  pub ran_later : (r : Result Bool E) → IfOk r (λ ran. IsTrue ran ↔ MayClaim a.plan a.state.machine t)
      → IfOk r (λ ran. b ≡ cond ran (with_run t a) a) → OnErr r (b ≡ a) → IsLaterWorld a b
  ran_later (Ok ran) exact ok err = subst (λ w. IsLaterWorld a w) (sym (ran_so a b t ran (exact.1 may) ok))
      (later_by_run a t may)
  ran_later (Err e) exact ok err = subst (λ w. IsLaterWorld a w) (sym err) (later_itself a)

  pub ran_less : IsSoundWorld b.plan b.given b.ranks b.state → (r : Result Bool E)
      → IfOk r (λ ran. b ≡ cond ran (with_run t a) a) → IfOk r (λ ran. ran ≡ true → turns_left b < turns_left a)
  ran_less sound (Ok ran) ok = λ holds.
      let is = ran_so a b t ran holds ok in
      omega (
        arith,
        ap turns_left is,
        run_leaves_less a t (subst
            (λ (w : WorldView). IsSoundWorld w.plan w.given w.ranks w.state) is sound),
      )
  ran_less sound (Err e) ok = ok

-- if neither the ranks from one on nor those before it have a task that may run, no rank has
pub none_ready : {A : Type 0} (w v : WorldView) (first : ℕ) (a b : Option A) → v ≡ w → first < w.ranks
    → is_some a ≡ false
    → IfNone a ((t : Task) → first ≤ rank_of w.plan w.ranks t → rank_of w.plan w.ranks t < w.ranks
    → MayClaim w.plan w.state.machine t → ⊥)
    → IfNone b ((t : Task) → 0 ≤ rank_of v.plan v.ranks t → rank_of v.plan v.ranks t < first
    → MayClaim v.plan v.state.machine t → ⊥)
    → IfNone b ((t : Task) → MayClaim w.plan w.state.machine t → ⊥)
none_ready w v first (Some x) b same near none upper lower = absurd (false≢true (sym none))
none_ready w v first None (Some x) same near none upper lower = lower
none_ready w v first None None same near none upper lower = λ t may.
    let below : (t : Task) → 0 ≤ rank_of w.plan w.ranks t → rank_of w.plan w.ranks t < first
    → MayClaim w.plan w.state.machine t → ⊥ =
    subst (λ (u : WorldView). (t : Task) → 0 ≤ rank_of u.plan u.ranks t → rank_of u.plan u.ranks t < first
    → MayClaim u.plan u.state.machine t → ⊥) same lower in
    by_test (nat_lt (rank_of w.plan w.ranks t) first)
    (λ k. below t (omega arith) (ltb-true (rank_of w.plan w.ranks t) first k) may)
    (λ k. upper t (ltb-false (rank_of w.plan w.ranks t) first k) (home_below w.plan w.ranks t (omega (arith, near)))
    may)
