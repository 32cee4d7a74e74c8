-- How passes are joined, and the shards of a table that was closed.
use Rattle.std.proofs.Common.{◌≡◌, ℕ, zero, suc, ◌<◌, ◌≤◌, List, [], ◌∷◌, ◌++◌, length, map, sym, refl, ap, ◌∙◌}
use Rattle.std.proofs.Common.{subst, arith, Some, slice_get, ◌⊎◌, inl, inr, true, ◌||◌}
use Rattle.std.proofs.lemmas.List.{append-nil, map-append}
use Rattle.std.specs.List.{flat_map}
use mathlib.Core.Option.{some, some-injective, some-ne-none}
use lib.ListN.{get_elem?}
use Rattle.table_rule.specs.Seats.{TableId}
use Rattle.ptg_base.specs.Lists.{IsIn}
use Rattle.ptg_base.specs.Task.{Task}
use Rattle.list_lemmas.proofs.Members.{IsIn-append_left, IsIn-append_right, from_append}
use Rattle.list_lemmas.proofs.Counts.{weigh-append}
use Rattle.std.proofs.lemmas.Bool.{or_right}
use Rattle.std.proofs.lemmas.Option.{slice_get_within}
use Rattle.dep_shard.specs.Content.{Content}
use Rattle.list_lemmas.specs.Counting.{HasSameMembers, weigh}
use Rattle.shard_meaning.specs.Calm.{HaveNoWork}
use Rattle.shard_meaning.specs.Moment.{Moment}
use Rattle.work_board.specs.Stamps.{StampedTask}
use Rattle.work_board.specs.declared.record.PassRecord.{PassRecord}
use Rattle.table_rule.specs.declared.table_job.TableJob.{TableJob}
use Rattle.table_rule.specs.Changes.{both}
use Rattle.table_rule.specs.Names.{AreAll}
use Rattle.table_rule.specs.Live.{own_claims, own_stamps}
use Rattle.table_rule.specs.Plays.{HasName, WereLeft}
use Rattle.table_rule.specs.Records.{joined, joined_handed, moment_of}
use Rattle.table_rule.specs.Rule.{Parts, Share}
use Rattle.table_rule.proofs.CallerLemmas.{alone_free, alone_parts, alone_stamps, handed_same, join_all, order_all}
use Rattle.dep_table.specs.Closing.{AreAllPasses, IsClosedAt}
use Rattle.dep_table.specs.Passes.{IsPassOf}
use Rattle.dep_table.specs.StampOrders.{AreInStampOrder, IsClaimOrder, joined_stamps}
use Rattle.dep_table.specs.Views.{PassView, shown}
use Rattle.dep_table.proofs.Quiets.{calm_closed}
use Rattle.dep_table.proofs.StampOrders.{stamp_order}

-- two lists at the end, or the two as one
joined_two : {A : Type 0} (f : PassRecord → List A) (l : List PassRecord) (v w b : PassRecord) → f b ≡ f v ++ f w
    → flat_map f ((l ++ v ∷ []) ++ w ∷ []) ≡ flat_map f (l ++ b ∷ [])
joined_two f [] v w b e = ap (λ x. f v ++ x) (append-nil (f w)) ∙ (sym e ∙ sym (append-nil (f b)))
joined_two f (u ∷ l) v w b e = ap (λ x. f u ++ x) (joined_two f l v w b e)

both_joined : (l : List PassRecord) (v w : PassRecord) → joined ((l ++ v ∷ []) ++ w ∷ []) ≡ joined (l ++ both v w ∷ [])
both_joined l v w = λ i. record {
  state = record {
    claims = joined_two (λ (u : PassRecord). u.claims) l v w (both v w) refl i;
    sends = joined_two (λ (u : PassRecord). u.sends) l v w (both v w) refl i;
  };
  running = joined_two (λ (u : PassRecord). u.running) l v w (both v w) refl i;
}

-- each claim of a pass has a stamp
abbrev HasStamps : PassRecord → Type 0
HasStamps v = (t : Task) → IsIn t v.claims → (stamp : ℕ) × IsIn (t, stamp) v.stamps

both_stamped : (v w : PassRecord) → HasStamps v → HasStamps w → HasStamps (both v w)
both_stamped v w a b t i = elim (from_append t v.claims w.claims i) [
  | inl one ↦ let s = a t one in (s.0, IsIn-append_left (t, s.0) v.stamps w.stamps s.1)
  | inr other ↦ let s = b t other in (s.0, IsIn-append_right (t, s.0) v.stamps w.stamps s.1)
]

both_drew : (l : List PassRecord) (v w : PassRecord) → joined_stamps ((l ++ v ∷ []) ++ w ∷ []) ≡ joined_stamps (l ++ both v w ∷ [])
both_drew l v w = joined_two (λ (u : PassRecord). u.stamps) l v w (both v w) refl

both_handed : (l : List PassRecord) (v w : PassRecord)
    → joined_handed ((l ++ v ∷ []) ++ w ∷ []) ≡ joined_handed (l ++ both v w ∷ [])
both_handed l v w = joined_two (λ (u : PassRecord). u.handed) l v w (both v w) refl

-- some passes that are left, and one that has taken over the others
pub record IsJoinedSoFar (table : TableId) (ps left : List PassView) (last : PassView) : Type 0 where
  pub of : last.table ≡ table
  pub no_shard : last.me.1 ≡ []
  pub no_turn : (shown last).turns ≡ []
  pub each : (p : PassView) → IsIn p left → IsPassOf table p
  pub all : AreAll (shown last ∷ map shown left)
  pub did : joined (map shown left ++ shown last ∷ []) ≡ joined (map shown ps)
  pub handed : joined_handed (map shown left ++ shown last ∷ []) ≡ joined_handed (map shown ps)
  pub drew : joined_stamps (map shown left ++ shown last ∷ []) ≡ joined_stamps (map shown ps)
  pub stamped : HasStamps (shown last)
  pub quiet : (p : PassView) → IsIn p ps → (shown p).quiet ≡ true → IsIn p left ⊎ ((shown last).quiet ≡ true)

pub has_one_name : (p : PassView) (table : TableId) → IsPassOf table p → HasName (shown p)
has_one_name p table w = omega (arith, w.clean.one_name)

last_first : (l : List PassView) (p : PassView) → HasSameMembers (map shown (l ++ p ∷ [])) (shown p ∷ map shown l)
last_first l p = λ f. ap (weigh f) (map-append shown l (p ∷ [])) ∙ omega (arith, weigh-append f (map shown l) (shown p ∷ []))

-- a pass that has seen quiet is among those that are left, or is the last one
left_or_last : (q : PassView) (left : List PassView) (p : PassView) → (shown q).quiet ≡ true → IsIn q (left ++ p ∷ []) → IsIn q left ⊎ ((shown p).quiet ≡ true)
left_or_last q left p k i = elim (from_append q left (p ∷ []) i) [
  | inl there ↦ inl there
  | inr here ↦ elim here [ inl e ↦ inr (ap (λ (x : PassView). (shown x).quiet) (sym e) ∙ k) | inr never ↦ absurd never ]
]

-- the first pass that is taken
pub joined_first : (table : TableId) (ps left : List PassView) (p : PassView) → ps ≡ left ++ p ∷ [] → AreAllPasses table ps → IsJoinedSoFar table ps left p
joined_first table ps left p is a =
    let w = a.each p (subst (IsIn p) (sym is) (IsIn-append_right p left (p ∷ []) (inl refl))) in record {
      of = w.of;
      no_shard = w.clean.no_shard;
      no_turn = w.clean.clean.no_turn;
      each = λ q i. a.each q (subst (IsIn q) (sym is) (IsIn-append_left q left (p ∷ []) i));
      all = order_all (map shown (left ++ p ∷ [])) (shown p ∷ map shown left) (last_first left p) (subst (λ l. AreAll (map shown l)) is a.all);
      did = ap joined (sym (map-append shown left (p ∷ []))) ∙ ap (λ l. joined (map shown l)) (sym is);
      handed = ap joined_handed (sym (map-append shown left (p ∷ [])))
          ∙ ap (λ l. joined_handed (map shown l)) (sym is);
      drew = ap joined_stamps (sym (map-append shown left (p ∷ []))) ∙ ap (λ l. joined_stamps (map shown l)) (sym is);
      stamped = w.clean.clean.stamped;
      quiet = λ q i k. left_or_last q left p k (subst (IsIn q) is i);
    }

-- one pass more
pub joined_next : (table : TableId) (ps before left : List PassView) (p last new : PassView) → before ≡ left ++ p ∷ []
    → new.table ≡ p.table → new.me ≡ (both (shown p) (shown last), p.me.1) → IsJoinedSoFar table ps before last
    → IsJoinedSoFar table ps left new
joined_next table ps before left p last new is of me a =
    let w = a.each p (subst (IsIn p) (sym is) (IsIn-append_right p left (p ∷ []) (inl refl))) in
    let now : shown new ≡ both (shown p) (shown last) = ap (λ (m : PassRecord × List (ℕ × Content)). m.0) me in
    let swap : HasSameMembers (shown last ∷ map shown before) (shown p ∷ shown last ∷ map shown left) =
    λ f. let e = last_first left p f in let g = ap (λ l. weigh f (map shown l)) is in omega (arith, e, g) in record {
      of = of ∙ w.of;
      no_shard = ap (λ (m : PassRecord × List (ℕ × Content)). m.1) me ∙ w.clean.no_shard;
      no_turn = ap (λ (v : PassRecord). v.turns) now ∙ (ap (λ l. l ++ (shown last).turns) w.clean.clean.no_turn ∙ a.no_turn);
      each = λ q i. a.each q (subst (IsIn q) (sym is) (IsIn-append_left q left (p ∷ []) i));
      all = subst (λ v. AreAll (v ∷ map shown left)) (sym now)
          (join_all (shown p) (shown last) (map shown left) (order_all (shown last ∷ map shown before)
          (shown p ∷ shown last ∷ map shown left) swap a.all));
      did = ap (λ v. joined (map shown left ++ v ∷ [])) now
          ∙ (sym (both_joined (map shown left) (shown p) (shown last))
          ∙ (ap (λ l. joined (l ++ shown last ∷ [])) (sym (map-append shown left (p ∷ [])))
          ∙ (ap (λ l. joined (map shown l ++ shown last ∷ [])) (sym is) ∙ a.did)));
      handed = ap (λ v. joined_handed (map shown left ++ v ∷ [])) now
          ∙ (sym (both_handed (map shown left) (shown p) (shown last))
          ∙ (ap (λ l. joined_handed (l ++ shown last ∷ [])) (sym (map-append shown left (p ∷ [])))
          ∙ (ap (λ l. joined_handed (map shown l ++ shown last ∷ [])) (sym is) ∙ a.handed)));
      drew = ap (λ v. joined_stamps (map shown left ++ v ∷ [])) now
          ∙ (sym (both_drew (map shown left) (shown p) (shown last))
          ∙ (ap (λ l. joined_stamps (l ++ shown last ∷ [])) (sym (map-append shown left (p ∷ [])))
          ∙ (ap (λ l. joined_stamps (map shown l ++ shown last ∷ [])) (sym is) ∙ a.drew)));
      stamped = subst HasStamps (sym now) (both_stamped (shown p) (shown last) w.clean.clean.stamped a.stamped);
      quiet = λ q i k. elim (a.quiet q i k) [
        | inl there ↦ elim (left_or_last q left p k (subst (IsIn q) is there)) [
          | inl still ↦ inl still
          | inr one ↦ inr (ap (λ (v : PassRecord). v.quiet) now ∙ ap (λ b. b || (shown last).quiet) one)
        ]
        | inr other ↦ inr (ap (λ (v : PassRecord). v.quiet) now ∙ or_right (shown p).quiet (shown last).quiet other)
      ];
    }

-- the shards that were left, of the job and of the pass as their owner has them
pub left_by : (j k : TableJob) (p i : PassView) (ys : List Content) → j ≡ k → i ≡ p → WereLeft k (shown i) ys
    → WereLeft j (shown p) ys
left_by j k p i ys job pass left =
    subst (λ (q : PassView). WereLeft j (shown q) ys) pass
    (subst (λ (h : TableJob). WereLeft h (shown i) ys) (sym job) left)

-- both look-ups at an index of a list find the same member
same_get : {A : Type 0} (xs : List A) (k : ℕ) (y z : A) → slice_get xs k ≡ Some y → get_elem? xs k ≡ some z → z ≡ y
same_get [] k y z e h = absurd (some-ne-none z (sym h))
same_get (x ∷ xs) zero y z e h = let q : x ≡ y = cc in sym (some-injective x z h) ∙ q
same_get (x ∷ xs) (suc k) y z e h = same_get xs k y z e h

pub joined_quiet : (table : TableId) (ps left : List PassView) (last : PassView) → left ≡ []
    → IsJoinedSoFar table ps left last → (p : PassView) → IsIn p ps → (shown p).quiet ≡ true → (shown last).quiet ≡ true
joined_quiet table ps left last none a p i k = elim (a.quiet p i k) [
  | inl there ↦ let never : IsIn p [] = subst (IsIn p) none there in absurd never
  | inr is ↦ is
]

pub closes : (j : TableJob) (v : PassRecord) (vs : List PassRecord) (ys : List Content)
    → AreAll (v ∷ []) → v.turns ≡ [] → moment_of v ≡ joined vs → v.handed ≡ joined_handed vs
    → WereLeft j v ys → IsClosedAt j vs ys
closes j v vs ys all none did handed f =
    let s = f.table in
    let p : Parts j s (joined vs) = subst (Parts j s) did (alone_parts j s f.id v f.rule f.mine all) in record {
      consistent = p.consistent;
      some_shards = p.some_shards;
      count = sym f.count ∙ p.slots;
      sound = p.sound;
      handed = handed_same j.matched j.given v.claims (joined vs).state.claims v.handed (joined_handed vs)
          (ap (λ (R : Moment). R.state.claims) (sym did)) (sym handed) (p.handed f.id v f.mine);
      finished = p.finished;
      shares = λ k y e.
          let near : k < length ys = slice_get_within ys k y e in
          let free = alone_free j s f.id v f.rule f.mine all none k (omega (arith, f.count, p.slots)) in
          let home = p.in_slots k (omega (arith, f.count)) free in
          subst (Share j (joined vs) k) (same_get ys k y home.0 e (f.shards k home.0 home.1)) home.2;
    }

-- its claims in the order of their stamps are a legal order
pub closes_order : (j : TableJob) (v : PassRecord) (vs : List PassRecord) (ys : List Content) → AreAll (v ∷ [])
    → HasStamps v → moment_of v ≡ joined vs → v.stamps ≡ joined_stamps vs → WereLeft j v ys
    → (ts : List Task) → AreInStampOrder (joined_stamps vs) ts → IsClaimOrder j.matched (joined vs).state ts
closes_order j v vs ys all stamped did drew f ts o =
    let s = f.table in
    let mine : AreInStampOrder v.stamps ts = subst (λ (l : List StampedTask). AreInStampOrder l ts) (sym drew) o in
    let r : Parts j s (moment_of v) = alone_parts j s f.id v f.rule f.mine all in
    let once : (t : Task) → own_stamps v t ≤ own_claims v t = (f.rule.1.live.each f.id v f.mine).stamps in
    subst (λ (R : Moment). IsClaimOrder j.matched R.state ts) did
    (stamp_order j.matched j.given (moment_of v) v.stamps _ r.sound (alone_stamps j s f.id v f.rule f.mine all) once
    stamped ts mine)

-- if the last pass has seen quiet, no shard has work
pub closes_quiet : (j : TableJob) (v : PassRecord) (vs : List PassRecord) (ys : List Content)
    → AreAll (v ∷ []) → v.turns ≡ [] → moment_of v ≡ joined vs → v.handed ≡ joined_handed vs
    → WereLeft j v ys → v.quiet ≡ true → HaveNoWork ys
closes_quiet j v vs ys all none did handed f q =
    let s = f.table in
    let p : Parts j s (joined vs) = subst (Parts j s) did (alone_parts j s f.id v f.rule f.mine all) in
    calm_closed j vs ys (closes j v vs ys all none did handed f) (p.quieted.calm f.id v f.mine q)

-- a pass that is taken is a clean one
pub taken_pass : (table : TableId) (ps before left : List PassView) (p last : PassView) → before ≡ left ++ p ∷ []
    → IsJoinedSoFar table ps before last → IsPassOf table p
taken_pass table ps before left p last is a = a.each p (subst (IsIn p) (sym is) (IsIn-append_right p left (p ∷ []) (inl refl)))
