-- Shards that were opened.
use Rattle.std.proofs.Common.{◌≡◌, ℕ, ◌+◌, ◌==◌, Bool, true, false, cond, List, [], ◌∷◌, ◌++◌, length, ap, sym, subst, inl, inr, arith, length-append}
use Rattle.ptg_base.specs.Lists.{IsIn}
use Rattle.ptg_base.specs.Task.{Task}
use Rattle.plan_core.specs.declared.plan.Plan.{Plan}
use Rattle.dep_iter.specs.Edges.{goal}
use Rattle.dep_iter.specs.Tasks.{all_tasks}
use Rattle.dep_iter.proofs.CallerLemmas.{listed}
use Rattle.dep_shard.specs.Content.{Content, IsNew}
use Rattle.shard_meaning.specs.Opening.{IsOpenedFor, IsOpeningShard}
use Rattle.shard_meaning.specs.Share.{Placement}
use Rattle.list_lemmas.proofs.Members.{IsIn-filter}
use Rattle.list_lemmas.proofs.Places.{slice_get_push}
use Rattle.list_lemmas.proofs.Truth.{by_test}
use Rattle.shard_calls.specs.Opened.{AreNew, AreOpened, AreOpening, Opens, placement_by}
use Rattle.shard_calls.specs.declared.placing.SharedTo.{SharedTo}
use Rattle.dep_iter.specs.Consistent.{roots_among}
use Rattle.shard_calls.proofs.OpeningSteps.{entry_now, more_kept}
use Rattle.shard_calls.proofs.TaskWalks.{IsSoFar, one_more}
use Rattle.dep_iter.specs.Consistent.{roots_among}

-- one new shard more
pub new_more : (n : ℕ) (lengths : List ℕ) (ys : List Content) (y : Content) (zs : List Content) → AreNew n lengths ys
    → IsNew y lengths → zs ≡ ys ++ y ∷ [] → AreNew (n + 1) lengths zs
new_more n lengths ys y zs w new is = subst (AreNew (n + 1) lengths) (sym is) (record {
  count = omega (arith, w.count, length-append ys (y ∷ []));
  each = λ k z at. elim (slice_get_push ys y k z at) [ inl before ↦ w.each k z before | inr same ↦ subst (λ x. IsNew x lengths) same new ];
})

-- one task more is opened
pub opened_more : (to : SharedTo) (P : Plan) (n : ℕ) (t : Task) (rest : List Task) (old new : List Content)
    → length old ≡ n → Opens P (placement_by to P (length old)) t old new
    → IsSoFar P (λ ts. AreOpened P (placement_by to P n) ts old) (t ∷ rest)
    → IsSoFar P (λ ts. AreOpened P (placement_by to P n) ts new) rest
opened_more to P n t rest old new count opens w =
    let here = subst (λ m. Opens P (placement_by to P m) t old new) count opens in
    one_more P (λ ts. AreOpened P (placement_by to P n) ts old) (λ ts. AreOpened P (placement_by to P n) ts new) t rest
    here.opened w

-- a shard that was opened for all tasks
opening_shard : (P : Plan) (of : Placement) (k : ℕ) (y : Content) → IsOpenedFor P of k (λ t. IsIn t (all_tasks P)) y → IsOpeningShard P of k y
opening_shard P of k y w = record {
  there = λ t job own. w.there t ((listed P t).0 job) own;
  only = λ t e is. let p = w.only t e is in ((listed P t).1 p.0, p.1);
  written = w.written;
  trapped = w.trapped;
  running = w.running;
  ended = w.ended;
  elems = w.elems;
}

-- how many of these tasks no edge goes into, by whether one goes into the first
pub one_root : (P : Plan) (t : Task) (ts : List Task) → (goal P t == 0) ≡ true → length (roots_among P (t ∷ ts)) ≡ length (roots_among P ts) + 1
one_root P t ts k = omega (arith, ap (λ (b : Bool). length (cond b (t ∷ roots_among P ts) (roots_among P ts))) k)

pub no_root : (P : Plan) (t : Task) (ts : List Task) → (goal P t == 0) ≡ false → length (roots_among P (t ∷ ts)) ≡ length (roots_among P ts)
no_root P t ts k = ap (λ b. length (cond b (t ∷ roots_among P ts) (roots_among P ts))) k

-- if none of these tasks is without an edge into it, each has one
none_is_root : (P : Plan) (ts : List Task) → length (roots_among P ts) ≡ 0 → (t : Task) → IsIn t ts → (goal P t == 0) ≡ false
none_is_root P ts none t i = by_test (goal P t == 0) (λ root. absurd
    (has_none (roots_among P ts) none ((IsIn-filter (λ u. goal P u == 0) ts t).1 (i, root)))) (λ not. not)
  where
    has_none : (us : List Task) → length us ≡ 0 → IsIn t us → ⊥
    has_none [] z j = absurd j
    has_none (u ∷ us) z j = absurd (omega (arith, z))

-- the shards once no task without in edges is left to open
pub opening_shards : (to : SharedTo) (P : Plan) (n : ℕ) (rest : List Task) (ys : List Content) → length ys ≡ n
    → length (roots_among P rest) ≡ 0 → IsSoFar P (λ ts. AreOpened P (placement_by to P n) ts ys) rest
    → AreOpening P (placement_by to P n) n ys
opening_shards to P n rest ys count none w = record {
  count = count;
  each = λ k y at.
      let of = placement_by to P n in
      let here = w.holds k y at in
      let all = more_kept P of k w.passed y here rest (λ t i own.
      entry_now P of k w.passed y here t own (none_is_root P rest none t i)) in
      opening_shard P of k y (subst (λ ts. IsOpenedFor P of k (λ t. IsIn t ts) y) (sym w.split) all);
}
