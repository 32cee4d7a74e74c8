-- How an order grows by edges, and where it ends.
use Rattle.std.proofs.Common.{◌≡◌, ℕ, zero, suc, ◌+◌, length-append, ◌<◌, ◌≤◌, ◌↔◌, ◌==◌, false, List, [], ◌∷◌, ◌++◌}
use Rattle.std.proofs.Common.{length, take, slice_get, refl, ap, sym, ◌∙◌, subst, append_assoc, inl, inr, Some, arith}
use Rattle.std.proofs.Common.{eq-eqb, add-one}
use Rattle.std.proofs.lemmas.Bool.{eqb-true}
use Rattle.std.proofs.lemmas.List.{append-nil, take-append-le, nil_from_length}
use Rattle.ptg_base.specs.Lists.{HasNoRepeats, IsIn}
use Rattle.ptg_base.specs.Task.{Task}
use Rattle.ptg_base.specs.TaskComparing.{same_task}
use Rattle.ptg_base.specs.TaskLaws.{same_task-decides}
use Rattle.ptg_base.specs.declared.edge.Edge.{Edge}
use Rattle.plan_core.specs.declared.plan.Plan.{Plan}
use Rattle.list_lemmas.proofs.Members.{IsIn-append_left, IsIn-append_right, IsIn-flat_map, from_append, from_flat_map, IsIn-filter}
use Rattle.list_lemmas.proofs.Truth.{by_test}
use Rattle.list_lemmas.proofs.Distinct.{HasNoRepeats-apart, no_longer as at_most, HasNoRepeats-filter, HasNoRepeats-append}
use Rattle.std.proofs.lemmas.List.Concat.{flat_map-append}
use Rattle.dep_iter.specs.Tasks.{IsTask, all_tasks}
use Rattle.dep_iter.specs.Edges.{goal, in_edges}
use Rattle.dep_iter.specs.Items.{out_edges}
use Rattle.dep_iter.specs.Consistent.{IsConsistent, roots}
use Rattle.dep_iter.proofs.CallerLemmas.{listed, once-all_tasks, once-out_edges}
use Rattle.list_lemmas.specs.Counting.{as_number}
use Rattle.flow_meaning.specs.Order.{IsLegalAfter, MayFollow}
use Rattle.flow_meaning.proofs.CallerLemmas.{legal_push, out_edge_from}
use Rattle.chain_cert.specs.Greatest.{IsGreatestOrder}
use Rattle.chain_cert.specs.Growing.{GrowsBy, HasGrown, HaveCome, IsNext, MayCome, edges_of, edge_count_to, lacking}
use Rattle.chain_cert.proofs.Orders.{legal_once, legal_tasks}
use Rattle.chain_cert.proofs.Coming.{all_came, as_many, come_first, come_longer, come_next, comes_from, may_come, to_at_most, to_push}

-- an edge into a task was noted, and `left` is how many the task still lacks
pub record IsNoted (P : Plan) (e : Edge) (table new : List (Task × ℕ)) (left : ℕ) : Type 0 where
  pub left_is : left + 1 ≡ lacking P table e.to
  pub others : (u : Task) → lacking P new u + as_number (same_task u e.to) ≡ lacking P table u

-- no edge comes
pub grows_not : (P : Plan) (order : List Task) (table : List (Task × ℕ)) → GrowsBy P [] order table order table
grows_not P order table = record {
  more = [];
  extends = sym (append-nil order);
  grown = λ came h _. subst (λ es. HasGrown P es order table) (sym (append-nil came)) h;
}

-- some edges come, and then others
pub grows_then : (P : Plan) (es fs : List Edge) (a b c : List Task) (x y z : List (Task × ℕ)) → GrowsBy P es a x b y
    → GrowsBy P fs b y c z → GrowsBy P (es ++ fs) a x c z
grows_then P es fs a b c x y z g h = record {
  more = g.more ++ h.more;
  extends = h.extends ∙ ap (λ l. l ++ h.more) g.extends ∙ append_assoc a g.more h.more;
  grown = λ came old all.
      let all_of : HaveCome P a ((came ++ es) ++ fs) = subst (HaveCome P a) (sym (append_assoc came es fs)) all in
      let then = h.grown (came ++ es) (g.grown came old (come_first P a (came ++ es) fs all_of))
      (subst (λ l. HaveCome P l ((came ++ es) ++ fs)) (sym g.extends)
      (come_longer P a g.more ((came ++ es) ++ fs) all_of)) in
      subst (λ l. HasGrown P l c z) (append_assoc came es fs) then;
}

module _ (P : Plan) (con : IsConsistent P) where
  -- a task to which an edge may come lacks at least one
  pub lacks : (came : List Edge) (order : List Task) (table : List (Task × ℕ)) (e : Edge) → HasGrown P came order table
      → MayCome P came order e → IsTask P e.to × (0 < lacking P table e.to)
  lacks came order table e g may =
      let job = legal_tasks P [] order g.legal e.from may.from in
      let to = (con.connected e.from job).to_tasks e may.out in
      let most = to_at_most P con order g.legal (came ++ e ∷ []) (come_next P order came e g.edges may) e.to in
      (to, omega (arith, most, to_push e.to came e, ap as_number ((same_task-decides e.to e.to).1 refl), g.counts e.to to))

  module _ (order : List Task) (table new : List (Task × ℕ)) (e : Edge) (left : ℕ) (noted : IsNoted P e table new left) where
    module _ (came : List Edge) (g : HasGrown P came order table) (all : HaveCome P order (came ++ e ∷ [])) where
      target : IsTask P e.to
      target =
          let may = may_come P order came e [] all in
          (con.connected e.from (legal_tasks P [] order g.legal e.from may.from)).to_tasks e may.out

      counted : (t : Task) → IsTask P t → lacking P new t + edge_count_to t (came ++ e ∷ []) ≡ goal P t
      counted t job = omega (arith, noted.others t, to_push t came e, g.counts t job)

      own : lacking P new e.to ≡ left
      own = omega (arith, noted.others e.to, noted.left_is, ap as_number ((same_task-decides e.to e.to).1 refl))

      other : (u : Task) → same_task u e.to ≡ false → lacking P new u ≡ lacking P table u
      other u k = omega (arith, noted.others u, ap as_number k)

      was_out : IsIn e.to order → ⊥
      was_out i = let z = (g.ready e.to target).0 i in absurd (omega (arith, z, noted.left_is))

      follows : left ≡ 0 → MayFollow P order e.to
      follows none = record {
        task = target;
        first_time = was_out;
        after_sources = λ d i. all.from d (all_came P con order g.legal (came ++ e ∷ []) all e.to (omega (arith, counted e.to target, own, none)) d i);
      }

      -- the task joins
      grown_more : left ≡ 0 → HasGrown P (came ++ e ∷ []) (order ++ e.to ∷ []) new
      grown_more none = record {
        legal = legal_push P [] order e.to g.legal (follows none);
        edges = come_longer P order (e.to ∷ []) (came ++ e ∷ []) all;
        counts = counted;
        ready = λ u job.
            by_test (same_task u e.to)
            (λ k.
            let same : u ≡ e.to = (same_task-decides u e.to).0 k in (
              λ _. ap (lacking P new) same ∙ own ∙ none,
              λ _. subst (λ v. IsIn v (order ++ e.to ∷ [])) (sym same)
                  (IsIn-append_right e.to order (e.to ∷ []) (inl refl)),
            ))
            (λ k. (
              λ i. elim (from_append u order (e.to ∷ []) i) [
                | inl old ↦ other u k ∙ (g.ready u job).0 old
                | inr here ↦ elim here [ inl q ↦ absurd (let b = sym k ∙ (same_task-decides u e.to).1 q in cc) | inr never ↦ absurd never ]
              ],
              λ z. IsIn-append_left u order (e.to ∷ []) ((g.ready u job).1 (sym (other u k) ∙ z)),
            ));
      }

      -- the task does not join yet
      grown_same : (left ≡ 0 → ⊥) → HasGrown P (came ++ e ∷ []) order new
      grown_same some = record {
        legal = g.legal;
        edges = all;
        counts = counted;
        ready = λ u job.
            by_test (same_task u e.to)
            (λ k.
            let same : u ≡ e.to = (same_task-decides u e.to).0 k in
            (λ i. absurd (was_out (subst (λ v. IsIn v order) same i)), λ z. absurd (some (sym own ∙ ap (lacking P new) (sym same) ∙ z))))
            (λ k. (λ i. other u k ∙ (g.ready u job).0 i, λ z. (g.ready u job).1 (sym (other u k) ∙ z)));
      }

    pub grows_more : left ≡ 0 → GrowsBy P (e ∷ []) order table (order ++ e.to ∷ []) new
    grows_more none = record { more = e.to ∷ []; extends = refl; grown = λ came g all. grown_more came g all none }

    pub grows_same : (left ≡ 0 → ⊥) → GrowsBy P (e ∷ []) order table order new
    grows_same some = record { more = []; extends = sym (append-nil order); grown = λ came g all. grown_same came g all some }

  -- all edges out of the next task may come
  pub next_come : (came : List Edge) (order : List Task) (table : List (Task × ℕ)) (t : Task)
      → HasGrown P came order table → IsNext P came order t → HaveCome P order (came ++ out_edges P t)
  next_come came order table t g next =
      let job = legal_tasks P [] order g.legal t next.member in
      let from : (e : Edge) → IsIn e (out_edges P t) → e.from ≡ t = λ e i. out_edge_from P t e i in
      record {
        once = HasNoRepeats-append came (out_edges P t) g.edges.once (once-out_edges P con t job) (λ e i j. next.new e i (from e j));
        from = λ e i. elim (from_append e came (out_edges P t) i)
            [ inl old ↦ g.edges.from e old | inr here ↦ subst (λ s. IsIn s order) (sym (from e here)) next.member ];
        out = λ e i. elim (from_append e came (out_edges P t) i)
            [ inl old ↦ g.edges.out e old | inr here ↦ subst (λ s. IsIn e (out_edges P s)) (sym (from e here)) here ];
      }

  -- a task that no edge goes into may follow any tasks but itself
  legal_roots : (before ts : List Task) → HasNoRepeats ts → ((t : Task) → IsIn t ts
      → IsTask P t × (goal P t ≡ 0) × (IsIn t before → ⊥)) → IsLegalAfter P before ts
  legal_roots before [] once h = tt
  legal_roots before (t ∷ ts) once h =
      let here = h t (inl refl) in
      let may : MayFollow P before t = record {
        task = here.0;
        first_time = here.2;
        after_sources = λ e i. absurd
            (subst (IsIn e) (nil_from_length (in_edges P t) here.1) i);
      } in (
        may,
        legal_roots (before ++ t ∷ []) ts once.1 (λ u i.
            let there = h u (inr i) in (
              there.0,
              there.1,
              λ j. elim (from_append u before (t ∷ []) j) [
                | inl old ↦ there.2 old
                | inr new ↦ elim new [ inl q ↦ once.0 (subst (λ v. IsIn v ts) q i) | inr never ↦ never ]
              ],
            )),
      )

  root_is : (t : Task) → IsIn t (roots P) ↔ (IsIn t (all_tasks P) × (goal P t ≡ 0))
  root_is t =
      let f = IsIn-filter (λ u. goal P u == 0) (all_tasks P) t in
      (λ i. let p = f.0 i in (p.0, eqb-true (goal P t) 0 p.1), λ p. f.1 (p.0, eq-eqb (goal P t) 0 p.1))

  -- the order before an edge has come
  pub opened : (order : List Task) → order ≡ roots P → HasGrown P [] order []
  opened order is = subst (λ l. HasGrown P [] l []) (sym is) (record {
    legal = legal_roots [] (roots P) (HasNoRepeats-filter (λ u. goal P u == 0) (all_tasks P) (once-all_tasks P))
        (λ t i. let p = (root_is t).0 i in ((listed P t).1 p.0, p.1, λ j. j));
    edges = record { once = tt; from = λ e i. absurd i; out = λ e i. absurd i };
    counts = λ t job. omega arith;
    ready = λ t job. (λ i. ((root_is t).0 i).1, λ z. (root_is t).1 ((listed P t).0 job, z));
  })

  -- a list, split before and after the element at an index
  take_split : {A : Type 0} (n : ℕ) (xs : List A) (x : A) → slice_get xs n ≡ Some x
      → (rest : List A) × (xs ≡ take n xs ++ x ∷ rest) × (take (n + 1) xs ≡ take n xs ++ x ∷ [])
  take_split n [] x h = absurd cc
  take_split zero (y ∷ ys) x h = let e : y ≡ x = cc in (ys, ap (λ z. z ∷ ys) e, ap (λ z. z ∷ []) e)
  take_split (suc n) (y ∷ ys) x h =
      let p = take_split n ys x h in
      (p.0, ap (λ l. y ∷ l) p.1, rw add-one (ap (λ l. y ∷ l) (subst (λ k. take k ys ≡ take n ys ++ x ∷ []) (add-one n) p.2)))

  take_longer : {A : Type 0} (n : ℕ) (xs ys : List A) → n ≤ length xs → take n (xs ++ ys) ≡ take n xs
  take_longer n xs ys h = take-append-le n xs ys h

  -- the task at an index is next, once those before it have passed
  pub is_next : (n : ℕ) (order : List Task) (table : List (Task × ℕ)) (t : Task)
      → HasGrown P (edges_of P (take n order)) order table → slice_get order n ≡ Some t
      → IsNext P (edges_of P (take n order)) order t
  is_next n order table t g at =
      let p = take_split n order t at in
      let once = legal_once P [] order g.legal in
      let split : HasNoRepeats (take n order ++ t ∷ p.0) = subst HasNoRepeats p.1 once in
      record {
        member = subst (IsIn t) (sym p.1) (IsIn-append_right t (take n order) (t ∷ p.0) (inl refl));
        new = λ e i same.
            let q = from_flat_map (out_edges P) (take n order) e i in
            HasNoRepeats-apart (take n order) (t ∷ p.0) split t (subst (λ u. IsIn u (take n order)) (sym (out_edge_from P q.0 e q.2) ∙ same) q.1) (inl refl);
      }

  -- and then one more has passed
  pub passed : (n : ℕ) (order new : List Task) (table new_table : List (Task × ℕ)) (t : Task)
      → HasGrown P (edges_of P (take n order)) order table → slice_get order n ≡ Some t
      → GrowsBy P (out_edges P t) order table new new_table → HasGrown P (edges_of P (take (n + 1) new)) new new_table
  passed n order new table new_table t g at grows =
      let next = is_next n order table t g at in
      let all = grows.grown (edges_of P (take n order)) g (next_come (edges_of P (take n order)) order table t g next) in
      let p = take_split n order t at in
      let enough : n + 1 ≤ length order = omega (arith, ap length p.1, length-append (take n order) (t ∷ p.0), length_of_take n order t at) in
      let first : take (n + 1) new ≡ take n order ++ t ∷ [] = ap (take (n + 1)) grows.extends ∙ take_longer (n + 1) order grows.more enough ∙ p.2 in
      let same : edges_of P (take (n + 1) new) ≡ edges_of P (take n order) ++ out_edges P t =
      ap (edges_of P) first ∙ flat_map-append (out_edges P) (take n order) (t ∷ []) ∙ ap (λ l. edges_of P (take n order) ++ l) (append-nil (out_edges P t)) in
      subst (λ es. HasGrown P es new new_table) (sym same) all
    where
      length_of_take : {A : Type 0} (n : ℕ) (xs : List A) (x : A) → slice_get xs n ≡ Some x → length (take n xs) ≡ n
      length_of_take n [] x h = absurd cc
      length_of_take zero (y ∷ ys) x h = refl
      length_of_take (suc n) (y ∷ ys) x h = ap suc (length_of_take n ys x h)

  -- no order has more tasks than the job
  pub no_longer : (came : List Edge) (order : List Task) (table : List (Task × ℕ)) → HasGrown P came order table → length order ≤ length (all_tasks P)
  no_longer came order table g = at_most order (all_tasks P) (legal_once P [] order g.legal) (λ t i. (listed P t).0 (legal_tasks P [] order g.legal t i))

  -- an order is a greatest one if the edges out of all its tasks have come
  pub greatest : (order : List Task) (table : List (Task × ℕ)) → HasGrown P (edges_of P order) order table → IsGreatestOrder P order
  greatest order table g = record {
    legal = g.legal;
    greatest = λ t may.
        let all : (e : Edge) → IsIn e (in_edges P t) → IsIn e (edges_of P order) = λ e i. IsIn-flat_map (out_edges P)
        order e.from e (may.after_sources e i) (comes_from P con t may.task e i) in
        let enough = as_many P con order g.legal (edges_of P order) g.edges t may.task all in
        may.first_time ((g.ready t may.task).1 (omega (arith, enough, g.counts t may.task)));
  }
