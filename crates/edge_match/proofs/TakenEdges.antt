-- The edges into a flow, one dependence after another.
use Rattle.std.proofs.Common.{◌≡◌, ◌+◌, ℕ, zero, suc, ℤ, Bool, true, false, List, [], ◌∷◌, ◌++◌, map, length, length-append, drop, take, refl, ap}
use Rattle.std.proofs.Common.{sym, ◌∙◌, ◌≤◌, subst, Option, Some, None, IsTrue, slice_get, if◌then◌else◌, inl, inr, arith}
use Rattle.std.proofs.Math.ListN.{drop_of_length-le}
use Rattle.std.proofs.lemmas.List.{append-nil}
use Rattle.std.proofs.lemmas.List.Elements.{filter-append}
use Rattle.std.proofs.lemmas.List.Concat.{flat_map-append}
use Rattle.std.specs.List.{filter, flat_map}
use Rattle.std.specs.Option.{option_map, option_map_or, option_and_then}
use Rattle.ptg_base.specs.Lists.{IsIn}
use Rattle.ptg_base.specs.Task.{Task}
use Rattle.ptg_base.specs.declared.edge.Edge.{Edge}
use Rattle.plan_core.specs.declared.class.ClassPlan.{ClassPlan}
use Rattle.plan_core.specs.declared.flow.DepPlan.{DepPlan}
use Rattle.plan_core.specs.declared.flow.FlowPlan.{FlowPlan}
use Rattle.plan_core.specs.declared.plan.Plan.{Plan}
use Rattle.plan_core.specs.declared.target.Arg.{Arg}
use Rattle.plan_core.specs.declared.target.Target.{Target}
use Rattle.plan_core.specs.declared.target.Target.TheVariants as target
use Rattle.plan_core.specs.Kinds.{kind_of}
use Rattle.list_lemmas.proofs.Members.{IsIn-append_left, IsIn-append_right, from_append}
use Rattle.list_lemmas.proofs.Distinct.{HasNoRepeats-append}
use Rattle.list_lemmas.proofs.Places.{drop_from}
use Rattle.dep_iter.proofs.CallerLemmas.{held-more}
use Rattle.dep_iter.specs.Tasks.{flows_of, task}
use Rattle.dep_iter.specs.Arguments.{combinations}
use Rattle.dep_iter.specs.Combining.{AddsOnly}
use Rattle.term_core.specs.Kinds.{is_data}
use Rattle.dep_iter.specs.Active.{held_target, held_targets, held_then}
use Rattle.dep_iter.specs.Consistent.{is_data_edge, takes_tile}
use Rattle.dep_iter.specs.Edges.{edge, edges_into, in_edges_before}
use Rattle.edge_match.specs.declared.accepted_flow.FlowAt.{FlowAt}
use Rattle.edge_match.specs.declared.ins.Ins.{Ins}
use Rattle.edge_match.specs.Flows.{AreTaken, AreTakenOnce, IsSent}
use Rattle.edge_match.specs.Tallies.{Takes, TakesFrom, plan_of, task_of, env_of}

-- the kind of the flow that an edge goes into decides whether it carries a tile
kind_here : (o : Option ClassPlan) (n : ℕ) (f : FlowPlan) → slice_get (option_map_or (λ (c : ClassPlan). c.flows) o [])
    n ≡ Some f → option_map (λ (f : FlowPlan). f.kind) (option_and_then (λ (c : ClassPlan). slice_get c.flows n) o)
    ≡ Some f.kind
kind_here None n f h = cc
kind_here (Some c) n f h = ap (option_map (λ (f : FlowPlan). f.kind)) h

pub kind_of-here : (P : Plan) (t : Task) (n : ℕ) (f : FlowPlan) → slice_get (flows_of P t) n ≡ Some f → kind_of P.classes t.class n ≡ Some f.kind
kind_of-here P t n f h = kind_here (slice_get P.classes t.class) n f h

data_end : (p : Edge → Bool) (e : Edge) (b : Bool) → p e ≡ b → (n : ℕ) → n + length (filter p (e ∷ [])) ≡ (if b then n + 1 else n)
data_end p e true h n = rw h refl
data_end p e false h n = rw h (omega arith)

module _ (P : Plan) (earlier : List Edge) where
  pub taken_nil : (s : Ins) → AreTaken P earlier s s []
  taken_nil s = record { sent = λ e h. absurd h; fresh = λ e h k. h; edges = omega arith; data_edges = omega arith }

  pub taken_one : (s u : Ins) (e : Edge) (d : Bool) → IsSent P e → (IsIn e earlier → ⊥) → is_data_edge P e ≡ d
      → u.edges ≡ s.edges + 1 → u.data_edges ≡ (if d then s.data_edges + 1 else s.data_edges)
      → AreTaken P earlier s u (e ∷ [])
  taken_one s u e d sent new is edges tiles = record {
    sent = λ x h. elim h [ inl k ↦ subst (IsSent P) (sym k) sent | inr none ↦ absurd none ];
    fresh = λ x h i. elim h [ inl k ↦ new (subst (λ (z : Edge). IsIn z earlier) k i) | inr none ↦ none ];
    edges = edges;
    data_edges = tiles ∙ sym (data_end (is_data_edge P) e d is s.data_edges);
  }

  pub taken_append : (s u v : Ins) (xs ys : List Edge) → AreTaken P earlier s u xs → AreTaken P earlier u v ys → AreTaken P earlier s v (xs ++ ys)
  taken_append s u v xs ys a b =
      let l = length-append xs ys in
      let m = ap length (filter-append (is_data_edge P) xs ys) ∙ length-append (filter (is_data_edge P) xs) (filter (is_data_edge P) ys) in
      let e = a.edges in
      let f = b.edges in
      let g = a.data_edges in
      let h = b.data_edges in
      record {
        sent = λ x k. elim (from_append x xs ys k) [ inl i ↦ a.sent x i | inr i ↦ b.sent x i ];
        fresh = λ x k n. elim (from_append x xs ys k) [ inl i ↦ a.fresh x i n | inr i ↦ b.fresh x i n ];
        edges = omega arith;
        data_edges = omega arith;
      }

  pub once_nil : (s : Ins) → AreTakenOnce P earlier s s []
  once_nil s = record { taken = taken_nil s; once = tt }

  -- edges and then later edges, which were looked up among the former too
  pub once_after : (s u v : Ins) (xs ys : List Edge) → AreTakenOnce P earlier s u xs
      → AreTakenOnce P (earlier ++ xs) u v ys → AreTakenOnce P earlier s v (xs ++ ys)
  once_after s u v xs ys a b =
      let later : AreTaken P earlier u v ys = record {
        sent = b.taken.sent;
        fresh = λ e h k. b.taken.fresh e h (IsIn-append_left e earlier xs k);
        edges = b.taken.edges;
        data_edges = b.taken.data_edges;
      } in
      record {
        taken = taken_append s u v xs ys a.taken later;
        once = HasNoRepeats-append xs ys a.once b.once (λ e h k. b.taken.fresh e k (IsIn-append_right e earlier xs h));
      }

-- the targets of the first dependences, with one more dependence that does not hold, or that does
pub held-next_none : (first_only : Bool) (ds : List DepPlan) (k : ℕ) (d : DepPlan) (env : List ℤ) → slice_get ds k ≡ Some d
    → held_target d env ≡ None → held_targets first_only (take (suc k) ds) env ≡ held_targets first_only (take k ds) env
held-next_none first_only [] k d env e none = absurd cc
held-next_none first_only (c ∷ ds) zero d env e none = let same : c ≡ d = cc in rw (same, none) refl
held-next_none first_only (c ∷ ds) (suc k) d env e none =
    ap (held_then first_only (held_target c env)) (held-next_none first_only ds k d env e none)

held_then-append : (o : Option Target) (xs ys : List Target) → held_then false o (xs ++ ys) ≡ held_then false o xs ++ ys
held_then-append None xs ys = refl
held_then-append (Some x) xs ys = refl

pub held-next_some : (ds : List DepPlan) (k : ℕ) (d : DepPlan) (env : List ℤ) (x : Target) → slice_get ds k ≡ Some d
    → held_target d env ≡ Some x → held_targets false (take (suc k) ds) env ≡ held_targets false (take k ds) env ++ x ∷ []
held-next_some [] k d env x e holds = absurd cc
held-next_some (c ∷ ds) zero d env x e holds = let same : c ≡ d = cc in rw (same, holds) refl
held-next_some (c ∷ ds) (suc k) d env x e holds =
    ap (held_then false (held_target c env)) (held-next_some ds k d env x e holds)
    ∙ held_then-append (held_target c env) (held_targets false (take k ds) env) (x ∷ [])

-- the edges that the first dependences of a flow stand for
module _ (at : FlowAt) where
  abbrev given : List DepPlan → List Edge
  given ds = flat_map (edges_into (task_of at) (env_of at) at.number) (held_targets (is_data at.flow.now.kind) ds (env_of at))

  before-is : (k : ℕ) → in_edges_before (plan_of at) (task_of at) at.number k ≡ given (take k at.flow.now.ins)
  unfolding in_edges_before
  before-is k =
      let edges = λ (env : List ℤ). flat_map (edges_into (task_of at) env at.number)
      (held_targets (is_data at.flow.now.kind) (take k at.flow.now.ins) env) in
      rw at.here (ap edges (sym at.task.now.are_locals))

  -- if no dependence is left
  pub takes_nothing : (k : ℕ) (s : Ins) → length at.flow.now.ins ≤ k → (IsTrue (takes_tile at.flow.now.kind) → ⊥) → TakesFrom at k s s
  takes_nothing k s past none =
      rw (drop_of_length-le at.flow.now.ins past)
      (record { source = none; taken = once_nil (plan_of at) (in_edges_before (plan_of at) (task_of at) at.number k) s })

  -- a target whose arguments have one combination
  pub takes_only : (k class flow : ℕ) (args : List Arg) (none values : List ℤ) (s u : Ins) → none ≡ [] → AddsOnly (combinations args (env_of at)) none values
      → AreTaken (plan_of at) (in_edges_before (plan_of at) (task_of at) at.number k) s u (edge (task class values) flow (task_of at) at.number ∷ [])
      → Takes at k s u (target.Task class flow args ∷ [])
  takes_only k class flow args none values s u empty only taken =
      let mk = λ (ps : List ℤ). edge (task class ps) flow (task_of at) at.number in
      let same : values ≡ only.added = only.extends ∙ ap (λ (l : List ℤ). l ++ only.added) empty in
      let all : combinations args (env_of at) ≡ values ∷ [] = only.only ∙ ap (λ (l : List ℤ). l ∷ []) (sym same) in
      record {
        source = tt;
        taken =
            subst (λ (cs : List (List ℤ)). AreTakenOnce (plan_of at) (in_edges_before (plan_of at) (task_of at) at.number k) s u (map mk cs ++ []))
            (sym all) (record { taken = taken; once = (λ h. h, tt) });
      }

  -- the dependence at hand, by whether it holds
  module _ (k : ℕ) (d : DepPlan) (this : slice_get at.flow.now.ins k ≡ Some d) where
    abbrev later : Bool → List Target
    later first_only = held_targets first_only (drop (suc k) at.flow.now.ins) (env_of at)

    abbrev E : Target → List Edge
    E = edges_into (task_of at) (env_of at) at.number

    pub takes_none : (s u : Ins) → held_target d (env_of at) ≡ None → TakesFrom at (suc k) s u → TakesFrom at k s u
    takes_none s u none h =
        let first_only = is_data at.flow.now.kind in
        let same = before-is (suc k) ∙ ap (flat_map E) (held-next_none first_only at.flow.now.ins k d (env_of at) this none) ∙ sym (before-is k) in
        rw (drop_from at.flow.now.ins k d this, none)
        (record { source = h.source; taken = subst (λ es. AreTakenOnce (plan_of at) es s u (flat_map E (later first_only))) same h.taken })

    module _ (x : Target) (holds : held_target d (env_of at) ≡ Some x) where
      -- if only the first that holds counts
      pub takes_alone : (s u : Ins) → is_data at.flow.now.kind ≡ true → Takes at k s u (x ∷ []) → TakesFrom at k s u
      takes_alone s u alone first = rw (drop_from at.flow.now.ins k d this, alone, holds) first

      -- if all that hold count
      pub takes_more : (s u v : Ins) → is_data at.flow.now.kind ≡ false → Takes at k s u (x ∷ []) → TakesFrom at (suc k) u v → TakesFrom at k s v
      takes_more s u v all first rest =
          let before = in_edges_before (plan_of at) (task_of at) at.number k in
          let ins = at.flow.now.ins in
          let targets = λ (b : Bool). held_targets b (take (suc k) ins) (env_of at) ≡ held_targets b (take k ins) (env_of at) ++ x ∷ [] in
          let longer = subst targets (sym all) (held-next_some ins k d (env_of at) x this holds) in
          let earlier = held_targets (is_data at.flow.now.kind) (take k ins) (env_of at) in
          let same : in_edges_before (plan_of at) (task_of at) at.number (suc k) ≡ before ++ E x =
          before-is (suc k) ∙ ap (flat_map E) longer ∙ flat_map-append E earlier (x ∷ [])
          ∙ ap (λ l. l ++ flat_map E (x ∷ [])) (sym (before-is k)) ∙ ap (λ l. before ++ l) (append-nil (E x)) in
          let after = subst (λ b. Takes at (suc k) u v (later b)) all rest in
          let both : Takes at k s v (x ∷ later false) = record {
            source = first.source;
            taken =
                once_after (plan_of at) before s u v (E x) (flat_map E (later false)) (rw append-nil at first.taken)
                (subst (λ es. AreTakenOnce (plan_of at) es u v (flat_map E (later false))) same after.taken);
          } in
          subst (λ b. Takes at k s v (held_targets b (drop k ins) (env_of at))) (sym all) (rw (drop_from ins k d this, held-more d _ (env_of at) x holds) both)
