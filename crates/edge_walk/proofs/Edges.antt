-- The edges of a task and what it sends are its ties, without the numbers of the dependences.
use Rattle.std.proofs.Common.{◌≡◌, ℕ, suc, ℤ, List, [], ◌∷◌, ◌++◌, map, refl, ap, sym, ◌∙◌, Bool, true, false, Option, Some, None}
use Rattle.std.specs.List.{filter_map, flat_map}
use Rattle.ptg_base.specs.Task.{Task}
use Rattle.term_core.specs.declared.direction.Direction.{Direction}
use Rattle.term_core.specs.declared.direction.Direction.TheVariants.{In, Out}
use Rattle.plan_core.specs.declared.flow.DepPlan.{DepPlan}
use Rattle.plan_core.specs.declared.flow.FlowPlan.{FlowPlan}
use Rattle.plan_core.specs.declared.plan.Plan.{Plan}
use Rattle.plan_core.specs.declared.target.Target.{Target}
use Rattle.plan_core.specs.declared.target.Target.TheVariants as target
use Rattle.ptg_base.specs.declared.edge.Item.TheVariants as item
use Rattle.term_core.specs.Kinds.{is_data}
use Rattle.dep_iter.specs.Active.{by_flow, flow_targets, held_target, held_targets, held_then}
use Rattle.dep_iter.specs.Arguments.{combinations}
use Rattle.dep_iter.specs.Edges.{edge, edges_into, in_edges}
use Rattle.dep_iter.specs.Items.{items, items_to}
use Rattle.dep_iter.specs.Tasks.{flows_of, locals_of, task}
use Rattle.std.proofs.lemmas.List.Elements.{filter_map-append}
use Rattle.std.proofs.lemmas.List.Concat.{flat_map-append}
use Rattle.std.proofs.lemmas.List.Folds.{flat_map-map}
use Rattle.edge_walk.specs.declared.tie.Tie.{Tie}
use Rattle.edge_walk.specs.Ties.{Numbered, active_from, all_ties, edge_by_in, item_by_out, numbered, numbered_flow}
use Rattle.edge_walk.specs.Ties.{numbered_targets, numbered_then, task_tie, ties, ties_to}

-- ---- lists

-- ---- one target

edges_among : (t : Task) (n k class flow : ℕ) (cs : List (List ℤ))
    → filter_map (edge_by_in t) (map (task_tie n k class flow) cs) ≡ map (λ params. edge (task class params) flow t n)
    cs
edges_among t n k class flow [] = refl
edges_among t n k class flow (c ∷ cs) = ap (λ l. edge (task class c) flow t n ∷ l) (edges_among t n k class flow cs)

items_among : (t : Task) (n k class flow : ℕ) (cs : List (List ℤ))
    → filter_map (item_by_out t) (map (task_tie n k class flow) cs) ≡ map
    (λ params. item.Edge (edge t n (task class params) flow)) cs
items_among t n k class flow [] = refl
items_among t n k class flow (c ∷ cs) = ap (λ l. item.Edge (edge t n (task class c) flow) ∷ l) (items_among t n k class flow cs)

ins_to : (t : Task) (env : List ℤ) (n k : ℕ) (x : Target) → filter_map (edge_by_in t) (ties_to env n k x) ≡ edges_into t env n x
ins_to t env n k (target.Task class flow args) = edges_among t n k class flow (combinations args env)
ins_to t env n k (target.Element coll indices) = refl
ins_to t env n k target.New = refl
ins_to t env n k target.Null = refl

outs_to : (t : Task) (env : List ℤ) (n k : ℕ) (x : Target) → filter_map (item_by_out t) (ties_to env n k x) ≡ items_to t env n x
outs_to t env n k (target.Task class flow args) = items_among t n k class flow (combinations args env)
outs_to t env n k (target.Element coll indices) = refl
outs_to t env n k target.New = refl
outs_to t env n k target.Null = refl

-- ---- the numbers aside, the active dependences have the targets that hold

abbrev second : ℕ × Target → Target
second x = x.1

seconds_then : (first_only : Bool) (k : ℕ) (o : Option Target) (later : List (ℕ × Target))
    → map second (numbered_then first_only k o later) ≡ held_then first_only o (map second later)
seconds_then first_only k None later = refl
seconds_then true k (Some x) later = refl
seconds_then false k (Some x) later = refl

seconds : (first_only : Bool) (k : ℕ) (ds : List DepPlan) (env : List ℤ) → map second (numbered_targets first_only k ds env) ≡ held_targets first_only ds env
seconds first_only k [] env = refl
seconds first_only k (d ∷ ds) env =
    seconds_then first_only k (held_target d env) (numbered_targets first_only (suc k) ds env)
    ∙ ap (held_then first_only (held_target d env)) (seconds first_only (suc k) ds env)

seconds_flow : (way : Direction) (env : List ℤ) (f : FlowPlan) → map second (numbered_flow way env f) ≡ flow_targets way env f
seconds_flow In env f = seconds (is_data f.kind) 0 f.ins env
seconds_flow Out env f = seconds false 0 f.outs env

-- ---- what is chosen of each target is chosen of all
module _ {X : Type 0} (env : List ℤ) (choose : Tie → Option X) (chosen : ℕ → Target → List X)
    (h : (n k : ℕ) (x : Target) → filter_map choose (ties_to env n k x) ≡ chosen n x) where
  of_flow : (n : ℕ) (xs : List (ℕ × Target)) → filter_map choose (all_ties env (map (numbered n) xs)) ≡ flat_map (chosen n) (map second xs)
  of_flow n [] = refl
  of_flow n (x ∷ xs) =
      filter_map-append choose (ties_to env n x.0 x.1) (all_ties env (map (numbered n) xs))
      ∙ ap (λ l. l ++ filter_map choose (all_ties env (map (numbered n) xs))) (h n x.0 x.1)
      ∙ ap (λ l. chosen n x.1 ++ l) (of_flow n xs)

  of_flow_from : (way : Direction) (n : ℕ) (f : FlowPlan) → filter_map choose
      (all_ties env (map (numbered n) (numbered_flow way env f))) ≡ flat_map (λ (a : ℕ × Target). chosen a.0 a.1)
      (map (λ (x : Target). (n, x)) (flow_targets way env f))
  of_flow_from way n f =
      of_flow n (numbered_flow way env f)
      ∙ ap (flat_map (chosen n)) (seconds_flow way env f)
      ∙ sym (flat_map-map (λ (a : ℕ × Target). chosen a.0 a.1) (λ (x : Target). (n, x)) (flow_targets way env f))

  of_flows : (way : Direction) (n : ℕ) (fs : List FlowPlan) → filter_map choose
      (all_ties env (active_from way env n fs)) ≡ flat_map (λ (a : ℕ × Target). chosen a.0 a.1)
      (by_flow (flow_targets way env) n fs)
  of_flows way n [] = refl
  of_flows way n (f ∷ fs) =
      let here = map (numbered n) (numbered_flow way env f) in
      let later = active_from way env (suc n) fs in
      let targets = map (λ (x : Target). (n, x)) (flow_targets way env f) in
      ap (filter_map choose) (flat_map-append (λ (a : Numbered). ties_to env a.flow a.dependence a.target) here later)
      ∙ filter_map-append choose (all_ties env here) (all_ties env later)
      ∙ ap (λ l. l ++ filter_map choose (all_ties env later)) (of_flow_from way n f)
      ∙ ap (λ l. flat_map (λ (a : ℕ × Target). chosen a.0 a.1) targets ++ l) (of_flows way (suc n) fs)
      ∙ sym (flat_map-append (λ (a : ℕ × Target). chosen a.0 a.1) targets (by_flow (flow_targets way env) (suc n) fs))

pub ins : (P : Plan) (t : Task) → filter_map (edge_by_in t) (ties P t In) ≡ in_edges P t
unfolding in_edges
ins P t = of_flows (locals_of P t) (edge_by_in t) (edges_into t (locals_of P t)) (ins_to t (locals_of P t)) In 0 (flows_of P t)

pub outs : (P : Plan) (t : Task) → filter_map (item_by_out t) (ties P t Out) ≡ items P t
unfolding items
outs P t = of_flows (locals_of P t) (item_by_out t) (items_to t (locals_of P t)) (outs_to t (locals_of P t)) Out 0 (flows_of P t)
