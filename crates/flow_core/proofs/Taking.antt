-- The tiles that come by edges, put among those that a task starts on.
use Rattle.std.proofs.Common.{◌≡◌, ℕ, zero, suc, ◌+◌, ◌≤◌, ℤ, Bool, true, false, cond, List, [], ◌∷◌, ◌++◌, length}
use Rattle.std.proofs.Common.{refl, ap, sym, ◌∙◌, append_assoc, add-one, Option, Some, None, slice_get, slice_set}
use Rattle.std.proofs.Common.{arith}
use Rattle.std.specs.Prelude.{option_map}
use Rattle.std.specs.Option.{option_map_or}
use Rattle.std.proofs.lemmas.Option.{same_Some}
use Rattle.ptg_base.specs.Task.{Task}
use Rattle.ptg_base.specs.declared.edge.Edge.{Edge}
use Rattle.ptg_base.specs.declared.edge.Item.{Item}
use Rattle.ptg_base.specs.declared.edge.Item.TheVariants as item
use Rattle.list_lemmas.proofs.Truth.{by_test}
use Rattle.plan_core.specs.declared.flow.FlowPlan.{FlowPlan}
use Rattle.plan_core.specs.declared.plan.Plan.{Plan}
use Rattle.plan_core.specs.declared.target.Target.{Target}
use Rattle.plan_core.specs.declared.target.Target.TheVariants as target
use Rattle.plan_core.specs.Kinds.{is_data}
use Rattle.coll_data.specs.Data.{Data}
use Rattle.dep_iter.specs.declared.source.Source.{Source}
use Rattle.dep_iter.specs.declared.source.Source.TheVariants as source
use Rattle.dep_iter.specs.Tasks.{flows_of, locals_of}
use Rattle.dep_iter.specs.Active.{flow_ins}
use Rattle.dep_iter.specs.Edges.{data_source, source_among, source_at}
use Rattle.flow_meaning.specs.Starting.{Delivery, starting_tile, tile_from, tiles_from, nothing_delivered}
use Rattle.flow_core.specs.Inputs.{edge_into, edge_of_source, edges_from, source_of}

-- the edge that is the source of a flow goes to that flow of the task
pub record GoesTo (t : Task) (n : ℕ) (e : Edge) : Type 0 where
  pub to : e.to ≡ t
  pub in_flow : e.in_flow ≡ n

at_target : (t : Task) (env : List ℤ) (n : ℕ) (x : Target) (e : Edge) → edge_of_source (source_at t env n x) ≡ Some e → GoesTo t n e
at_target t env n (target.Task class flow args) e h =
    record { to = sym (ap (λ (d : Edge). d.to) (same_Some _ e h)); in_flow = sym (ap (λ (d : Edge). d.in_flow) (same_Some _ e h)) }
at_target t env n (target.Element coll indices) e h = absurd cc
at_target t env n target.New e h = absurd cc
at_target t env n target.Null e h = absurd cc

among_targets : (t : Task) (env : List ℤ) (n : ℕ) (xs : List Target) (e : Edge) → edge_of_source (source_among t env n xs) ≡ Some e → GoesTo t n e
among_targets t env n [] e h = absurd cc
among_targets t env n (x ∷ xs) e h = at_target t env n x e h

source_edge : (P : Plan) (t : Task) (n : ℕ) (e : Edge) → edge_of_source (data_source P t n) ≡ Some e → GoesTo t n e
unfolding data_source
source_edge P t n e h = by (slice_get (flows_of P t) n) h
  where
    by : (o : Option FlowPlan) → edge_of_source (option_map_or
        (λ f. source_among t (locals_of P t) n (flow_ins (locals_of P t) f)) o source.Nothing) ≡ Some e → GoesTo t n e
    by None k = absurd cc
    by (Some f) k = among_targets t (locals_of P t) n (flow_ins (locals_of P t) f) e k

pub edge_goes : (P : Plan) (t : Task) (n : ℕ) (f : FlowPlan) (e : Edge) → edge_into P t n f ≡ Some e → GoesTo t n e
edge_goes P t n f e h =
    by_test (is_data (Some f.kind))
    (λ k. source_edge P t n e (sym (ap (λ b. cond b (edge_of_source (data_source P t n)) None) k) ∙ h))
    (λ k. let no : None ≡ Some e = sym (ap (λ b. cond b (edge_of_source (data_source P t n)) None) k) ∙ h in absurd cc)

module _ (P : Plan) (G : Data) where
  from_edge : (d : Delivery) (f : FlowPlan) (s : Source) (e : Edge) → edge_of_source s ≡ Some e → tile_from P G d f s ≡ d e
  from_edge d f (source.Task x) e h = let same : x ≡ e = cc in ap d same
  from_edge d f (source.Place p) e h = absurd cc
  from_edge d f source.New e h = absurd cc
  from_edge d f source.Null e h = absurd cc
  from_edge d f source.Nothing e h = absurd cc

  from_none : (d g : Delivery) (f : FlowPlan) (s : Source) → edge_of_source s ≡ None → tile_from P G d f s ≡ tile_from P G g f s
  from_none d g f (source.Task x) h = absurd cc
  from_none d g f (source.Place p) h = refl
  from_none d g f source.New h = refl
  from_none d g f source.Null h = refl
  from_none d g f source.Nothing h = refl

  -- a flow whose tile comes by an edge starts on what the edge delivers
  pub edge_tile : (d : Delivery) (t : Task) (n : ℕ) (f : FlowPlan) (e : Edge) → edge_into P t n f ≡ Some e → starting_tile P G d t n f ≡ d e
  edge_tile d t n f e h =
      by_test (is_data (Some f.kind))
      (λ k. ap (λ b. cond b (tile_from P G d f (data_source P t n)) None) k
      ∙ from_edge d f (data_source P t n) e (sym (ap (λ b. cond b (edge_of_source (data_source P t n)) None) k)
      ∙ h))
      (λ k. let no : None ≡ Some e = sym (ap (λ b. cond b (edge_of_source (data_source P t n)) None) k) ∙ h in absurd cc)

  -- another one starts on the same whatever edges deliver
  pub other_tile : (d g : Delivery) (t : Task) (n : ℕ) (f : FlowPlan) → edge_into P t n f ≡ None → starting_tile P G d t n f ≡ starting_tile P G g t n f
  other_tile d g t n f h =
      by_test (is_data (Some f.kind))
      (λ k. ap (λ b. cond b (tile_from P G d f (data_source P t n)) None) k
      ∙ from_none d g f (data_source P t n) (sym (ap (λ b. cond b (edge_of_source (data_source P t n)) None) k) ∙ h)
      ∙ sym (ap (λ b. cond b (tile_from P G g f (data_source P t n)) None) k))
      (λ k. ap (λ b. cond b (tile_from P G d f (data_source P t n)) None) k ∙ sym (ap (λ b. cond b (tile_from P G g f (data_source P t n)) None) k))

  -- flows from m on start on the same if the edges to them deliver the same
  module _ (d g : Delivery) (t : Task) (m : ℕ) (same : (e : Edge) → e.to ≡ t → m ≤ e.in_flow → d e ≡ g e) where
    tile_same : (n : ℕ) (f : FlowPlan) → m ≤ n → starting_tile P G d t n f ≡ starting_tile P G g t n f
    tile_same n f h = by (edge_into P t n f) refl
      where
        by : (o : Option Edge) → edge_into P t n f ≡ o → starting_tile P G d t n f ≡ starting_tile P G g t n f
        by None k = other_tile d g t n f k
        by (Some e) k = let goes = edge_goes P t n f e k in edge_tile d t n f e k
            ∙ same e goes.to (omega (arith, goes.in_flow, h)) ∙ sym (edge_tile g t n f e k)

    pub tiles_same : (n : ℕ) (fs : List FlowPlan) → m ≤ n → tiles_from P G d t n fs ≡ tiles_from P G g t n fs
    tiles_same n [] h = refl
    tiles_same n (f ∷ fs) h = λ i. tile_same n f h i ∷ tiles_same (suc n) fs (omega arith) i

  -- the tiles with one more flow done
  pub one_done : (d : Delivery) (t : Task) (n : ℕ) (f : FlowPlan) (rest : List FlowPlan)
      (before tiles : List (Option (List ℤ))) (y : Option (List ℤ)) → y ≡ starting_tile P G d t n f
      → tiles ≡ before ++ y ∷ tiles_from P G nothing_delivered t (suc n) rest
      → tiles ≡ (before ++ starting_tile P G d t n f ∷ []) ++ tiles_from P G nothing_delivered t (n + 1) rest
  one_done d t n f rest before tiles y is e =
      e ∙ sym (append_assoc before (y ∷ []) (tiles_from P G nothing_delivered t (suc n) rest))
      ∙ (λ i. (before ++ is i ∷ []) ++ tiles_from P G nothing_delivered t (sym (add-one n) i) rest)

-- a write right after a list of this length
pub set_at : {A : Type 0} (before rest : List A) (x y : A) (n : ℕ) → length before ≡ n → slice_set (before ++ x ∷ rest) n y ≡ before ++ y ∷ rest
set_at [] rest x y zero h = refl
set_at [] rest x y (suc n) h = absurd (omega arith)
set_at (b ∷ bs) rest x y zero h = absurd (omega arith)
set_at (b ∷ bs) rest x y (suc n) h = ap (λ l. b ∷ l) (set_at bs rest x y n (omega arith))

pub length_push : {A : Type 0} (xs : List A) (x : A) (n : ℕ) → length xs ≡ n → length (xs ++ x ∷ []) ≡ n + 1
length_push [] x n h = omega arith
length_push (y ∷ ys) x zero h = absurd (omega arith)
length_push (y ∷ ys) x (suc n) h = let k = length_push ys x n (omega arith) in omega (arith, k)

-- what a flow starts on follows from its source, and so does the edge that brings it
pub tile_of_source : (P : Plan) (G : Data) (d : Delivery) (t : Task) (n : ℕ) (f : FlowPlan) → tile_from P G d f (source_of P t n f) ≡ starting_tile P G d t n f
tile_of_source P G d t n f = by (is_data (Some f.kind))
  where
    by : (b : Bool) → tile_from P G d f (cond b (data_source P t n) source.Null) ≡ cond b (tile_from P G d f (data_source P t n)) None
    by true = refl
    by false = refl

pub edge_of_its_source : (P : Plan) (t : Task) (n : ℕ) (f : FlowPlan) → edge_of_source (source_of P t n f) ≡ edge_into P t n f
edge_of_its_source P t n f = by (is_data (Some f.kind))
  where
    by : (b : Bool) → edge_of_source (cond b (data_source P t n) source.Null) ≡ cond b (edge_of_source (data_source P t n)) None
    by true = refl
    by false = refl

-- an edge that is missing as an item is missing
pub no_item : (o : Option Edge) → option_map (λ e. item.Edge e) o ≡ None → o ≡ None
no_item None h = refl
no_item (Some e) h = absurd cc

pub an_item : (o : Option Edge) (i : Item) → option_map (λ e. item.Edge e) o ≡ Some i → (e : Edge) × (o ≡ Some e) × (item.Edge e ≡ i)
an_item None i h = absurd cc
an_item (Some e) i h = (e, refl, cc)

-- the first of the edges to these flows, and the others
pub record HasFirst (P : Plan) (t : Task) (n : ℕ) (fs : List FlowPlan) (x : Option Item) (xs : List (Option Item)) : Type 0 where
  pub flow : FlowPlan
  pub others : List FlowPlan
  pub split : fs ≡ flow ∷ others
  pub first : x ≡ option_map (λ e. item.Edge e) (edge_into P t n flow)
  pub rest : xs ≡ edges_from P t (n + 1) others

pub first_edge : (P : Plan) (t : Task) (n : ℕ) (fs : List FlowPlan) (x : Option Item) (xs : List (Option Item))
    → x ∷ xs ≡ edges_from P t n fs → HasFirst P t n fs x xs
first_edge P t n [] x xs h = absurd cc
first_edge P t n (f ∷ fs) x xs h =
    let rest : xs ≡ edges_from P t (suc n) fs = cc in
    record { flow = f; others = fs; split = refl; first = cc; rest = rest ∙ ap (λ k. edges_from P t k fs) (sym (add-one n)) }

pub no_edges : (P : Plan) (t : Task) (n : ℕ) (fs : List FlowPlan) (xs : List (Option Item)) → length xs ≡ 0 → xs ≡ edges_from P t n fs → fs ≡ []
no_edges P t n [] xs none h = refl
no_edges P t n (f ∷ fs) xs none h = absurd (omega (arith, ap length h, none))

pub length-edges_from : (P : Plan) (t : Task) (n : ℕ) (fs : List FlowPlan) → length (edges_from P t n fs) ≡ length fs
length-edges_from P t n [] = refl
length-edges_from P t n (f ∷ fs) = ap suc (length-edges_from P t (suc n) fs)
